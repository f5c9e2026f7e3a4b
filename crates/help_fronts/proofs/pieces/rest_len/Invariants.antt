use Rattle.std.proofs.Common.{◌≡◌, ◌+◌, ◌≤◌, drop, length}
use Rattle.help_fronts.specs.Pieces.{deeper, rest_len}
use Rattle.help_fronts.proofs.pieces.rest_len.Given as goal

abbrev pub invariant-loop-index : goal.invariant-loop-index
invariant-loop-index l = record {
  in_range : l.index ≤ length l.after;
  shallow : l.depth ≤ l.index + 1;
  passed : l.index + rest_len l.depth l.before (drop l.index l.after) ≡ rest_len (deeper 0 l.first) l.first l.after;
}
