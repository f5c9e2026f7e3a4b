use Rattle.std.proofs.Common.{◌≡◌, ◌+◌, ◌≤◌, drop, length}
use Rattle.std.specs.List.{prefix_len}
use Rattle.help_fronts.specs.Bytes.{is_in}
use Rattle.help_fronts.proofs.bytes.front_len.Given as goal

abbrev pub invariant-loop-index : goal.invariant-loop-index
invariant-loop-index l = record {
  in_range : l.index ≤ length l.bytes;
  passed : l.index + prefix_len (is_in l.class) (drop l.index l.bytes) ≡ prefix_len (is_in l.class) l.bytes;
}
