use Rattle.std.proofs.Common.{◌≡◌, ◌+◌, ◌≤◌, drop, length}
use Rattle.help_fronts.specs.Usages.{value_len}
use Rattle.help_fronts.proofs.usage.value_len.Given as goal

abbrev pub invariant-loop-index : goal.invariant-loop-index
invariant-loop-index l = record {
  in_range : l.index ≤ length l.bytes;
  shallow : l.depth ≤ l.index;
  passed : l.index + value_len l.depth l.before (drop l.index l.bytes) ≡ value_len 0 32 l.bytes;
}
