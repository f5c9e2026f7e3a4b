use Rattle.std.proofs.Common.{◌≡◌, ◌+◌, ◌≤◌, drop, length}
use Rattle.help_fronts.specs.Bytes.{free_len}
use Rattle.help_fronts.proofs.bytes.free_len.Given as goal

abbrev pub invariant-loop-index : goal.invariant-loop-index
invariant-loop-index l = record {
  in_range : l.index ≤ length l.bytes;
  passed : l.index + free_len l.class (drop l.index l.bytes) ≡ free_len l.class l.bytes;
}
