use Rattle.std.proofs.Common.{◌≡◌, ◌+◌, ◌≤◌, drop, length}
use Rattle.std.specs.List.{prefix_len}
use Rattle.completions.specs.Syntax.{is_of_name}
use Rattle.completions.proofs.syntax.front_len.Given as goal

abbrev pub invariant-loop-index : goal.invariant-loop-index
invariant-loop-index l = record {
  in_range : l.index ≤ length l.bytes;
  alike : l.index + prefix_len is_of_name (drop l.index l.bytes) ≡ prefix_len is_of_name l.bytes;
}
