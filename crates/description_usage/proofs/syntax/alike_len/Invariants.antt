use Rattle.std.proofs.Common.{◌≡◌, ◌+◌, ◌≤◌, drop, length}
use Rattle.std.specs.List.{prefix_len}
use Rattle.description_usage.specs.Syntax.{is_same}
use Rattle.description_usage.specs.Syntax.Steps.{is_in}
use Rattle.description_usage.proofs.syntax.alike_len.Given as goal

abbrev pub invariant-loop-index : goal.invariant-loop-index
invariant-loop-index l = record {
  in_range : l.index ≤ length l.bytes;
  alike : l.index + prefix_len (λ byte. is_same l.are_in (is_in l.class byte)) (drop l.index l.bytes) ≡ prefix_len (λ byte. is_same l.are_in (is_in l.class byte)) l.bytes;
}
