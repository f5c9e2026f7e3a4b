use Rattle.std.proofs.Common.{◌≡◌, ◌≤◌, length, take}
use Rattle.std.specs.List.{count_by}
use Rattle.description_usage.specs.Syntax.Steps.{is_in}
use Rattle.description_usage.proofs.syntax.count.Given as goal

abbrev pub invariant-loop-byte : goal.invariant-loop-byte
invariant-loop-byte l = record {
  in_range : l.byte-index ≤ length l.bytes;
  counted : l.count ≡ count_by (is_in l.class) (take l.byte-index l.bytes);
}
