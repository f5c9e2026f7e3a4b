use Rattle.std.proofs.Common.{◌≡◌, ◌≤◌, length, take}
use Rattle.std.specs.List.{count_by}
use Rattle.description_usage.specs.Syntax.{is_closing, is_opening}
use Rattle.description_usage.proofs.Parts.{CutSoFar}
use Rattle.description_usage.proofs.syntax.first_outside.Given as goal

abbrev pub invariant-loop-index : goal.invariant-loop-index
invariant-loop-index l = record {
  in_range : l.index ≤ length l.bytes;
  opened : l.opened ≡ count_by is_opening (take l.index l.bytes);
  closed : l.closed ≡ count_by is_closing (take l.index l.bytes);
  cut : CutSoFar l.mark l.bytes l.index;
}
