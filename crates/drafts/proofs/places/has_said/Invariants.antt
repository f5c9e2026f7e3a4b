use Rattle.std.proofs.Common.{◌≡◌, drop, map}
use Rattle.std.specs.List.{list_any}
use Rattle.drafts.specs.Places.{is_said}
use Rattle.drafts.proofs.places.has_said.Given as goal

abbrev pub invariant-loop-line : goal.invariant-loop-line
invariant-loop-line l = record {
  same : list_any is_said (map (λ line. line.now) (drop l.line-index l.lines)) ≡ list_any is_said (map (λ line. line.now) l.lines);
}
