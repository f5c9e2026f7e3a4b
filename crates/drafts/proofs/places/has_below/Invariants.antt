use Rattle.std.proofs.Common.{◌≡◌, drop, map}
use Rattle.drafts.specs.Places.{has_below, is_at}
use Rattle.drafts.specs.View.{marked_said}
use Rattle.drafts.proofs.places.has_below.Given as goal

abbrev pub invariant-loop-marked : goal.invariant-loop-marked
invariant-loop-marked l = record {
  same : has_below (is_at l.sought) (map marked_said (drop l.marked-index l.below)) ≡ has_below (is_at l.sought) (map marked_said l.below);
}
