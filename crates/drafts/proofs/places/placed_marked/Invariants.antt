use Rattle.std.proofs.Common.{◌≡◌, ◌++◌, length, map}
use Rattle.drafts.specs.Places.{nothing_above, placed_from}
use Rattle.drafts.specs.View.{marked_said, placed_said}
use Rattle.drafts.proofs.places.placed_marked.Given as goal

abbrev pub invariant-loop-rest : goal.invariant-loop-rest
invariant-loop-rest g l = record {
  so_far : map placed_said l.found.items ++ placed_from l.above (map marked_said l.rest) ≡ placed_from nothing_above (map marked_said l.marked);
}

abbrev pub decreases-loop-rest : goal.decreases-loop-rest
decreases-loop-rest g l = length l.rest
