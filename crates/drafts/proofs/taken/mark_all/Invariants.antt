use Rattle.std.proofs.Common.{◌≡◌, ◌++◌, length, map}
use Rattle.drafts.specs.Places.{marked, marked_from}
use Rattle.drafts.specs.View.{marked_said, passage_said, taken_said}
use Rattle.drafts.proofs.taken.mark_all.Given as goal

abbrev pub invariant-loop-rest : goal.invariant-loop-rest
invariant-loop-rest g l = record {
  so_far : map marked_said l.found.items ++ marked_from (taken_said l.taken) (map passage_said l.rest) ≡ marked (map passage_said l.passages);
}

abbrev pub decreases-loop-rest : goal.decreases-loop-rest
decreases-loop-rest g l = length l.rest
