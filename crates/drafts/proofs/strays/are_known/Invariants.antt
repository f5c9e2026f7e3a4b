use Rattle.std.proofs.Common.{◌≡◌, length}
use Rattle.drafts.specs.Strays.{are_known}
use Rattle.drafts.specs.View.{held}
use Rattle.drafts.proofs.strays.are_known.Given as goal

abbrev pub invariant-loop-rest : goal.invariant-loop-rest
invariant-loop-rest g l = record {
  same : are_known (held l.taken) l.rest ≡ are_known (held l.taken) l.letters;
}

abbrev pub decreases-loop-rest : goal.decreases-loop-rest
decreases-loop-rest g l = length l.rest
