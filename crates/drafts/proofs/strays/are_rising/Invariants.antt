use Rattle.std.proofs.Common.{◌≡◌, length}
use Rattle.drafts.specs.Strays.{are_rising}
use Rattle.drafts.proofs.strays.are_rising.Given as goal

abbrev pub invariant-loop-rest : goal.invariant-loop-rest
invariant-loop-rest l = are_rising l.rest ≡ are_rising l.bytes

abbrev pub decreases-loop-rest : goal.decreases-loop-rest
decreases-loop-rest l = length l.rest
