use Rattle.std.proofs.Common.{◌≡◌, length}
use Rattle.drafts.specs.Entries.{has_dots}
use Rattle.drafts.proofs.entries.has_dots.Given as goal

abbrev pub invariant-loop-rest : goal.invariant-loop-rest
invariant-loop-rest l = has_dots l.rest ≡ has_dots l.text

abbrev pub decreases-loop-rest : goal.decreases-loop-rest
decreases-loop-rest l = length l.rest
