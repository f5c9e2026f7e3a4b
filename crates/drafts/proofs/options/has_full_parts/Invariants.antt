use Rattle.std.proofs.Common.{◌≡◌, length}
use Rattle.drafts.specs.Options.{has_full_parts}
use Rattle.drafts.proofs.options.has_full_parts.Given as goal

abbrev pub invariant-loop-rest : goal.invariant-loop-rest
invariant-loop-rest l = has_full_parts l.rest ≡ has_full_parts l.text

abbrev pub decreases-loop-rest : goal.decreases-loop-rest
decreases-loop-rest l = length l.rest
