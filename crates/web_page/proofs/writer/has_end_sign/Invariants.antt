use Rattle.std.proofs.Common.{◌≡◌, length}
use Rattle.web_page.specs.Calls.{has_end_sign}
use Rattle.web_page.proofs.writer.has_end_sign.Given as goal

abbrev pub invariant-loop-rest : goal.invariant-loop-rest
invariant-loop-rest l = has_end_sign l.rest ≡ has_end_sign l.style

abbrev pub decreases-loop-rest : goal.decreases-loop-rest
decreases-loop-rest l = length l.rest
