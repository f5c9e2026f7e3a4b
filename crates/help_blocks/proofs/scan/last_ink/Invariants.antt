use Rattle.std.proofs.Common.{◌≡◌, length}
use Rattle.help_blocks.specs.Looks as looks
use Rattle.help_blocks.proofs.scan.last_ink.Given as goal

abbrev pub invariant-loop-rest : goal.invariant-loop-rest
invariant-loop-rest l = looks.last_ink l.last l.rest ≡ looks.last_ink 32 l.line

abbrev pub decreases-loop-rest : goal.decreases-loop-rest
decreases-loop-rest l = length l.rest
