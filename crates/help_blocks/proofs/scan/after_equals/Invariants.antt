use Rattle.std.proofs.Common.{◌≡◌, length}
use Rattle.help_blocks.specs.Looks as looks
use Rattle.help_blocks.proofs.scan.after_equals.Given as goal

abbrev pub invariant-loop-rest : goal.invariant-loop-rest
invariant-loop-rest l = looks.after_equals l.rest ≡ looks.after_equals l.text

abbrev pub decreases-loop-rest : goal.decreases-loop-rest
decreases-loop-rest l = length l.rest
