use Rattle.std.proofs.Common.{◌≡◌, length}
use Rattle.help_blocks.specs.Looks as looks
use Rattle.help_blocks.proofs.scan.is_in_capitals.Given as goal

abbrev pub invariant-loop-rest : goal.invariant-loop-rest
invariant-loop-rest l = looks.has_no_small l.rest ≡ looks.has_no_small l.initial.rest

abbrev pub decreases-loop-rest : goal.decreases-loop-rest
decreases-loop-rest l = length l.rest
