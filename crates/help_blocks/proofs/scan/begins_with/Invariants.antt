use Rattle.std.proofs.Common.{◌≡◌, length}
use Rattle.help_blocks.specs.Looks as looks
use Rattle.help_blocks.proofs.scan.begins_with.Given as goal

abbrev pub invariant-loop-left : goal.invariant-loop-left
invariant-loop-left l = looks.begins_with l.left l.rest ≡ looks.begins_with l.word l.text

abbrev pub decreases-loop-left : goal.decreases-loop-left
decreases-loop-left l = length l.left
