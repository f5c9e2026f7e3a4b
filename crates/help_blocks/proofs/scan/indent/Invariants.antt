use Rattle.std.proofs.Common.{◌≡◌, length, ◌≤◌, ◌+◌, min}
use Rattle.help_blocks.specs.Looks as looks
use Rattle.help_blocks.proofs.scan.indent.Given as goal

abbrev pub invariant-loop-rest : goal.invariant-loop-rest
invariant-loop-rest l = record { small : l.columns ≤ 64; so_far : min (l.columns + looks.columns l.rest) 64 ≡ looks.indent l.line }

abbrev pub decreases-loop-rest : goal.decreases-loop-rest
decreases-loop-rest l = length l.rest
