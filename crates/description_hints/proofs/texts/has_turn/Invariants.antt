use Rattle.std.proofs.Common.{◌≡◌, length}
use Rattle.description_hints.specs.Texts.{has_turn}
use Rattle.description_hints.proofs.texts.has_turn.Given as goal

abbrev pub invariant-loop-after : goal.invariant-loop-after
invariant-loop-after l = has_turn l.rest ≡ has_turn l.bytes

abbrev pub decreases-loop-after : goal.decreases-loop-after
decreases-loop-after l = length l.rest
