use Rattle.replay.specs.Steps.{AreOf, letter_of}
use Rattle.replay.proofs.encoding.put_letters.Given as goal

abbrev pub invariant-loop-index : goal.invariant-loop-index
invariant-loop-index l = AreOf letter_of l.bytes l.index l.letters
