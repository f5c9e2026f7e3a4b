use Rattle.std.proofs.Common.{take}
use Rattle.description_hints.proofs.Words.{Held}
use Rattle.description_hints.proofs.known.set_of.Given as goal

abbrev pub invariant-loop-word : goal.invariant-loop-word
invariant-loop-word l = Held l.set.keys (take l.word-index l.words)
