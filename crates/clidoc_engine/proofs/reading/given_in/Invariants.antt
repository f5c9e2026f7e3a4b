use Rattle.std.proofs.Common.{◌≡◌, drop}
use Rattle.clidoc_engine.specs.Chosen.{words_said}
use Rattle.clidoc_engine.specs.Reading.{before, given_after, given_of}
use Rattle.clidoc_engine.specs.Words.{given_in}
use Rattle.clidoc_engine.proofs.reading.given_in.Given as goal

abbrev pub invariant-loop-word : goal.invariant-loop-word
invariant-loop-word g l = before (given_of l.given) (given_after l.next (words_said (drop l.word-index l.words))) ≡ given_in (words_said l.words)
