use Rattle.description_toml.specs.Described.Steps.{words_of}
use Rattle.description_toml.proofs.Distinct.{Kept}
use Rattle.description_toml.proofs.decode.taken.put_distinct.Given as goal

abbrev pub invariant-loop-text : goal.invariant-loop-text
invariant-loop-text g l = Kept (words_of l.fn.words.items) (words_of l.words.items) l.seen.keys l.texts l.text-index
