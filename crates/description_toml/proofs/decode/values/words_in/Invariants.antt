use Rattle.description_toml.specs.Described.Kinds.{as_kind}
use Rattle.description_toml.specs.Described.Steps.{words_of}
use Rattle.description_toml.proofs.Tables.{ReadSoFar}
use Rattle.description_toml.proofs.decode.values.words_in.Given as goal

abbrev pub invariant-loop-item : goal.invariant-loop-item
invariant-loop-item g l = ReadSoFar (as_kind l.kind) l.items (words_of l.words.items) l.item-index
