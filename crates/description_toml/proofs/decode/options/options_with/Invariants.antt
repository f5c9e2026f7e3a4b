use Rattle.description_toml.specs.Described.{option_from}
use Rattle.description_toml.specs.Described.Steps.{words_of}
use Rattle.description_toml.specs.Described.Values.{in_table}
use Rattle.description.specs.View.{opt_said}
use Rattle.description_toml.proofs.Tables.{ListSoFar}
use Rattle.description_toml.proofs.decode.options.options_with.Given as goal

abbrev pub invariant-loop-item : goal.invariant-loop-item
invariant-loop-item g l = ListSoFar (in_table (option_from (words_of l.keys))) opt_said (λ list. list.items) l.items l.options l.item-index
