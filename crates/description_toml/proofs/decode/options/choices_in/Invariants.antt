use Rattle.description_toml.specs.Described.{choice_from}
use Rattle.description_toml.specs.Described.Values.{in_table}
use Rattle.description.specs.View.{choice_said}
use Rattle.description_toml.proofs.Tables.{ListSoFar}
use Rattle.description_toml.proofs.decode.options.choices_in.Given as goal

abbrev pub invariant-loop-item : goal.invariant-loop-item
invariant-loop-item g l = ListSoFar (in_table choice_from) choice_said (λ list. list.items) l.items l.choices l.item-index
