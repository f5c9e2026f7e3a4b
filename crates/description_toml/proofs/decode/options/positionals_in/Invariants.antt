use Rattle.description_toml.specs.Described.{positional_from}
use Rattle.description_toml.specs.Described.Values.{in_table}
use Rattle.description.specs.View.{positional_said}
use Rattle.description_toml.proofs.Tables.{ListSoFar}
use Rattle.description_toml.proofs.decode.options.positionals_in.Given as goal

abbrev pub invariant-loop-item : goal.invariant-loop-item
invariant-loop-item g l = ListSoFar (in_table positional_from) positional_said (λ list. list.items) l.items l.positionals l.item-index
