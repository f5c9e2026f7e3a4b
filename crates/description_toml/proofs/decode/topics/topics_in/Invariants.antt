use Rattle.description_toml.specs.Described.{topic_from}
use Rattle.description_toml.specs.Described.Values.{in_table}
use Rattle.description.specs.View.{topic_said}
use Rattle.description_toml.proofs.Tables.{ListSoFar}
use Rattle.description_toml.proofs.decode.topics.topics_in.Given as goal

abbrev pub invariant-loop-item : goal.invariant-loop-item
invariant-loop-item g l = ListSoFar (in_table topic_from) topic_said (λ list. list.items) l.items l.topics l.item-index
