use Rattle.description_toml.specs.Described.{choice_from}
use Rattle.description_toml.specs.Described.Values.{in_table}
use Rattle.description.specs.View.{choice_said}
use Rattle.description_toml.proofs.Tables.{item_joined, items_joined}
use Rattle.description_toml.proofs.decode.options.choices_in.Goals as goal

pub loop-item-preserved : goal.loop-item-preserved
loop-item-preserved g c = item_joined (in_table choice_from) choice_said (λ list. list.items) c.args.items.now c.loop-item.item-index c.loop-item.choices c.choice_from-choice.result c.joined-choices.result c.loop-item-test.true c.item-item.is c.loop-item.invariant c.choice_from-choice.ensures c.joined-choices.ensures

pub returns : goal.returns
returns g c = items_joined (in_table choice_from) choice_said (λ list. list.items) c.args.items.now c.loop-item.item-index c.loop-item.choices c.loop-item-test.false c.loop-item.invariant
