use Rattle.description_toml.specs.Described.{positional_from}
use Rattle.description_toml.specs.Described.Values.{in_table}
use Rattle.description.specs.View.{positional_said}
use Rattle.description_toml.proofs.Tables.{item_joined, items_joined}
use Rattle.description_toml.proofs.decode.options.positionals_in.Goals as goal

pub loop-item-preserved : goal.loop-item-preserved
loop-item-preserved g c = item_joined (in_table positional_from) positional_said (λ list. list.items) c.args.items.now c.loop-item.item-index c.loop-item.positionals c.positional_from-positional.result c.joined-positionals.result c.loop-item-test.true c.item-item.is c.loop-item.invariant c.positional_from-positional.ensures c.joined-positionals.ensures

pub returns : goal.returns
returns g c = items_joined (in_table positional_from) positional_said (λ list. list.items) c.args.items.now c.loop-item.item-index c.loop-item.positionals c.loop-item-test.false c.loop-item.invariant
