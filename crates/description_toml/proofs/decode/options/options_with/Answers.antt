use Rattle.description_toml.specs.Described.{option_from}
use Rattle.description_toml.specs.Described.Steps.{words_of}
use Rattle.description_toml.specs.Described.Values.{in_table}
use Rattle.description.specs.View.{opt_said}
use Rattle.description_toml.proofs.Tables.{item_joined, items_joined}
use Rattle.description_toml.proofs.decode.options.options_with.Goals as goal

pub loop-item-preserved : goal.loop-item-preserved
loop-item-preserved g c = item_joined (in_table (option_from (words_of c.args.keys.now))) opt_said (λ list. list.items) c.args.items.now c.loop-item.item-index c.loop-item.options c.option_from-option.result c.joined-options.result c.loop-item-test.true c.item-item.is c.loop-item.invariant c.option_from-option.ensures c.joined-options.ensures

pub returns : goal.returns
returns g c = items_joined (in_table (option_from (words_of c.args.keys.now))) opt_said (λ list. list.items) c.args.items.now c.loop-item.item-index c.loop-item.options c.loop-item-test.false c.loop-item.invariant
