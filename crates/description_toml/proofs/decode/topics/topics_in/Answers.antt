use Rattle.description_toml.specs.Described.{topic_from}
use Rattle.description_toml.specs.Described.Values.{in_table}
use Rattle.description.specs.View.{topic_said}
use Rattle.description_toml.proofs.Tables.{item_joined, items_joined}
use Rattle.description_toml.proofs.decode.topics.topics_in.Goals as goal

pub loop-item-preserved : goal.loop-item-preserved
loop-item-preserved g c = item_joined (in_table topic_from) topic_said (λ list. list.items) c.args.items.now c.loop-item.item-index c.loop-item.topics c.topic_from-topic.result c.joined-topics.result c.loop-item-test.true c.item-item.is c.loop-item.invariant c.topic_from-topic.ensures c.joined-topics.ensures

pub returns : goal.returns
returns g c = items_joined (in_table topic_from) topic_said (λ list. list.items) c.args.items.now c.loop-item.item-index c.loop-item.topics c.loop-item-test.false c.loop-item.invariant
