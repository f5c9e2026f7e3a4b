use Rattle.std.proofs.Common.{refl}
use Rattle.json_of_descriptions.specs.Descriptions.{topic_json}
use Rattle.description.specs.View.{topic_said}
use Rattle.json_of_descriptions.proofs.Putting.{values_all, values_next}
use Rattle.json_of_descriptions.proofs.lists.put_each_topic.Goals as goal

pub loop-topic-preserved : goal.loop-topic-preserved
loop-topic-preserved g c =
    values_next topic_json topic_said c.args.topics.now c.loop-topic.topic-index _ _ c.loop-topic-test.true refl c.loop-topic.invariant c.in_ok-put_topic.ensures

pub returns : goal.returns
returns g c = values_all topic_json topic_said c.args.topics.now c.loop-topic.topic-index c.loop-topic-test.false c.loop-topic.invariant
