use Rattle.std.proofs.Common.{map, take}
use Rattle.json_of_descriptions.specs.Descriptions.{topic_json}
use Rattle.description.specs.View.{topic_said}
use Rattle.json_of_descriptions.specs.Steps.{PutsValues}
use Rattle.json_of_descriptions.proofs.lists.put_each_topic.Given as goal

abbrev pub invariant-loop-topic : goal.invariant-loop-topic
invariant-loop-topic g l = PutsValues l.fn.out l.out (map topic_json (map topic_said (take l.topic-index l.topics)))
