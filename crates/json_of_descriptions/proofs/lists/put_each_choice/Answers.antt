use Rattle.json_of_descriptions.specs.Descriptions.{choice_json}
use Rattle.description.specs.View.{choice_said}
use Rattle.json_of_descriptions.proofs.Putting.{values_all, values_next}
use Rattle.json_of_descriptions.proofs.lists.put_each_choice.Goals as goal

pub loop-choice-preserved : goal.loop-choice-preserved
loop-choice-preserved g c =
    values_next choice_json choice_said c.args.choices.now c.loop-choice.choice-index c.choice-item.result c.choice-item.result c.loop-choice-test.true c.choice-item.is c.loop-choice.invariant c.in_ok-put_choice.ensures

pub returns : goal.returns
returns g c = values_all choice_json choice_said c.args.choices.now c.loop-choice.choice-index c.loop-choice-test.false c.loop-choice.invariant
