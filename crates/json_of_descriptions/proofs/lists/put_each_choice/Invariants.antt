use Rattle.std.proofs.Common.{map, take}
use Rattle.json_of_descriptions.specs.Descriptions.{choice_json}
use Rattle.description.specs.View.{choice_said}
use Rattle.json_of_descriptions.specs.Steps.{PutsValues}
use Rattle.json_of_descriptions.proofs.lists.put_each_choice.Given as goal

abbrev pub invariant-loop-choice : goal.invariant-loop-choice
invariant-loop-choice g l = PutsValues l.fn.out l.out (map choice_json (map choice_said (take l.choice-index l.choices)))
