use Rattle.std.proofs.Common.{map, take}
use Rattle.json_of_descriptions.specs.Descriptions.{option_json}
use Rattle.description.specs.View.{opt_said}
use Rattle.json_of_descriptions.specs.Steps.{PutsValues}
use Rattle.json_of_descriptions.proofs.lists.put_each_option.Given as goal

abbrev pub invariant-loop-option : goal.invariant-loop-option
invariant-loop-option g l = PutsValues l.fn.out l.out (map option_json (map opt_said (take l.option-index l.options)))
