use Rattle.std.proofs.Common.{map, take}
use Rattle.json_of_descriptions.specs.Descriptions.{positional_json}
use Rattle.description.specs.View.{positional_said}
use Rattle.json_of_descriptions.specs.Steps.{PutsValues}
use Rattle.json_of_descriptions.proofs.lists.put_each_positional.Given as goal

abbrev pub invariant-loop-positional : goal.invariant-loop-positional
invariant-loop-positional g l = PutsValues l.fn.out l.out (map positional_json (map positional_said (take l.positional-index l.positionals)))
