use Rattle.std.proofs.Common.{map, take}
use Rattle.description.specs.View.{command_said, group_said}
use Rattle.json_of_descriptions.specs.Descriptions.{command_json, group_json}
use Rattle.json_of_descriptions.specs.Steps.{PutsValues}
use Rattle.json_of_descriptions.proofs.levels.+levels.Given as goal

abbrev pub invariant-put_each_group-loop-group : goal.invariant-put_each_group-loop-group
invariant-put_each_group-loop-group g l = PutsValues l.fn.out l.out (map group_json (map group_said (take l.group-index l.groups)))

abbrev pub invariant-put_each_command-loop-command : goal.invariant-put_each_command-loop-command
invariant-put_each_command-loop-command g l = PutsValues l.fn.out l.out (map command_json (map command_said (take l.command-index l.commands)))
