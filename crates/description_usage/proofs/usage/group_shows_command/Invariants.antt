use Rattle.std.proofs.Common.{◌≡◌, map, take, false}
use Rattle.std.specs.List.{list_any}
use Rattle.description.specs.View.{group_said}
use Rattle.description_usage.specs.Usage.{group_shows_command}
use Rattle.description_usage.proofs.usage.group_shows_command.Given as goal

abbrev pub invariant-loop-group : goal.invariant-loop-group
invariant-loop-group g l = list_any group_shows_command (map group_said (take l.group-index l.groups)) ≡ false
