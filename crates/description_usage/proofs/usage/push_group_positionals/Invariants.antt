use Rattle.std.proofs.Common.{◌≡◌, ◌++◌, flat_map, map, take}
use Rattle.description.specs.View.{group_said, positional_said}
use Rattle.description_usage.specs.Usage.{group_positionals, shown_positionals}
use Rattle.description_usage.proofs.usage.push_group_positionals.Given as goal

abbrev pub invariant-loop-group : goal.invariant-loop-group
invariant-loop-group g l = map positional_said l.shown.items ≡ map positional_said l.fn.shown.items ++ shown_positionals (flat_map group_positionals (map group_said (take l.group-index l.groups)))
