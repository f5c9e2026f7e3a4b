use Rattle.std.proofs.Common.{◌≡◌, ◌++◌, drop, map}
use Rattle.description.specs.View.{groups_said}
use Rattle.help_differences.specs.Level.{names_of_groups}
use Rattle.help_differences.specs.View.{name_said}
use Rattle.help_differences.proofs.level.push_groups.Given as goal

abbrev pub invariant-loop-group : goal.invariant-loop-group
invariant-loop-group g l = record {
  so_far : map name_said l.names.items ++ names_of_groups (groups_said (drop l.group-index l.groups)) ≡ map name_said l.initial.names.items ++ names_of_groups (groups_said l.groups);
}
