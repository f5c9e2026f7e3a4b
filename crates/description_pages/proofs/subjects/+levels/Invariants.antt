use Rattle.std.proofs.Common.{◌≡◌, ◌++◌, drop, map}
use Rattle.description.specs.View.{commands_said, groups_said}
use Rattle.description_pages.specs.LevelsView.{subject_of}
use Rattle.description_pages.specs.Subjects.{below_commands, below_groups}
use Rattle.description_pages.proofs.subjects.+levels.Given as goal

abbrev pub invariant-push_groups-loop-group : goal.invariant-push_groups-loop-group
invariant-push_groups-loop-group g l =
    map subject_of l.found.items ++ below_groups (subject_of l.above) (groups_said (drop l.group-index l.group-items))
    ≡ map subject_of l.fn.found.items ++ below_groups (subject_of l.above) (groups_said l.groups.items)

abbrev pub invariant-push_commands-loop-command : goal.invariant-push_commands-loop-command
invariant-push_commands-loop-command g l =
    map subject_of l.found.items ++ below_commands (subject_of l.above) (commands_said (drop l.command-index l.command-items))
    ≡ map subject_of l.fn.found.items ++ below_commands (subject_of l.above) (commands_said l.commands.items)
