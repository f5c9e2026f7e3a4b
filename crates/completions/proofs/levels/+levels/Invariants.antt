use Rattle.std.proofs.Common.{◌≡◌, ◌++◌, drop, string_bytes}
use Rattle.description.specs.View.{commands_said, groups_said}
use Rattle.completions.specs.Table.{commands_entries, groups_entries}
use Rattle.completions.specs.Written.{data_text}
use Rattle.completions.proofs.levels.+levels.Given as goal

abbrev pub invariant-push_groups-loop-group : goal.invariant-push_groups-loop-group
invariant-push_groups-loop-group g l =
    string_bytes l.out ++ data_text l.shell (groups_entries (groups_said (drop l.group-index l.group-items)))
    ≡ string_bytes l.fn.out ++ data_text l.shell (groups_entries (groups_said l.groups.items))

abbrev pub invariant-push_commands-loop-command : goal.invariant-push_commands-loop-command
invariant-push_commands-loop-command g l =
    string_bytes l.out ++ data_text l.shell (commands_entries (commands_said (drop l.command-index l.command-items)))
    ≡ string_bytes l.fn.out ++ data_text l.shell (commands_entries (commands_said l.commands.items))
