use Rattle.std.proofs.Common.{◌≡◌, ◌++◌, drop, map}
use Rattle.description.specs.View.{commands_said}
use Rattle.help_differences.specs.Level.{names_of_commands}
use Rattle.help_differences.specs.View.{name_said}
use Rattle.help_differences.proofs.level.push_commands.Given as goal

abbrev pub invariant-loop-command : goal.invariant-loop-command
invariant-loop-command g l = record {
  so_far : map name_said l.names.items ++ names_of_commands (commands_said (drop l.command-index l.commands)) ≡ map name_said l.initial.names.items ++ names_of_commands (commands_said l.commands);
}
