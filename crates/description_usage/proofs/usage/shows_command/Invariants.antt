use Rattle.std.proofs.Common.{◌≡◌, map, take, false}
use Rattle.std.specs.List.{list_any}
use Rattle.description.specs.View.{command_said}
use Rattle.description_usage.specs.Usage.{is_shown_command}
use Rattle.description_usage.proofs.usage.shows_command.Given as goal

abbrev pub invariant-loop-command : goal.invariant-loop-command
invariant-loop-command g l = list_any is_shown_command (map command_said (take l.command-index l.commands)) ≡ false
