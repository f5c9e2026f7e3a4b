use Rattle.std.proofs.Common.{◌≡◌, drop, map}
use Rattle.std.specs.List.{find}
use Rattle.description.specs.View.{command_said}
use Rattle.description_pages.specs.Subjects.{is_named}
use Rattle.description_pages.proofs.subjects.listed_command.Given as goal

abbrev pub invariant-loop-command : goal.invariant-loop-command
invariant-loop-command g l =
    find (is_named l.word) (map command_said (drop l.command-index l.commands))
    ≡ find (is_named l.word) (map command_said l.commands)
