use Rattle.std.proofs.Common.{◌≡◌, ◌++◌, drop, map}
use Rattle.description_pages.specs.Rows.{row_said}
use Rattle.description.specs.View.{commands_said}
use Rattle.description_pages.specs.Sections.{command_rows}
use Rattle.description.specs.Words.{words_said}
use Rattle.description_pages.proofs.sections.push_commands.Given as goal

abbrev pub invariant-loop-command : goal.invariant-loop-command
invariant-loop-command g l =
    map row_said l.rows.items ++ command_rows (words_said l.making.words.now) l.making.detail l.making.depth (map (λ name. name.now) l.making.names.now) (commands_said (drop l.command-index l.commands))
    ≡ map row_said l.initial.rows.items ++ command_rows (words_said l.making.words.now) l.making.detail l.making.depth (map (λ name. name.now) l.making.names.now) (commands_said l.commands)
