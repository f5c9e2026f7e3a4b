use Rattle.std.proofs.Common.{ap, map, sym, ◌∙◌, ◌||◌}
use Rattle.std.specs.List.{list_any}
use Rattle.description.specs.View.{command_said, group_said}
use Rattle.description_usage.specs.Usage.{group_shows_command, is_shown_command}
use Rattle.description_usage.proofs.LevelParts.{commands_there, level_groups}
use Rattle.description_usage.proofs.usage.level_shows_command.Goals as goal

pub returns-then-shows_command : goal.returns-then-shows_command
returns-then-shows_command g c =
    let l = c.args.level.now in
    let own = c.shows_command.ensures ∙ ap (λ cs. list_any is_shown_command (map command_said cs)) c.as_slice.ensures.value in
    c.if-shows_command.true ∙ ap (λ b. b || list_any group_shows_command (level_groups l)) (sym c.if-shows_command.true ∙ own) ∙ sym (commands_there l)

pub returns-else-shows_command : goal.returns-else-shows_command
returns-else-shows_command g c =
    let l = c.args.level.now in
    let own = c.shows_command.ensures ∙ ap (λ cs. list_any is_shown_command (map command_said cs)) c.as_slice.ensures.value in
    c.group_shows_command.ensures ∙ ap (λ gs. list_any group_shows_command (map group_said gs)) c.as_slice-else-shows_command.ensures.value
    ∙ ap (λ b. b || list_any group_shows_command (level_groups l)) (sym c.if-shows_command.false ∙ own) ∙ sym (commands_there l)
