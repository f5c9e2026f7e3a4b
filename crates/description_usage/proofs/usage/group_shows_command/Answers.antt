use Rattle.std.proofs.Common.{ap, map, sym, ◌∙◌}
use Rattle.std.specs.List.{list_any}
use Rattle.description.specs.View.{command_said, group_said}
use Rattle.description_usage.specs.Usage.{group_shows_command, is_shown_command}
use Rattle.description_usage.proofs.LevelParts.{group_commands_there, none_yet, one_passes}
use Rattle.description_usage.proofs.usage.group_shows_command.Goals as goal

pub returns-then-shows_command : goal.returns-then-shows_command
returns-then-shows_command g c =
    sym
    (one_passes group_said group_shows_command c.args.groups.now c.loop-group.group-index c.group-item.result c.group-item.is c.loop-group-test.true
    (group_commands_there c.group-item.result ∙ sym (ap (λ cs. list_any is_shown_command (map command_said cs)) c.as_slice.ensures.value) ∙ sym c.shows_command.ensures ∙ c.if-shows_command.true))

pub loop-group-preserved : goal.loop-group-preserved
loop-group-preserved g c =
    none_yet group_said c.args.groups.now c.loop-group.group-index c.group-item.result c.group-item.is c.loop-group-test.true group_shows_command
    (group_commands_there c.group-item.result ∙ sym (ap (λ cs. list_any is_shown_command (map command_said cs)) c.as_slice.ensures.value) ∙ sym c.shows_command.ensures ∙ c.if-shows_command.false) c.loop-group.invariant
