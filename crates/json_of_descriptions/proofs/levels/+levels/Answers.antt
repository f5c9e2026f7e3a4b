use Rattle.std.proofs.Common.{sym, ◌∙◌}
use Rattle.std.proofs.lemmas.Result.{on_ok_weaker}
use Rattle.description.specs.View.{command_said, group_said}
use Rattle.json_of_descriptions.specs.Descriptions.{command_json, group_json}
use Rattle.json_of_descriptions.proofs.Nested.{command_put, group_put, level_put}
use Rattle.json_of_descriptions.proofs.Putting.{list_none, list_put, values_all, values_next}
use Rattle.json_of_descriptions.proofs.levels.+levels.Goals as goal

pub put_each_group-loop-group-preserved : goal.put_each_group-loop-group-preserved
put_each_group-loop-group-preserved g t c =
    values_next group_json group_said c.args.groups.now c.loop-group.group-index c.group-item.result c.group-item.result c.loop-group-test.true c.group-item.is c.loop-group.invariant c.in_ok-put_group.ensures

pub put_each_group-returns : goal.put_each_group-returns
put_each_group-returns g t c = values_all group_json group_said c.args.groups.now c.loop-group.group-index c.loop-group-test.false c.loop-group.invariant

pub put_groups-returns-then-is_empty : goal.put_groups-returns-then-is_empty
put_groups-returns-then-is_empty g t c =
    list_none group_json group_said c.args.out.now c.args.key.now c.args.groups.now.items c.as_slice-groups.result.now c.as_slice-groups.ensures.value (sym c.is_empty.ensures ∙ c.if-is_empty.true)

pub put_groups-returns : goal.put_groups-returns
put_groups-returns g t c =
    on_ok_weaker c.token.result
    (λ h. list_put group_json group_said c.args.key.now c.args.groups.now.items c.as_slice-groups.result.now c.as_slice-groups.ensures.value (sym c.is_empty.ensures ∙ c.if-is_empty.false) c.in_ok-begin_list.ensures c.in_ok-put_each_group.ensures h)
    c.token.ensures.ok

pub put_each_command-loop-command-preserved : goal.put_each_command-loop-command-preserved
put_each_command-loop-command-preserved g t c =
    values_next command_json command_said c.args.commands.now c.loop-command.command-index c.command-item.result c.command-item.result c.loop-command-test.true c.command-item.is c.loop-command.invariant c.in_ok-put_command.ensures

pub put_each_command-returns : goal.put_each_command-returns
put_each_command-returns g t c = values_all command_json command_said c.args.commands.now c.loop-command.command-index c.loop-command-test.false c.loop-command.invariant

pub put_commands-returns-then-is_empty : goal.put_commands-returns-then-is_empty
put_commands-returns-then-is_empty g t c =
    list_none command_json command_said c.args.out.now c.args.key.now c.args.commands.now.items c.as_slice-commands.result.now c.as_slice-commands.ensures.value (sym c.is_empty.ensures ∙ c.if-is_empty.true)

pub put_commands-returns : goal.put_commands-returns
put_commands-returns g t c =
    on_ok_weaker c.token.result
    (λ h. list_put command_json command_said c.args.key.now c.args.commands.now.items c.as_slice-commands.result.now c.as_slice-commands.ensures.value (sym c.is_empty.ensures ∙ c.if-is_empty.false) c.in_ok-begin_list.ensures c.in_ok-put_each_command.ensures h)
    c.token.ensures.ok

pub put_level-returns : goal.put_level-returns
put_level-returns g t c =
    on_ok_weaker c.put_topics.result
    (level_put c.args.level.now c.args.out.now c.put_texts.new.out c.put_flag_unless.new.out c.put_options.new.out c.put_choices.new.out c.put_groups.new.out c.put_positionals.new.out c.put_commands.new.out c.put_topics.new.out
    c.in_ok-put_texts.ensures c.in_ok-put_flag_unless.ensures c.in_ok-put_options.ensures c.in_ok-put_choices.ensures c.in_ok-put_groups.ensures c.in_ok-put_positionals.ensures c.in_ok-put_commands.ensures)
    c.put_topics.ensures

pub put_group-returns : goal.put_group-returns
put_group-returns g t c =
    on_ok_weaker c.token-2.result
    (group_put c.args.group.now c.args.out.now c.token.new.self c.put_text.new.out c.put_options.new.out c.put_choices.new.out c.put_positionals.new.out c.put_commands.new.out c.token-2.new.self
    c.in_ok-token.ensures.ok c.in_ok-put_text.ensures c.in_ok-put_options.ensures c.in_ok-put_choices.ensures c.in_ok-put_positionals.ensures c.in_ok-put_commands.ensures)
    c.token-2.ensures.ok

pub put_command-returns : goal.put_command-returns
put_command-returns g t c =
    on_ok_weaker c.token-2.result
    (command_put c.args.command.now c.args.out.now c.token.new.self c.put_names.new.out c.put_level.new.out c.token-2.new.self
    c.in_ok-token.ensures.ok c.in_ok-put_names.ensures c.in_ok-put_level.ensures)
    c.token-2.ensures.ok
