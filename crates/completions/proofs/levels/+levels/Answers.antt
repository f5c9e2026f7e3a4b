use Rattle.std.proofs.Common.{◌++◌, ap, string_bytes, sym, ◌∙◌}
use Rattle.std.proofs.lemmas.Result.{on_ok_weaker}
use Rattle.description.specs.View.{commands_said, groups_said}
use Rattle.completions.specs.Table.{commands_entries, groups_entries}
use Rattle.completions.specs.View.{entry_said}
use Rattle.completions.specs.Written.{data_text}
use Rattle.completions.proofs.Members.{command_hidden, command_put, group_put, last_command, last_group, level_put, next_command, next_group}
use Rattle.completions.proofs.Writing.{writes_none}
use Rattle.completions.proofs.levels.+levels.Goals as goal

pub push_level-returns : goal.push_level-returns
push_level-returns g t c =
    on_ok_weaker c.push_commands.result
    (level_put c.args.shell c.args.level.now c.as_slice.result.now c.as_slice-2.result.now c.as_slice-3.result.now (string_bytes c.args.out.now) (string_bytes c.push_groups.new.out) (string_bytes c.push_options.new.out) (string_bytes c.push_choices.new.out) (string_bytes c.push_places.new.out) (string_bytes c.push_unsaid_places.new.out) (string_bytes c.push_commands.new.out)
    c.as_slice.ensures.value c.as_slice-2.ensures.value c.as_slice-3.ensures.value c.in_ok-push_groups.ensures c.in_ok-push_options.ensures c.in_ok-push_choices.ensures c.in_ok-push_places.ensures c.in_ok-push_unsaid_places.ensures)
    c.push_commands.ensures

pub push_group-returns : goal.push_group-returns
push_group-returns g t c =
    on_ok_weaker c.push_commands.result
    (group_put c.args.shell c.args.group.now c.as_slice.result.now c.as_slice-2.result.now c.as_slice-3.result.now (string_bytes c.args.out.now) (string_bytes c.push_options.new.out) (string_bytes c.push_choices.new.out) (string_bytes c.push_places.new.out) (string_bytes c.push_commands.new.out)
    c.as_slice.ensures.value c.as_slice-2.ensures.value c.as_slice-3.ensures.value c.in_ok-push_options.ensures c.in_ok-push_choices.ensures c.in_ok-push_places.ensures)
    c.push_commands.ensures

pub push_groups-loop-group-preserved : goal.push_groups-loop-group-preserved
push_groups-loop-group-preserved g t c =
    let whole = string_bytes c.args.out.now ++ data_text c.args.shell (groups_entries (groups_said c.args.groups.now.items)) in
    next_group c.args.shell c.deref-group-items.result.now c.loop-group.group-index c.group-item.result (string_bytes c.loop-group.out) (string_bytes c.push_group.new.out) whole c.loop-group-test.true c.group-item.is c.in_ok-push_group.ensures
    c.loop-group.invariant

pub push_groups-returns : goal.push_groups-returns
push_groups-returns g t c = last_group c.args.shell c.deref-group-items.result.now c.loop-group.group-index (string_bytes c.loop-group.out) _ c.loop-group-test.false c.loop-group.invariant

pub push_commands-loop-command-preserved : goal.push_commands-loop-command-preserved
push_commands-loop-command-preserved g t c =
    let whole = string_bytes c.args.out.now ++ data_text c.args.shell (commands_entries (commands_said c.args.commands.now.items)) in
    next_command c.args.shell c.deref-command-items.result.now c.loop-command.command-index c.command-item.result (string_bytes c.loop-command.out) (string_bytes c.push_command.new.out) whole c.loop-command-test.true c.command-item.is c.in_ok-push_command.ensures
    c.loop-command.invariant

pub push_commands-returns : goal.push_commands-returns
push_commands-returns g t c = last_command c.args.shell c.deref-command-items.result.now c.loop-command.command-index (string_bytes c.loop-command.out) _ c.loop-command-test.false c.loop-command.invariant

pub push_command-returns : goal.push_command-returns
push_command-returns g t c =
    on_ok_weaker c.push_entry.result
    (command_put c.args.command.now c.args.shell (entry_said c.mark.result) (string_bytes c.args.out.now) (string_bytes c.push_head.new.out) (string_bytes c.push_level.new.out) (string_bytes c.push_entry.new.out) c.if-command.false c.mark.ensures c.in_ok-push_head.ensures c.in_ok-push_level.ensures)
    c.push_entry.ensures

pub push_command-returns-then-command : goal.push_command-returns-then-command
push_command-returns-then-command g t c =
    writes_none c.args.shell (string_bytes c.args.out.now) ∙ sym (ap (λ es. string_bytes c.args.out.now ++ data_text c.args.shell es) (command_hidden c.args.command.now c.if-command.true))
