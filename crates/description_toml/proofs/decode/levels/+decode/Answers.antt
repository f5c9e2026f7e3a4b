use Rattle.std.proofs.Common.{rules, ◌≡◌, ◌≤◌, Some, get_or, ap, ◌∙◌, refl, subst, sym, arith}
use Rattle.toml.specs.Data.{depth, items_depth}
use Rattle.toml.specs.View.{items_view, table_view, view}
use Rattle.description_toml.specs.Described.{as_command, as_group, group_of, level_of}
use Rattle.description.specs.View.{command_said, group_said}
use Rattle.description_toml.proofs.Depths.{item_depth, is_table, table_depth}
use Rattle.description_toml.proofs.Reading.{passed_on}
use Rattle.description_toml.proofs.Tables.{command_joined, commands_joined, group_joined, groups_joined}
use Rattle.description.proofs.Views.{made-Command, made-Group, made-Level}
use Rattle.description_toml.proofs.decode.levels.+decode.Goals as goal

pub level_of-returns-in_err-options : goal.level_of-returns-in_err-options
unfolding level_of
level_of-returns-in_err-options g t c = passed_on _ _ c.from_residual.result c.in_err-options.field-0.0 c.from_residual.ensures.1 (λ n. rw (c.in_err-options.ensures n) refl)

pub level_of-returns-in_err-choices : goal.level_of-returns-in_err-choices
unfolding level_of
level_of-returns-in_err-choices g t c = passed_on _ _ c.from_residual-in_err-choices.result c.in_err-choices.field-0.0 c.from_residual-in_err-choices.ensures.1 (λ n. rw (c.in_ok-options.ensures, c.in_err-choices.ensures n) refl)

pub level_of-returns-in_err-groups : goal.level_of-returns-in_err-groups
unfolding level_of
level_of-returns-in_err-groups g t c = passed_on _ _ c.from_residual-in_err-groups.result c.in_err-groups.field-0.0 c.from_residual-in_err-groups.ensures.1 (λ n. rw (c.in_ok-options.ensures, c.in_ok-choices.ensures, c.in_err-groups.ensures n) refl)

pub level_of-returns-in_err-positionals : goal.level_of-returns-in_err-positionals
unfolding level_of
level_of-returns-in_err-positionals g t c = passed_on _ _ c.from_residual-in_err-positionals.result c.in_err-positionals.field-0.0 c.from_residual-in_err-positionals.ensures.1
    (λ n. rw (c.in_ok-options.ensures, c.in_ok-choices.ensures, c.in_ok-groups.ensures, c.in_err-positionals.ensures n) refl)

pub level_of-returns-in_err-commands : goal.level_of-returns-in_err-commands
unfolding level_of
level_of-returns-in_err-commands g t c = passed_on _ _ c.from_residual-in_err-commands.result c.in_err-commands.field-0.0 c.from_residual-in_err-commands.ensures.1
    (λ n. rw (c.in_ok-options.ensures, c.in_ok-choices.ensures, c.in_ok-groups.ensures, c.in_ok-positionals.ensures, c.in_err-commands.ensures n) refl)

pub level_of-returns-in_err-topics : goal.level_of-returns-in_err-topics
unfolding level_of
level_of-returns-in_err-topics g t c = passed_on _ _ c.from_residual-in_err-topics.result c.in_err-topics.field-0.0 c.from_residual-in_err-topics.ensures.1
    (λ n. rw (c.in_ok-options.ensures, c.in_ok-choices.ensures, c.in_ok-groups.ensures, c.in_ok-positionals.ensures, c.in_ok-commands.ensures, c.in_err-topics.ensures n) refl)

pub level_of-returns : goal.level_of-returns
unfolding level_of
level_of-returns g t c = rw (c.in_ok-options.ensures, c.in_ok-choices.ensures, c.in_ok-groups.ensures, c.in_ok-positionals.ensures, c.in_ok-commands.ensures, c.in_ok-topics.ensures) (ap Some (sym (made-Level _)))

pub command_from-level_of-requires : goal.command_from-level_of-requires
command_from-level_of-requires g t c κs within =
    let deeper = table_depth (view c.args.item.now) (table_view c.in_ok-table.table.now) c.in_ok-table.ensures in
    (omega (arith, c.decreases, c.in-Ok.ensures.depth, deeper), search rules)

pub group_from-commands_in-commands-requires : goal.group_from-commands_in-commands-requires
group_from-commands_in-commands-requires g t c κs within =
    let deeper = table_depth (view c.args.item.now) (table_view c.in_ok-table.table.now) c.in_ok-table.ensures in
    (omega (arith, c.decreases, c.in-Ok.ensures.depth, deeper), search rules)

pub commands_in-command_from-command-requires : goal.commands_in-command_from-command-requires
commands_in-command_from-command-requires g t c κs within =
    let at : get_or c.args.items.now c.loop-item.item-index c.item-item.result ≡ c.item-item.result = sym c.item-item.is in
    let below = subst (λ v. depth (view v) ≤ items_depth (items_view c.args.items.now)) at (item_depth c.args.items.now c.loop-item.item-index c.item-item.result c.loop-item-test.true) in
    (omega (arith, c.decreases, below), search rules)

pub groups_in-group_from-group-requires : goal.groups_in-group_from-group-requires
groups_in-group_from-group-requires g t c κs within =
    let at : get_or c.args.items.now c.loop-item.item-index c.item-item.result ≡ c.item-item.result = sym c.item-item.is in
    let below = subst (λ v. depth (view v) ≤ items_depth (items_view c.args.items.now)) at (item_depth c.args.items.now c.loop-item.item-index c.item-item.result c.loop-item-test.true) in
    (omega (arith, c.decreases, below), search rules)

pub commands_in-loop-item-preserved : goal.commands_in-loop-item-preserved
commands_in-loop-item-preserved g t c = command_joined command_said (λ list. list.items) c.args.items.now c.loop-item.item-index c.loop-item.commands c.command_from-command.result c.joined-commands.result c.loop-item-test.true c.item-item.is c.loop-item.invariant c.command_from-command.ensures c.joined-commands.ensures

pub commands_in-returns : goal.commands_in-returns
commands_in-returns g t c = commands_joined command_said (λ list. list.items) c.args.items.now c.loop-item.item-index c.loop-item.commands c.loop-item-test.false c.loop-item.invariant

pub groups_in-loop-item-preserved : goal.groups_in-loop-item-preserved
groups_in-loop-item-preserved g t c = group_joined group_said (λ list. list.items) c.args.items.now c.loop-item.item-index c.loop-item.groups c.group_from-group.result c.joined-groups.result c.loop-item-test.true c.item-item.is c.loop-item.invariant c.group_from-group.ensures c.joined-groups.ensures

pub groups_in-returns : goal.groups_in-returns
groups_in-returns g t c = groups_joined group_said (λ list. list.items) c.args.items.now c.loop-item.item-index c.loop-item.groups c.loop-item-test.false c.loop-item.invariant

pub command_from-returns : goal.command_from-returns
command_from-returns g t c =
    let same = is_table (view c.args.item.now) (table_view c.in_ok-table.table.now) c.in_ok-table.ensures in
    ap as_command same ∙ rw (c.in-Ok.ensures.head, c.in-Ok.ensures.groups, c.in-Ok.ensures.commands, c.in_ok-level.ensures) (ap Some (sym (made-Command _)))

pub group_from-returns-in_err-options : goal.group_from-returns-in_err-options
unfolding group_of
group_from-returns-in_err-options g t c =
    let same = is_table (view c.args.item.now) (table_view c.in_ok-table.table.now) c.in_ok-table.ensures in
    passed_on _ _ c.from_residual-in_err-options.result c.in_err-options.field-0.0 c.from_residual-in_err-options.ensures.1 (λ n. ap as_group same ∙ rw (c.in-Ok.ensures.head, c.in_err-options.ensures n) refl)

pub group_from-returns-in_err-choices : goal.group_from-returns-in_err-choices
unfolding group_of
group_from-returns-in_err-choices g t c =
    let same = is_table (view c.args.item.now) (table_view c.in_ok-table.table.now) c.in_ok-table.ensures in
    passed_on _ _ c.from_residual-in_err-choices.result c.in_err-choices.field-0.0 c.from_residual-in_err-choices.ensures.1
    (λ n. ap as_group same ∙ rw (c.in-Ok.ensures.head, c.in_ok-options.ensures, c.in_err-choices.ensures n) refl)

pub group_from-returns-in_err-positionals : goal.group_from-returns-in_err-positionals
unfolding group_of
group_from-returns-in_err-positionals g t c =
    let same = is_table (view c.args.item.now) (table_view c.in_ok-table.table.now) c.in_ok-table.ensures in
    passed_on _ _ c.from_residual-in_err-positionals.result c.in_err-positionals.field-0.0 c.from_residual-in_err-positionals.ensures.1
    (λ n. ap as_group same ∙ rw (c.in-Ok.ensures.head, c.in_ok-options.ensures, c.in_ok-choices.ensures, c.in_err-positionals.ensures n) refl)

pub group_from-returns-in_err-commands : goal.group_from-returns-in_err-commands
unfolding group_of
group_from-returns-in_err-commands g t c =
    let same = is_table (view c.args.item.now) (table_view c.in_ok-table.table.now) c.in_ok-table.ensures in
    passed_on _ _ c.from_residual-in_err-commands.result c.in_err-commands.field-0.0 c.from_residual-in_err-commands.ensures.1
    (λ n. ap as_group same ∙ rw (c.in-Ok.ensures.head, c.in-Ok.ensures.commands, c.in_ok-options.ensures, c.in_ok-choices.ensures, c.in_ok-positionals.ensures, c.in_err-commands.ensures n) refl)

pub group_from-returns : goal.group_from-returns
unfolding group_of
group_from-returns g t c =
    let same = is_table (view c.args.item.now) (table_view c.in_ok-table.table.now) c.in_ok-table.ensures in
    ap as_group same ∙ rw (c.in-Ok.ensures.head, c.in-Ok.ensures.commands, c.in_ok-options.ensures, c.in_ok-choices.ensures, c.in_ok-positionals.ensures, c.in_ok-commands.ensures) (ap Some (sym (made-Group _)))
