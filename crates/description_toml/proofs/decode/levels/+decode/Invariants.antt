use Rattle.std.proofs.Common.{◌+◌, ◌*◌}
use Rattle.toml.specs.Data.{depth, items_depth}
use Rattle.toml.specs.View.{items_view, view}
use Rattle.description_toml.specs.Described.Steps.{lists_depth, lists_seen}
use Rattle.description.specs.View.{command_said, group_said}
use Rattle.description_toml.proofs.Tables.{CommandListSoFar, GroupListSoFar}
use Rattle.description_toml.proofs.decode.levels.+decode.Given as goal

abbrev pub decreases-commands_in : goal.decreases-commands_in
decreases-commands_in g l = 4 * items_depth (items_view l.items.now) + 1

abbrev pub decreases-groups_in : goal.decreases-groups_in
decreases-groups_in g l = 4 * items_depth (items_view l.items.now) + 1

abbrev pub decreases-command_from : goal.decreases-command_from
decreases-command_from g l = 4 * depth (view l.item.now)

abbrev pub decreases-group_from : goal.decreases-group_from
decreases-group_from g l = 4 * depth (view l.item.now)

abbrev pub decreases-read_on : goal.decreases-read_on
decreases-read_on g l = 4 * lists_depth (lists_seen l.lists) + 2

abbrev pub decreases-level_of : goal.decreases-level_of
decreases-level_of g l = 4 * lists_depth (lists_seen l.outline.lists) + 2

abbrev pub invariant-commands_in-loop-item : goal.invariant-commands_in-loop-item
invariant-commands_in-loop-item g l = CommandListSoFar command_said (λ list. list.items) l.items l.commands l.item-index

abbrev pub invariant-groups_in-loop-item : goal.invariant-groups_in-loop-item
invariant-groups_in-loop-item g l = GroupListSoFar group_said (λ list. list.items) l.items l.groups l.item-index
