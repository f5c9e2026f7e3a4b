use Rattle.std.proofs.Common.{◌≡◌, ◌≤◌, Some, drop, length, option_map}
use Rattle.json.specs.Value as json_view
use Rattle.toml.specs.View.{members_view}
use Rattle.description_json.specs.Tables.{items_data, members_data}
use Rattle.description_json.proofs.Trees.{items_before}
use Rattle.description_json.proofs.data.+data.Given as goal

abbrev pub invariant-items_data-loop-item : goal.invariant-items_data-loop-item
invariant-items_data-loop-item l =
    items_data (json_view.items_view l.item-items) ≡ option_map (items_before l.array.items) (items_data (json_view.items_view (drop l.item-index l.item-items)))

abbrev pub invariant-members_data-loop-left : goal.invariant-members_data-loop-left
invariant-members_data-loop-left l =
    (l.left ≤ length l.members.items) × (members_data (json_view.members_view (drop l.left l.members.items)) ≡ Some (members_view l.table.entries))

abbrev pub decreases-members_data-loop-left : goal.decreases-members_data-loop-left
decreases-members_data-loop-left l = l.left
