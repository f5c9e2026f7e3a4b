use Rattle.std.proofs.Common.{◌≡◌, ◌++◌, flat_map, map, take}
use Rattle.page_model.specs.View.{line_of}
use Rattle.description.specs.View.{group_said}
use Rattle.description_usage.specs.Usage.{group_items}
use Rattle.description_usage.proofs.usage.push_groups.Given as goal

abbrev pub invariant-loop-group : goal.invariant-loop-group
invariant-loop-group g l = map (λ item. line_of item.items) l.items.items ≡ map (λ item. line_of item.items) l.fn.items.items ++ flat_map group_items (map group_said (take l.group-index l.groups))
