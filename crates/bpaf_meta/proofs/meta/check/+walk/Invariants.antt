use Rattle.std.proofs.Common.{◌≡◌, drop}
use Rattle.bpaf_meta.specs.View.{trees_of}
use Rattle.bpaf_meta.specs.Meta.Misplaced.{first_item_of_parts}
use Rattle.bpaf_meta.specs.Meta.Steps.Walk.{IsKnown, walked_parts, walked_branches}
use Rattle.bpaf_meta.proofs.meta.check.+walk.Given as goal

abbrev pub invariant-walk_parts-loop-part : goal.invariant-walk_parts-loop-part
invariant-walk_parts-loop-part g l = walked_parts (trees_of (drop l.part-index l.part-items)) l.running ≡ walked_parts (trees_of l.parts.items) l.fn.seen × IsKnown l.known (first_item_of_parts (trees_of (drop l.part-index l.part-items)))

abbrev pub invariant-walk_branches-loop-branch : goal.invariant-walk_branches-loop-branch
invariant-walk_branches-loop-branch g l = walked_branches (trees_of (drop l.branch-index l.branch-items)) l.seen l.after ≡ walked_branches (trees_of l.branches.items) l.seen l.seen
