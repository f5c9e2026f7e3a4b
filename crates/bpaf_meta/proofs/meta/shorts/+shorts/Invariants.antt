use Rattle.std.proofs.Common.{false, ◌≡◌, ◌++◌, drop}
use Rattle.std.specs.List.{flat_map}
use Rattle.bpaf_meta.specs.View.{trees_of}
use Rattle.bpaf_meta.specs.Meta.Shorts.{shorts_of_flag, shorts_of_argument, IsFront}
use Rattle.bpaf_meta.specs.Meta.Misplaced.{items_in_parts}
use Rattle.bpaf_meta.proofs.meta.shorts.+shorts.Given as goal

abbrev pub invariant-gather_parts-loop-part : goal.invariant-gather_parts-loop-part
invariant-gather_parts-loop-part g l = record {
  flags : l.flags.items ++ flat_map shorts_of_flag (items_in_parts false (trees_of (drop l.part-index l.part-items))) ≡ l.fn.flags.items ++ flat_map shorts_of_flag (items_in_parts false (trees_of l.parts.items));
  args : l.args.items ++ flat_map shorts_of_argument (items_in_parts false (trees_of (drop l.part-index l.part-items))) ≡ l.fn.args.items ++ flat_map shorts_of_argument (items_in_parts false (trees_of l.parts.items));
  flags_front : IsFront l.fn.flags.items l.flags.items;
  args_front : IsFront l.fn.args.items l.args.items;
}
