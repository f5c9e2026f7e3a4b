use Rattle.std.specs.Prelude.{◌++◌, ◌≡◌}
use Rattle.bpaf_items.proofs.Words.{drop, map, option_or, trees_of, entries_of_parts, first_front_type, IsFront, entry_of}
use Rattle.bpaf_items.proofs.meta_help.walk.+append.Given as goal

abbrev pub invariant-append_parts-loop-part : goal.invariant-append_parts-loop-part
invariant-append_parts-loop-part g l = record {
  entries : map entry_of l.items.items ++ entries_of_parts l.groups (trees_of (drop l.part-index l.part-items)) ≡ map entry_of l.fn.items.items ++ entries_of_parts l.groups (trees_of l.parts.items);
  ty : option_or l.front (first_front_type (trees_of (drop l.part-index l.part-items))) ≡ first_front_type (trees_of l.parts.items);
  front : IsFront l.fn.items.items l.items.items;
}
