use Rattle.std.proofs.Common.{◌≡◌, ◌++◌, drop, map, string_bytes}
use Rattle.bpaf_meta.specs.View.{trees_of}
use Rattle.bpaf_items.specs.Steps.Growth.{IsFront}
use Rattle.bpaf_help.specs.Chapters.{part_chapters}
use Rattle.bpaf_help.specs.View.{chapter_of}
use Rattle.bpaf_help.proofs.pages.sections.+append.Given as goal

abbrev pub invariant-append_parts-loop-part : goal.invariant-append_parts-loop-part
invariant-append_parts-loop-part g l = record {
  chapters : map chapter_of l.sections.items ++ part_chapters (map string_bytes l.fn.path.items) (trees_of (drop l.part-index l.part-items)) ≡ map chapter_of l.fn.sections.items ++ part_chapters (map string_bytes l.fn.path.items) (trees_of l.parts.items);
  front : IsFront l.fn.sections.items l.sections.items;
  path : l.path.items ≡ l.fn.path.items;
}
