use Rattle.std.proofs.Common.{◌≡◌, ◌++◌, false, drop, map, string_bytes}
use Rattle.page_model.specs.View.{part_of}
use Rattle.man_page.specs.Exact.{parts_text}
use Rattle.man_page.proofs.page.push_page_parts.Given as goal

-- what is written, and what the remaining parts come to, make up the whole
abbrev pub invariant-loop-part : goal.invariant-loop-part
invariant-loop-part g l = string_bytes l.writer.page ++ parts_text l.section l.is_after_heading (map part_of (drop l.part-index l.parts)) ≡ string_bytes l.initial.writer.page ++ parts_text l.section false (map part_of l.parts)
