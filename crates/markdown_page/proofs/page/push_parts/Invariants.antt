use Rattle.std.proofs.Common.{◌≡◌, ◌++◌, map, take, string_bytes}
use Rattle.std.specs.Prelude.{flat_map}
use Rattle.page_model.specs.View.{part_of}
use Rattle.markdown_page.specs.Exact.{part_text}
use Rattle.markdown_page.proofs.page.push_parts.Given as goal

abbrev pub invariant-loop-part : goal.invariant-loop-part
invariant-loop-part g l = string_bytes l.writer.page ≡ string_bytes l.initial.writer.page ++ flat_map part_text (map part_of (take l.part-index l.parts))
