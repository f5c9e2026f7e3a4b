use Rattle.std.proofs.Common.{◌≡◌, drop, map}
use Rattle.std.specs.List.{list_any}
use Rattle.page_model.specs.View.{part_of}
use Rattle.html_page.specs.Page.{is_heading}
use Rattle.html_page.proofs.contents.has_heading.Given as goal

abbrev pub invariant-loop-part : goal.invariant-loop-part
invariant-loop-part g l = list_any is_heading (map part_of (drop l.part-index l.parts)) ≡ list_any is_heading (map part_of l.parts)
