use Rattle.std.proofs.Common.{◌≡◌, drop, flat_map, map}
use Rattle.page_model.specs.View.{part_of}
use Rattle.html_page.specs.Page.{heading_links, headings_of}
use Rattle.html_page.specs.Steps.{said}
use Rattle.html_page.specs.Steps.View.{texts_of}
use Rattle.html_page.proofs.contents.put_part_links.Given as goal

abbrev pub invariant-loop-part : goal.invariant-loop-part
invariant-loop-part g l =
    said l.page (heading_links l.title (texts_of l.before) (flat_map headings_of (map part_of (drop l.part-index l.parts))))
    ≡ said l.fn.page (heading_links l.title (texts_of l.fn.before) (flat_map headings_of (map part_of l.parts)))
