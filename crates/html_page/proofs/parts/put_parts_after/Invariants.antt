use Rattle.std.proofs.Common.{◌≡◌, drop, map}
use Rattle.page_model.specs.View.{part_of}
use Rattle.html_page.specs.Page.{parts_events}
use Rattle.html_page.specs.Steps.{said}
use Rattle.html_page.specs.Steps.View.{before_of}
use Rattle.html_page.specs.View.{frame_of}
use Rattle.html_page.proofs.parts.put_parts_after.Given as goal

abbrev pub invariant-loop-part : goal.invariant-loop-part
invariant-loop-part g l =
    said l.page (parts_events (frame_of l.frame) l.title (before_of l.before) (map part_of (drop l.part-index l.parts)))
    ≡ said l.fn.page (parts_events (frame_of l.frame) l.title (before_of l.fn.before) (map part_of l.parts))
