use Rattle.std.proofs.Common.{◌≡◌, drop, map}
use Rattle.page_model.specs.View.{chapter_of, chapters_in}
use Rattle.html_page.specs.Page.{chapters_sections}
use Rattle.html_page.specs.Steps.{said}
use Rattle.html_page.specs.View.{frame_of}
use Rattle.html_page.proofs.sections.+sections.Given as goal

abbrev pub invariant-put_chapters-loop-chapter : goal.invariant-put_chapters-loop-chapter
invariant-put_chapters-loop-chapter g l =
    said l.page (chapters_sections (frame_of l.frame) (chapters_in (map chapter_of (drop l.chapter-index l.chapter-items))))
    ≡ said l.fn.page (chapters_sections (frame_of l.frame) (chapters_in (map chapter_of l.chapters.items)))
