use Rattle.std.proofs.Common.{◌≡◌, drop, map}
use Rattle.page_model.specs.View.{chapter_of, chapters_in}
use Rattle.html_page.specs.Page.{chapters_links}
use Rattle.html_page.specs.Steps.{said}
use Rattle.html_page.proofs.contents.+links.Given as goal

abbrev pub invariant-put_chapters_links-loop-chapter : goal.invariant-put_chapters_links-loop-chapter
invariant-put_chapters_links-loop-chapter g l =
    said l.page (chapters_links (chapters_in (map chapter_of (drop l.chapter-index l.chapter-items))))
    ≡ said l.fn.page (chapters_links (chapters_in (map chapter_of l.chapters.items)))
