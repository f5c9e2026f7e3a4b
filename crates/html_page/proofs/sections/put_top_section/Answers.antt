use Rattle.std.proofs.Common.{sym, ◌∙◌, map, subst}
use Rattle.page_model.specs.View.{part_of}
use Rattle.html_page.specs.Steps.{Puts}
use Rattle.html_page.specs.View.{frame_of}
use Rattle.html_page.proofs.Views.{top_section_with_chapters}
use Rattle.html_page.proofs.sections.put_top_section.Goals as goal

pub returns-else-is_empty : goal.returns-else-is_empty
returns-else-is_empty g c =
    subst (λ es. Puts c.args.page.now es c.put_own_section.new.page c.put_own_section.result)
    (top_section_with_chapters (frame_of c.args.frame.now) c.args.title.now (map part_of c.args.parts.now) c.args.below.now (sym c.is_empty.ensures ∙ c.if-is_empty.false))
    c.put_own_section.ensures
