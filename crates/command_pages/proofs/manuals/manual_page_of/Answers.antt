use Rattle.std.proofs.Common.{IfOk, map, ap, subst, ◌∙◌, string_bytes}
use Rattle.page_model.specs.View.{part_of}
use Rattle.man_page.specs.Kept.{page_kept}
use Rattle.man_page.specs.Promises.{ReadsAs}
use Rattle.man_page.specs.View.{title_of}
use Rattle.description.specs.Words.{words_said}
use Rattle.description_pages.specs.LevelsView.{subject_of}
use Rattle.command_pages.specs.Pages.{manual_parts}
use Rattle.command_pages.proofs.manuals.manual_page_of.Goals as goal

pub returns-clause-reads : goal.returns-clause-reads
returns-clause-reads g c =
    subst (λ line. IfOk c.manual_page.result (λ made. ReadsAs (string_bytes made) (page_kept line (manual_parts c.args.depth (words_said c.args.description.now.words) (subject_of c.args.level))))) c.in_ok-line.ensures
    (subst (λ parts. IfOk c.manual_page.result (λ made. ReadsAs (string_bytes made) (page_kept (title_of c.in_ok-line.line) parts))) (ap (map part_of) c.as_slice.ensures.value ∙ c.in_ok-parts.ensures)
    c.manual_page.ensures.reads)
