use Rattle.std.proofs.Common.{◌&&◌, ◌∙◌, ap, map, sym, subst}
use Rattle.std.specs.List.{list_all}
use Rattle.std.proofs.lemmas.Bool.{and_parts}
use Rattle.page_model.specs.Permitted.{are_permitted, is_permitted_part}
use Rattle.page_model.specs.View.{part_of}
use Rattle.markdown_page.specs.Kept.{page_kept}
use Rattle.markdown_page.specs.Promises.{ReadsAs}
use Rattle.page_model.specs.Faults.{fault_unless}
use Rattle.markdown_page.proofs.Pages.{reads_back}
use Rattle.page_model.proofs.Faults.{permitted_of}
use Rattle.markdown_page.proofs.page.markdown_page.Goals as goal

pub returns-clause-reads : goal.returns-clause-reads
returns-clause-reads g c =
    let title = c.args.title.now in
    let parts = map part_of c.args.parts.now in
    let h = permitted_of (are_permitted title && list_all is_permitted_part parts) (c.are_permitted_texts.ensures ∙ ap fault_unless c.if-not-are_permitted_texts.false) in
    let both = and_parts (are_permitted title) (list_all is_permitted_part parts) h in
    subst (λ bytes. ReadsAs bytes (page_kept title parts)) (sym c.in_ok-write_page.ensures) (reads_back title parts (both.0, both.1))
