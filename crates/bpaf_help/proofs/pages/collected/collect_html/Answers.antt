use Rattle.std.proofs.Common.{◌≡◌, ◌∷◌, [], ◌∙◌, ap, sym, subst, map}
use Rattle.bpaf_doc.specs.Buffer.Parts.{IsWellNested}
use Rattle.bpaf_meta.specs.View.{head_of, tree_of}
use Rattle.bpaf_help.specs.Chapters.{AreWellPlaced, chapters_of}
use Rattle.bpaf_help.specs.PageAnswers.{AreErrorOf, collected_document}
use Rattle.bpaf_help.specs.View.{chapter_of}
use Rattle.bpaf_help.proofs.NestedPages.{collected_pages_are_nested}
use Rattle.bpaf_help.proofs.Steps.{collected_whole, err_collected, error_of_pages}
use Rattle.bpaf_help.proofs.pages.collected.collect_html.Goals as goal

pub returns-in_err-put_pages-clause-collected : goal.returns-in_err-put_pages-clause-collected
returns-in_err-put_pages-clause-collected g c =
    err_collected (chapters_of (c.args.app.now ∷ []) (head_of c.args.info.now) (tree_of c.args.meta.now)) c.from_residual-in_err-put_pages.result c.in_err-put_pages.field-0.0 c.from_residual-in_err-put_pages.ensures.1
    (subst (λ cs. AreErrorOf cs c.in_err-put_pages.field-0.0) (ap (map chapter_of) c.deref-2.ensures.value ∙ c.in_ok-sections.ensures)
    (error_of_pages (map chapter_of c.deref-2.result.now) c.in_err-put_pages.field-0.0 c.in_err-put_pages.ensures.stops))

pub returns-clause-collected : goal.returns-clause-collected
returns-clause-collected g c = subst AreWellPlaced (ap (map chapter_of) c.deref-2.ensures.value ∙ c.in_ok-sections.ensures) c.in_ok-put_pages.ensures.placed

pub returns-clause-document : goal.returns-clause-document
returns-clause-document g c =
    collected_whole c.args.app.now (tree_of c.args.meta.now) (head_of c.args.info.now) (map chapter_of c.in_ok-sections.sections.items) c.new-document.result c.put_summary.new.doc c.put_pages.new.doc c.new-document.ensures c.in_ok-sections.ensures
    (rw c.deref.ensures.value at c.in_ok-put_summary.ensures) (rw c.deref-2.ensures.value at c.in_ok-put_pages.ensures.pages)

pub returns-clause-nested : goal.returns-clause-nested
returns-clause-nested g c = λ nested.
    let app = c.args.app.now in
    let t = tree_of c.args.meta.now in
    let i = head_of c.args.info.now in
    let same : c.put_pages.new.doc ≡ collected_document app t i =
    collected_whole app t i (map chapter_of c.in_ok-sections.sections.items) c.new-document.result c.put_summary.new.doc c.put_pages.new.doc c.new-document.ensures c.in_ok-sections.ensures
    (rw c.deref.ensures.value at c.in_ok-put_summary.ensures) (rw c.deref-2.ensures.value at c.in_ok-put_pages.ensures.pages) in
    subst IsWellNested (sym same) (collected_pages_are_nested app t i nested)
