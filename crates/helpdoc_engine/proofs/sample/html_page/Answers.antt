use Rattle.std.proofs.Common.{◌≡◌, refl, subst}
use Rattle.std.specs.Prelude.{true, false, string_bytes}
use Rattle.bpaf_doc.specs.Buffer.Parts.{IsWellNested}
use Rattle.bpaf_doc.specs.Html.Exact.{html_page}
use Rattle.bpaf_doc.specs.Html.Page.{IsHtmlPageOf}
use Rattle.bpaf_meta.specs.View.{head_of, tree_of}
use Rattle.helpdoc_engine.specs.declared.words.Form.TheVariants as form
use Rattle.helpdoc_engine.specs.Faults.{fault_of}
use Rattle.helpdoc_engine.specs.Sample.{sample_name, sample_pages, sample_title}
use Rattle.helpdoc_engine.proofs.Pages.{html_alone, page_of_text}
use Rattle.helpdoc_engine.proofs.SamplePages.{sample_pages_are, sample_pages_nested, only_memory, pages_fault}
use Rattle.helpdoc_engine.proofs.sample.html_page.Goals as goal

pub returns-clause-page : goal.returns-clause-page
returns-clause-page g c =
    let text = c.in_ok-render_html.field-0 in
    let same = sample_pages_are sample_name (tree_of c.args.tree.now) (head_of c.args.info.now) refl c.requires.tree c.requires.info in
    page_of_text sample_title form.Html sample_pages text
    (html_alone sample_pages (string_bytes text) (sample_pages_nested c.pages_are_nested.ensures.collected)
    (subst (λ document. IsWellNested document → IsHtmlPageOf document true false (string_bytes text)) same c.in_ok-render_html.ensures.html))
    (subst (λ document. string_bytes text ≡ html_page true false document) same c.in_ok-render_html.ensures.exact)

pub returns-in_err-render_html-clause-fault : goal.returns-in_err-render_html-clause-fault
returns-in_err-render_html-clause-fault g c =
    let error = c.in_err-render_html.field-0.0 in
    only_memory c.from_residual.result (fault_of error) c.from_residual.ensures.1
    (pages_fault sample_name (tree_of c.args.tree.now) (head_of c.args.info.now) error refl c.requires.tree c.requires.info c.in_err-render_html.ensures.collected)
