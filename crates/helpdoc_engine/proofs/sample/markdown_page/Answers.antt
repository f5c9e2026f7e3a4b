use Rattle.std.proofs.Common.{◌≡◌, refl, subst}
use Rattle.std.specs.Prelude.{true, string_bytes}
use Rattle.bpaf_doc.specs.Markdown.Exact.{markdown_page}
use Rattle.bpaf_doc.specs.Markdown.Page.{IsMarkdownOf}
use Rattle.bpaf_meta.specs.View.{head_of, tree_of}
use Rattle.helpdoc_engine.specs.declared.words.Form.TheVariants as form
use Rattle.helpdoc_engine.specs.Faults.{fault_of}
use Rattle.helpdoc_engine.specs.Sample.{sample_name, sample_pages, sample_title}
use Rattle.helpdoc_engine.proofs.Pages.{page_of_text}
use Rattle.helpdoc_engine.proofs.SamplePages.{sample_pages_are, only_memory, pages_fault}
use Rattle.helpdoc_engine.proofs.sample.markdown_page.Goals as goal

pub returns-clause-page : goal.returns-clause-page
returns-clause-page g c =
    let text = c.in_ok-render_markdown.field-0 in
    let same = sample_pages_are sample_name (tree_of c.args.tree.now) (head_of c.args.info.now) refl c.requires.tree c.requires.info in
    page_of_text sample_title form.Markdown sample_pages text
    (subst (λ document. IsMarkdownOf document true (string_bytes text)) same c.in_ok-render_markdown.ensures.laws)
    (subst (λ document. string_bytes text ≡ markdown_page true document) same c.in_ok-render_markdown.ensures.exact)

pub returns-in_err-render_markdown-clause-fault : goal.returns-in_err-render_markdown-clause-fault
returns-in_err-render_markdown-clause-fault g c =
    let error = c.in_err-render_markdown.field-0.0 in
    only_memory c.from_residual.result (fault_of error) c.from_residual.ensures.1
    (pages_fault sample_name (tree_of c.args.tree.now) (head_of c.args.info.now) error refl c.requires.tree c.requires.info c.in_err-render_markdown.ensures.collected)
