use Rattle.std.proofs.Common.{refl}
use Rattle.bpaf_doc.proofs.lemmas.Manpage.PageRead.{manual_page}
use Rattle.bpaf_doc.specs.declared.buffer.Style.TheVariants as style
use Rattle.bpaf_doc.specs.Buffer.Parts.{text}
use Rattle.std.specs.Prelude.{string_bytes}
use Rattle.helpdoc_engine.specs.declared.words.Form.TheVariants as form
use Rattle.helpdoc_engine.specs.Rendering.{document_of_text, text_title}
use Rattle.helpdoc_engine.proofs.Pages.{html_of_answer, page_of_answer}
use Rattle.helpdoc_engine.proofs.engine.page_of.Goals as goal

pub returns-in-Full : goal.returns-in-Full
returns-in-Full g c =
    rw c.in-Full.is
    (page_of_answer text_title form.Full (document_of_text (string_bytes c.args.text)) c.render_console.result
    (rw c.in_ok-document.ensures at c.render_console.ensures.layout) (rw c.in_ok-document.ensures at c.render_console.ensures.exact))

pub returns-in-Brief : goal.returns-in-Brief
returns-in-Brief g c =
    rw c.in-Brief.is
    (page_of_answer text_title form.Brief (document_of_text (string_bytes c.args.text)) c.render_console-in-Brief.result
    (rw c.in_ok-document.ensures at c.render_console-in-Brief.ensures.layout) (rw c.in_ok-document.ensures at c.render_console-in-Brief.ensures.exact))

pub returns-in-Html : goal.returns-in-Html
returns-in-Html g c =
    let document = document_of_text (string_bytes c.args.text) in
    rw c.in-Html.is
    (page_of_answer text_title form.Html document c.render_html.result
    (html_of_answer document c.render_html.result (text (string_bytes c.args.text) style.Text refl) (rw c.in_ok-document.ensures at c.render_html.ensures.html))
    (rw c.in_ok-document.ensures at c.render_html.ensures.exact))

pub returns-in-Markdown : goal.returns-in-Markdown
returns-in-Markdown g c =
    rw c.in-Markdown.is
    (page_of_answer text_title form.Markdown (document_of_text (string_bytes c.args.text)) c.render_markdown.result
    (rw c.in_ok-document.ensures at c.render_markdown.ensures.laws) (rw c.in_ok-document.ensures at c.render_markdown.ensures.exact))

pub returns-in_ok-titled-in-Man : goal.returns-in_ok-titled-in-Man
returns-in_ok-titled-in-Man g c =
    let page = c.in_ok-titled-in-Man.field-0 in
    let titled = c.in_ok-titled-in-Man.ensures in
    let document = document_of_text (string_bytes c.args.text) in
    rw c.in-Man.is
    (page_of_answer text_title form.Man document c.into_roff.result
    (manual_page string_bytes c.into_roff.result page text_title document titled
    (rw (c.document.view_is, c.in_ok-document.ensures) at c.into_roff.ensures.read))
    (rw (c.document.view_is, c.in_ok-document.ensures, titled) at c.into_roff.ensures.exact))
