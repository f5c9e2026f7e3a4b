use Rattle.std.proofs.Common.{◌≡◌, subst}
use Rattle.std.specs.Prelude.{true, false, string_bytes}
use Rattle.bpaf_doc.specs.Console.Exact.{console_page}
use Rattle.bpaf_doc.specs.Console.Layout.{IsLayout}
use Rattle.helpdoc_engine.specs.declared.words.Form.TheVariants as form
use Rattle.helpdoc_engine.specs.Sample.{sample_help, sample_title}
use Rattle.helpdoc_engine.proofs.Pages.{page_of_text}
use Rattle.helpdoc_engine.proofs.sample.page_of.Goals as goal

pub returns-in_ok-render_console-in-Full-clause-page : goal.returns-in_ok-render_console-in-Full-clause-page
returns-in_ok-render_console-in-Full-clause-page g c =
    let text = c.in_ok-render_console-in-Full.field-0 in
    rw c.in-Full.is
    (page_of_text sample_title form.Full sample_help text
    (subst (λ document. IsLayout document true 100 (string_bytes text)) c.in_ok-help_page-in-Full.ensures.document c.in_ok-render_console-in-Full.ensures.layout)
    (subst (λ document. string_bytes text ≡ console_page true 100 document) c.in_ok-help_page-in-Full.ensures.document c.in_ok-render_console-in-Full.ensures.exact))

pub returns-in_ok-render_console-in-Brief-clause-page : goal.returns-in_ok-render_console-in-Brief-clause-page
returns-in_ok-render_console-in-Brief-clause-page g c =
    let text = c.in_ok-render_console-in-Brief.field-0 in
    rw c.in-Brief.is
    (page_of_text sample_title form.Brief sample_help text
    (subst (λ document. IsLayout document false 100 (string_bytes text)) c.in_ok-help_page-in-Brief.ensures.document c.in_ok-render_console-in-Brief.ensures.layout)
    (subst (λ document. string_bytes text ≡ console_page false 100 document) c.in_ok-help_page-in-Brief.ensures.document c.in_ok-render_console-in-Brief.ensures.exact))
