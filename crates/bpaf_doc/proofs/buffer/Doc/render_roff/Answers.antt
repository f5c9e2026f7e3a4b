-- The page with the parts on it is the page as a function of the document, and so a reader reads it.
use Rattle.std.proofs.Common.{◌≡◌, ◌∙◌, ap, string_bytes}
use Rattle.bpaf_roff.specs.Roff.{Script}
use Rattle.bpaf_doc.specs.Manpage.Steps.{after_parts, draft_on}
use Rattle.bpaf_doc.proofs.lemmas.Manpage.Drafts.{exact_page, taken_page}
use Rattle.bpaf_doc.proofs.buffer.Doc.render_roff.Goals as goal

pub returns-clause-exact : goal.returns-clause-exact
returns-clause-exact g c =
    let page = c.args.page in
    let begun = c.in_ok-begun.begun in
    let written = c.in_ok-text.text in
    let document = c.args.self.now in
    let strips = ap (λ (script : Script). script.strip_newlines) c.page.view_is in
    let inside : written ≡ (after_parts (draft_on begun c.page.inside.strip_newlines) document).page = rw c.parts.ensures.parts at c.in_ok-text.ensures in
    let on_page : written ≡ (after_parts (draft_on begun page.strip_newlines) document).page = inside ∙ ap (λ strip. (after_parts (draft_on begun strip) document).page) strips in
    exact_page page begun written document (string_bytes c.into_string.result) c.in_ok-begun.ensures on_page c.into_string.ensures

pub returns-clause-read : goal.returns-clause-read
returns-clause-read g c = λ takes. taken_page c.args.page c.args.self.now (string_bytes c.into_string.result) takes (returns-clause-exact g c)
