use Rattle.std.proofs.Common.{◌++◌, ◌∙◌, ap, string_bytes, false}
use Rattle.std.proofs.lemmas.Result.{on_ok_weaker}
use Rattle.page_model.specs.View.{line_of}
use Rattle.man_page.specs.declared.escape.Role.TheVariants.{Text}
use Rattle.man_page.specs.Exact.{pieces_text}
use Rattle.man_page.proofs.Parts.{terms_joined}
use Rattle.man_page.proofs.page.push_terms.Goals as goal

pub returns : goal.returns
returns g c =
    let section = c.args.section.now in
    let out = string_bytes c.args.line.now in
    on_ok_weaker c.push_further_terms.result (terms_joined section out (string_bytes c.push_term.new.line) (string_bytes c.push_further_terms.new.line) c.args.terms.now (λ term. line_of term.items) c.in-Some.first.now c.in-Some.rest.now c.in-Some.ensures.cases.0 (c.in_ok-push_term.ensures ∙ ap (λ pieces. out ++ pieces_text Text false section (line_of pieces)) c.as_slice.ensures.value)) c.push_further_terms.ensures
