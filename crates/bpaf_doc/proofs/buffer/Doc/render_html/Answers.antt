-- The page after all fragments, with the style sheet after it, is the page as a
-- function of the document, and so it has the laws.
use Rattle.std.specs.Prelude.{◌++◌, ◌≡◌}
use Rattle.bpaf_doc.proofs.lemmas.Buffer.Words.{rules, [], sym, ◌∙◌, ap, subst, shown_fragments, page_after_all}
use Rattle.bpaf_doc.specs.Html.Page.{IsHtmlPageOf, IsHtmlTextPageOf}
use Rattle.bpaf_doc.specs.Html.Exact.{html_after}
use Rattle.bpaf_doc.proofs.lemmas.Html.Nests.{page-append}
use Rattle.bpaf_doc.proofs.lemmas.Html.Exact.{page_exact, page_laws, page_words}
use Rattle.bpaf_doc.proofs.buffer.Doc.render_html.Goals as goal

pub returns-clause-exact : goal.returns-clause-exact
returns-clause-exact g c =
    let whole : c.loop-taken.page.bytes ≡ html_after [] [] (shown_fragments c.args.full c.args.self.now)
    = ap (λ fs. (page_after_all c.loop-taken.page fs).bytes) (sym c.in-None.ensures.steps.0) ∙ ap (λ p. p.bytes) c.loop-taken.invariant ∙ page_exact c.args.self.now c.args.full in
    c.in_ok-push_str.ensures.bytes ∙ ap (λ x. x ++ c.when.result.now) (c.into_text-text.ensures ∙ whole) ∙ ap (λ x. html_after [] [] (shown_fragments c.args.full c.args.self.now) ++ x) c.when.ensures

pub returns-clause-html : goal.returns-clause-html
returns-clause-html g c = λ nested. subst (λ answer. IsHtmlPageOf c.args.self.now c.args.full c.args.include_css answer) (sym (returns-clause-exact g c)) (page_laws c.args.self.now c.args.full c.args.include_css nested)

pub returns-clause-text : goal.returns-clause-text
returns-clause-text g c = subst (λ answer. IsHtmlTextPageOf c.args.self.now c.args.full c.args.include_css answer) (sym (returns-clause-exact g c)) (page_words c.args.self.now c.args.full c.args.include_css)

pub loop-taken-preserved : goal.loop-taken-preserved
loop-taken-preserved g c = search (rules, page-append)
