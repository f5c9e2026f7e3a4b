use Rattle.std.proofs.Common.{◌≡◌, true, string_bytes, sym, ap, ◌∙◌, subst}
use Rattle.std.specs.Prelude.{length, ◌==◌}
use Rattle.web_page.specs.Models.{ReadsInBody}
use Rattle.web_page.proofs.Outcomes.{content, content_begins, empty_is}
use Rattle.web_page.proofs.writer.Page.finish_body.Goals as goal

pub replace_range-requires-clause-end_boundary : goal.replace_range-requires-clause-end_boundary
replace_range-requires-clause-end_boundary g c = content_begins (string_bytes c.self.inside.text) _ _ c.self.invariant

pub returns-clause-reads : goal.returns-clause-reads
returns-clause-reads g c =
    let none : (length c.self.inside.outer.items == 0) ≡ true = ap (λ xs. length xs == 0) (sym c.deref.ensures.value) ∙ sym c.is_empty.ensures ∙ c.if-not-is_empty.false in
    subst (λ bytes. ReadsInBody bytes c.args.self.nodes) (sym c.in_ok-replace_range.ensures.bytes)
    (content (string_bytes c.self.inside.text) c.self.inside.innermost c.self.inside.outer.items c.args.self c.self.invariant c.self.view_is (sym c.may_end.ensures ∙ c.if-not-may_end.false) (empty_is c.self.inside.outer.items none))
