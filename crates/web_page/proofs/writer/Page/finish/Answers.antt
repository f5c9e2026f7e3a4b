use Rattle.std.proofs.Common.{◌≡◌, true, string_bytes, sym, ap, ◌∙◌}
use Rattle.std.specs.Prelude.{length, ◌==◌}
use Rattle.std.proofs.lemmas.Str.{IsUtf8-string_bytes}
use Rattle.web_page.proofs.Outcomes.{empty_is, whole}
use Rattle.web_page.proofs.writer.Page.finish.Goals as goal

pub returns-clause-reads : goal.returns-clause-reads
returns-clause-reads g c =
    let none : (length c.self.inside.outer.items == 0) ≡ true = ap (λ xs. length xs == 0) (sym c.deref.ensures.value) ∙ sym c.is_empty.ensures ∙ c.if-not-is_empty.false in
    whole (string_bytes c.self.inside.text) (string_bytes c.write.new.out) c.self.inside.innermost c.self.inside.outer.items c.args.self c.self.invariant c.self.view_is
    (IsUtf8-string_bytes c.self.inside.text) (sym c.may_end.ensures ∙ c.if-not-may_end.false) (empty_is c.self.inside.outer.items none) c.in_ok-write.ensures.ok
