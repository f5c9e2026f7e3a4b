use Rattle.std.proofs.Common.{◌≡◌, true, string_bytes, sym, ◌∙◌, refl, Ok, Err}
use Rattle.std.specs.Prelude.{alloc_error}
use Rattle.std.proofs.lemmas.Result.{err_from_is_err_and}
use Rattle.std.proofs.lemmas.Str.{IsUtf8-string_bytes}
use Rattle.web_page.specs.Calls.{may_stand}
use Rattle.web_page.proofs.Outcomes.{broken, placed, stands_now}
use Rattle.web_page.specs.declared.elements.Child.TheVariants.{Inner}
use Rattle.web_page.specs.declared.elements.Tag.TheVariants.{Br}
use Rattle.web_page.specs.declared.errors.PageError.TheVariants as errors
use Rattle.web_page.proofs.writer.Page.line_break.Goals as goal

pub returns-in_err-write-clause-fails : goal.returns-in_err-write-clause-fails
returns-in_err-write-clause-fails g c =
    let may : may_stand c.args.self.now (Inner Br) ≡ true = sym (stands_now _ _ _ c.args.self.now (Inner Br) c.self.invariant c.self.view_is) ∙ sym c.may_stand.ensures ∙ c.if-not-may_stand.false in
    let p = err_from_is_err_and c.from_residual.result c.from_residual.ensures.1 in
    rw (p.1, p.2) (placed c.args.self.now (Inner Br) (Err (errors.Refused alloc_error)) may refl)

pub invariant_of-self-2 : goal.invariant_of-self-2
invariant_of-self-2 g c =
    (broken (string_bytes c.self.inside.text) (string_bytes c.write.new.out) c.self.inside.innermost c.after_child-self-inside.result _ c.args.self.now c.self.invariant c.self.view_is (IsUtf8-string_bytes c.self.inside.text)
    (sym c.may_stand.ensures ∙ c.if-not-may_stand.false) c.in_ok-write.ensures.ok c.after_child-self-inside.ensures).ongoing

pub returns-clause-ok : goal.returns-clause-ok
returns-clause-ok g c =
    (broken (string_bytes c.self.inside.text) (string_bytes c.write.new.out) c.self.inside.innermost c.after_child-self-inside.result _ c.args.self.now c.self.invariant c.self.view_is (IsUtf8-string_bytes c.self.inside.text)
    (sym c.may_stand.ensures ∙ c.if-not-may_stand.false) c.in_ok-write.ensures.ok c.after_child-self-inside.ensures).is

pub returns-clause-fails : goal.returns-clause-fails
returns-clause-fails g c =
    let may : may_stand c.args.self.now (Inner Br) ≡ true = sym (stands_now _ _ _ c.args.self.now (Inner Br) c.self.invariant c.self.view_is) ∙ sym c.may_stand.ensures ∙ c.if-not-may_stand.false in
    placed c.args.self.now (Inner Br) (Ok tt) may tt
