use Rattle.std.proofs.Common.{◌++◌, false, string_bytes, sym, ap, ◌∙◌, refl, Ok, Err, append-nil}
use Rattle.std.specs.Prelude.{alloc_error}
use Rattle.std.proofs.lemmas.Result.{err_from_is_err_and}
use Rattle.std.proofs.lemmas.Str.{IsUtf8-string_bytes}
use Rattle.web_page.specs.Exact.{escaped}
use Rattle.web_page.proofs.Outcomes.{stands_now, texted, text_misplaced, text_placed}
use Rattle.web_page.specs.declared.elements.Child.TheVariants.{Words}
use Rattle.web_page.specs.declared.errors.PageError.TheVariants as errors
use Rattle.web_page.proofs.writer.Page.text.Goals as goal

pub returns-then-not-may_stand-clause-fails : goal.returns-then-not-may_stand-clause-fails
returns-then-not-may_stand-clause-fails g c =
    text_misplaced _ c.args.self.now c.args.text.now (sym c.are_written.ensures ∙ c.if-not-are_written.false) (sym (stands_now _ _ _ c.args.self.now Words c.self.invariant c.self.view_is) ∙ sym c.may_stand.ensures ∙ c.if-not-may_stand.true)

pub returns-in_err-write-clause-fails : goal.returns-in_err-write-clause-fails
returns-in_err-write-clause-fails g c =
    let p = err_from_is_err_and c.from_residual.result c.from_residual.ensures.1 in
    rw (p.1, p.2) (text_placed c.args.self.now c.args.text.now (Err (errors.Refused alloc_error)) (sym c.are_written.ensures ∙ c.if-not-are_written.false) (sym (stands_now _ _ _ c.args.self.now Words c.self.invariant c.self.view_is) ∙ sym c.may_stand.ensures ∙ c.if-not-may_stand.false) refl)

pub invariant_of-self-2 : goal.invariant_of-self-2
invariant_of-self-2 g c =
    (texted (string_bytes c.self.inside.text) (string_bytes c.write.new.out) c.args.text.now c.self.inside.innermost c.after_text-self-inside.result _ c.args.self.now c.self.invariant c.self.view_is (IsUtf8-string_bytes c.self.inside.text) c.utf8.text
    (sym c.are_written.ensures ∙ c.if-not-are_written.false) (sym c.may_stand.ensures ∙ c.if-not-may_stand.false) (c.in_ok-write.ensures.ok ∙ ap (λ x. string_bytes c.self.inside.text ++ x) (append-nil (escaped false c.args.text.now))) c.after_text-self-inside.ensures).ongoing

pub returns-clause-ok : goal.returns-clause-ok
returns-clause-ok g c =
    (texted (string_bytes c.self.inside.text) (string_bytes c.write.new.out) c.args.text.now c.self.inside.innermost c.after_text-self-inside.result _ c.args.self.now c.self.invariant c.self.view_is (IsUtf8-string_bytes c.self.inside.text) c.utf8.text
    (sym c.are_written.ensures ∙ c.if-not-are_written.false) (sym c.may_stand.ensures ∙ c.if-not-may_stand.false) (c.in_ok-write.ensures.ok ∙ ap (λ x. string_bytes c.self.inside.text ++ x) (append-nil (escaped false c.args.text.now))) c.after_text-self-inside.ensures).is

pub returns-clause-fails : goal.returns-clause-fails
returns-clause-fails g c =
    text_placed c.args.self.now c.args.text.now (Ok tt) (sym c.are_written.ensures ∙ c.if-not-are_written.false) (sym (stands_now _ _ _ c.args.self.now Words c.self.invariant c.self.view_is) ∙ sym c.may_stand.ensures ∙ c.if-not-may_stand.false) tt
