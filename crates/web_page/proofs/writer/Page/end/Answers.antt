use Rattle.std.proofs.Common.{◌≡◌, ◌++◌, true, string_bytes, sym, ap, ◌∙◌, refl, Ok, Err}
use Rattle.std.specs.Prelude.{alloc_error}
use Rattle.std.proofs.lemmas.Result.{err_from_is_err_and}
use Rattle.std.proofs.lemmas.Str.{IsUtf8-string_bytes}
use Rattle.std.specs.Prelude.{not, reverse, length, ◌==◌}
use Rattle.std.specs.Option.{option_to_list}
use Rattle.web_page.proofs.Held.{is_around}
use Rattle.web_page.proofs.Outcomes.{around_by, around_now, end_placed, end_without_ink, ended, ends_now, inked_now}
use Rattle.web_page.specs.declared.errors.PageError.TheVariants as errors
use Rattle.web_page.proofs.writer.Page.end.Goals as goal

pub returns-then-not-is_inked-clause-fails : goal.returns-then-not-is_inked-clause-fails
returns-then-not-is_inked-clause-fails g c =
    let around : is_around (reverse c.self.inside.outer.items) ≡ true = around_by c.self.inside.outer.items ∙ ap (λ xs. not (length xs == 0)) (sym c.deref.ensures.value) ∙ ap not (sym c.is_empty.ensures ∙ c.if-is_empty.false) in
    end_without_ink _ c.args.self.now (sym (around_now _ _ _ c.args.self.now c.self.invariant c.self.view_is) ∙ around) (sym (ends_now _ _ _ c.args.self.now c.self.invariant c.self.view_is) ∙ sym c.may_end.ensures ∙ c.if-not-may_end.false)
    (sym (inked_now _ _ _ c.args.self.now c.self.invariant c.self.view_is) ∙ sym c.is_inked.ensures ∙ c.if-not-is_inked.true)

pub returns-in_err-write_end-clause-fails : goal.returns-in_err-write_end-clause-fails
returns-in_err-write_end-clause-fails g c =
    let around : is_around (reverse c.self.inside.outer.items) ≡ true = around_by c.self.inside.outer.items ∙ ap (λ xs. not (length xs == 0)) (sym c.deref.ensures.value) ∙ ap not (sym c.is_empty.ensures ∙ c.if-is_empty.false) in
    let p = err_from_is_err_and c.from_residual.result c.from_residual.ensures.1 in
    rw (p.1, p.2) (end_placed c.args.self.now (Err (errors.Refused alloc_error)) (sym (around_now _ _ _ c.args.self.now c.self.invariant c.self.view_is) ∙ around) (sym (ends_now _ _ _ c.args.self.now c.self.invariant c.self.view_is) ∙ sym c.may_end.ensures ∙ c.if-not-may_end.false)
    (sym (inked_now _ _ _ c.args.self.now c.self.invariant c.self.view_is) ∙ sym c.is_inked.ensures ∙ c.if-not-is_inked.false) refl)

pub invariant_of-self-2 : goal.invariant_of-self-2
invariant_of-self-2 g c =
    (ended (string_bytes c.self.inside.text) (string_bytes c.write_end.new.out) c.self.inside.innermost c.unwrap-outer.result c.after_child-self-inside.result c.self.inside.outer.items c.pop.new.self.items c.args.self.now c.self.invariant c.self.view_is
    (IsUtf8-string_bytes c.self.inside.text) (sym c.may_end.ensures ∙ c.if-not-may_end.false) (sym c.is_inked.ensures ∙ c.if-not-is_inked.false) c.in_ok-write_end.ensures.ok c.after_child-self-inside.ensures
    (c.pop.ensures.items ∙ ap (λ o. c.pop.new.self.items ++ option_to_list o) c.unwrap-outer.ensures)).ongoing

pub returns-clause-ok : goal.returns-clause-ok
returns-clause-ok g c =
    (ended (string_bytes c.self.inside.text) (string_bytes c.write_end.new.out) c.self.inside.innermost c.unwrap-outer.result c.after_child-self-inside.result c.self.inside.outer.items c.pop.new.self.items c.args.self.now c.self.invariant c.self.view_is
    (IsUtf8-string_bytes c.self.inside.text) (sym c.may_end.ensures ∙ c.if-not-may_end.false) (sym c.is_inked.ensures ∙ c.if-not-is_inked.false) c.in_ok-write_end.ensures.ok c.after_child-self-inside.ensures
    (c.pop.ensures.items ∙ ap (λ o. c.pop.new.self.items ++ option_to_list o) c.unwrap-outer.ensures)).is

pub returns-clause-fails : goal.returns-clause-fails
returns-clause-fails g c =
    let around : is_around (reverse c.self.inside.outer.items) ≡ true = around_by c.self.inside.outer.items ∙ ap (λ xs. not (length xs == 0)) (sym c.deref.ensures.value) ∙ ap not (sym c.is_empty.ensures ∙ c.if-is_empty.false) in
    end_placed c.args.self.now (Ok tt) (sym (around_now _ _ _ c.args.self.now c.self.invariant c.self.view_is) ∙ around) (sym (ends_now _ _ _ c.args.self.now c.self.invariant c.self.view_is) ∙ sym c.may_end.ensures ∙ c.if-not-may_end.false)
    (sym (inked_now _ _ _ c.args.self.now c.self.invariant c.self.view_is) ∙ sym c.is_inked.ensures ∙ c.if-not-is_inked.false) tt
