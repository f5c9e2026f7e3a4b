use Rattle.std.proofs.Common.{◌++◌, ◌∷◌, [], string_bytes, sym, ap, ◌∙◌, refl, Ok, Err}
use Rattle.std.specs.Prelude.{alloc_error}
use Rattle.std.proofs.lemmas.Result.{err_from_is_err_and}
use Rattle.std.proofs.lemmas.Str.{IsUtf8-string_bytes}
use Rattle.web_page.proofs.Outcomes.{misplaced, placed, stands_now, started}
use Rattle.web_page.specs.declared.elements.Child.TheVariants.{Inner}
use Rattle.web_page.specs.declared.errors.PageError.TheVariants as errors
use Rattle.web_page.proofs.writer.Page.start_tag.Goals as goal

pub returns-then-not-may_stand-clause-fails : goal.returns-then-not-may_stand-clause-fails
returns-then-not-may_stand-clause-fails g c =
    misplaced _ c.args.self.now (Inner c.args.tag) (sym (stands_now _ _ _ c.args.self.now (Inner c.args.tag) c.self.invariant c.self.view_is) ∙ sym c.may_stand.ensures ∙ c.if-not-may_stand.true)

pub returns-in_err-reserve-clause-fails : goal.returns-in_err-reserve-clause-fails
returns-in_err-reserve-clause-fails g c =
    let p = err_from_is_err_and c.from_residual.result c.from_residual.ensures.1 in
    rw (p.1, p.2) (placed c.args.self.now (Inner c.args.tag) (Err (errors.Refused alloc_error)) (sym (stands_now _ _ _ c.args.self.now (Inner c.args.tag) c.self.invariant c.self.view_is) ∙ sym c.may_stand.ensures ∙ c.if-not-may_stand.false) refl)

pub returns-in_err-write_start-clause-fails : goal.returns-in_err-write_start-clause-fails
returns-in_err-write_start-clause-fails g c =
    let p = err_from_is_err_and c.from_residual-in_err-write_start.result c.from_residual-in_err-write_start.ensures.1 in
    rw (p.1, p.2) (placed c.args.self.now (Inner c.args.tag) (Err (errors.Refused alloc_error)) (sym (stands_now _ _ _ c.args.self.now (Inner c.args.tag) c.self.invariant c.self.view_is) ∙ sym c.may_stand.ensures ∙ c.if-not-may_stand.false) refl)

pub invariant_of-self-2 : goal.invariant_of-self-2
invariant_of-self-2 g c =
    (started (string_bytes c.self.inside.text) (string_bytes c.write_start.new.out) c.args.value.now c.self.inside.innermost c.opened-self-inside.result c.self.inside.outer.items c.push_reserved.new.self.items c.args.self.now c.args.tag c.args.key c.self.invariant c.self.view_is
    (IsUtf8-string_bytes c.self.inside.text) c.utf8.value c.requires (sym c.may_stand.ensures ∙ c.if-not-may_stand.false) c.in_ok-write_start.ensures.ok c.opened-self-inside.ensures (c.push_reserved.ensures.items ∙ ap (λ xs. xs ++ c.self.inside.innermost ∷ []) c.reserve.ensures.items)).ongoing

pub returns-clause-ok : goal.returns-clause-ok
returns-clause-ok g c =
    (started (string_bytes c.self.inside.text) (string_bytes c.write_start.new.out) c.args.value.now c.self.inside.innermost c.opened-self-inside.result c.self.inside.outer.items c.push_reserved.new.self.items c.args.self.now c.args.tag c.args.key c.self.invariant c.self.view_is
    (IsUtf8-string_bytes c.self.inside.text) c.utf8.value c.requires (sym c.may_stand.ensures ∙ c.if-not-may_stand.false) c.in_ok-write_start.ensures.ok c.opened-self-inside.ensures (c.push_reserved.ensures.items ∙ ap (λ xs. xs ++ c.self.inside.innermost ∷ []) c.reserve.ensures.items)).is

pub returns-clause-fails : goal.returns-clause-fails
returns-clause-fails g c = placed c.args.self.now (Inner c.args.tag) (Ok tt) (sym (stands_now _ _ _ c.args.self.now (Inner c.args.tag) c.self.invariant c.self.view_is) ∙ sym c.may_stand.ensures ∙ c.if-not-may_stand.false) tt
