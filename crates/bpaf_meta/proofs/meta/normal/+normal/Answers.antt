use Rattle.std.proofs.Common.{◌≡◌, List, ◌+◌, ◌⊎◌, inl, inr, ap, subst, refl, sym, ◌∙◌, drop, arith, rules, Box}
use Rattle.std.specs.Prelude.{IfOk, OnOk}
use Rattle.std.proofs.lemmas.List.{at_drop_all, at_drop_more}
use Rattle.std.proofs.lemmas.Result.{IfOk-weaker}
use Rattle.bpaf_doc.specs.declared.buffer.Doc.{Doc}
use Rattle.bpaf_meta.specs.Content.{Tree, adjacent, subsection, suffix}
use Rattle.bpaf_meta.specs.View.{tree_of, trees_of}
use Rattle.bpaf_meta.specs.declared.item.Item.{the_lemmas}
use Rattle.bpaf_meta.specs.declared.meta.Meta.{Meta}
use Rattle.bpaf_meta.specs.declared.meta.Meta.TheVariants.{Adjacent, Subsection, Suffix}
use Rattle.bpaf_meta.specs.Meta.Normal.{normal_form, state_out, state_after, without_skips, and_parts, or_parts, or_state, or_form, with_first_command}
use Rattle.bpaf_meta.specs.Meta.Steps.Forms.{form_of, forms_of}
use Rattle.bpaf_meta.specs.Meta.Steps.Passes.{state_of, after_commands}
use Rattle.bpaf_meta.proofs.lemmas.Normal.Parts.{trees_then_none, after_none, and_turn, or_turn}
use Rattle.bpaf_meta.proofs.meta.normal.+normal.Goals as goal

pub normalize_and-loop-part-preserved : goal.normalize_and-loop-part-preserved
normalize_and-loop-part-preserved g t c =
    let u = c.args.for_usage in
    let items = c.deref-part-items.result.now in
    let i = c.loop-part.part-index in
    let running = state_of c.loop-part.running in
    let e = at_drop_more (λ (ms : List (Meta g.row.A.Denot)). without_skips (and_parts u running (trees_of ms))) items i c.part-item.result (omega arith) in
    let k = and_turn (forms_of c.loop-part.kept.items) (form_of c.in_ok-guard.field-0) (and_parts u (state_after running (state_out running (tree_of c.part-item.result))) (trees_of (drop (i + 1) items))) in
    cc (e, k, c.part-item.is, c.in_ok-form.ensures.form, c.in_ok-form.ensures.state, c.in_ok-guard.ensures, c.in_ok-keep.ensures, c.after-running.ensures, c.loop-part.invariant)

pub normalize_and-returns : goal.normalize_and-returns
normalize_and-returns g t c =
    let u = c.args.for_usage in
    let items = c.deref-part-items.result.now in
    let e = at_drop_all (λ (ms : List (Meta g.row.A.Denot)). without_skips (and_parts u (state_of c.loop-part.running) (trees_of ms))) items c.loop-part.part-index (omega arith) in
    cc (e, trees_then_none (forms_of c.loop-part.kept.items), c.loop-part.invariant)

pub normalize_or-loop-part-preserved : goal.normalize_or-loop-part-preserved
normalize_or-loop-part-preserved g t c =
    let u = c.args.for_usage in
    let items = c.deref-part-items.result.now in
    let i = c.loop-part.part-index in
    let s = state_of c.args.state.now in
    let last = state_of c.loop-part.state in
    let seen = c.loop-part.seen_command in
    let left = or_parts u s (state_after last (state_out s (tree_of c.part-item.result))) (trees_of (drop (i + 1) items)) in
    let e = at_drop_more (λ (ms : List (Meta g.row.A.Denot)). after_commands seen (without_skips (or_parts u s last (trees_of ms)))) items i c.part-item.result (omega arith) in
    let f = at_drop_more (λ (ms : List (Meta g.row.A.Denot)). or_state s last (trees_of ms)) items i c.part-item.result (omega arith) in
    let k = or_turn seen (forms_of c.loop-part.kept.items) (form_of c.in_ok-form-2.form) left in
    record {
      form = cc (e, k, c.part-item.is, c.in_ok-form.ensures.form, c.in_ok-form.ensures.state, c.in_ok-form-2.ensures, c.in_ok-seen_command.ensures.kept, c.in_ok-seen_command.ensures.seen, c.after.ensures, c.loop-part.invariant.form);
      state = cc (f, c.part-item.is, c.in_ok-form.ensures.state, c.after.ensures, c.loop-part.invariant.state);
    }

pub normalize_or-returns-clause-form : goal.normalize_or-returns-clause-form
normalize_or-returns-clause-form g t c =
    let u = c.args.for_usage in
    let items = c.deref-part-items.result.now in
    let s = state_of c.args.state.now in
    let e = at_drop_all (λ (ms : List (Meta g.row.A.Denot)). after_commands c.loop-part.seen_command (without_skips (or_parts u s (state_of c.loop-part.state) (trees_of ms)))) items c.loop-part.part-index (omega arith) in
    let shown : forms_of c.loop-part.kept.items ≡ with_first_command (without_skips (or_parts u s s (trees_of c.args.parts.now.items))) = cc (e, after_none c.loop-part.seen_command, trees_then_none (forms_of c.loop-part.kept.items), c.loop-part.invariant.form) in
    subst (λ ts. IfOk c.make_or.result (λ f. form_of f ≡ or_form ts)) shown c.make_or.ensures

pub normalize_or-returns-clause-state : goal.normalize_or-returns-clause-state
normalize_or-returns-clause-state g t c =
    let s = state_of c.args.state.now in
    let last = state_of c.loop-part.state in
    let e = at_drop_all (λ (ms : List (Meta g.row.A.Denot)). or_state s last (trees_of ms)) c.deref-part-items.result.now c.loop-part.part-index (omega arith) in
    IfOk-weaker c.make_or.result _ (λ _. last ≡ or_state s s (trees_of c.args.parts.now.items)) (λ _ _. sym e ∙ c.loop-part.invariant.state) c.make_or.ensures

-- a tree around another one that no usage line shows
tree_around : {A : Type 0} (m : Meta A) (inner : Box (Meta A) A) → (m ≡ Adjacent inner) ⊎ (((d : Box (Doc A) A) × (m ≡ Subsection inner d)) ⊎ ((d : Box (Doc A) A) × (m ≡ Suffix inner d))) → {X : Type 0} (f : Tree → X)
    → ((t : Tree) → f (adjacent t) ≡ f t) → ((t : Tree) (d : _) → f (subsection t d) ≡ f t) → ((t : Tree) (d : _) → f (suffix t d) ≡ f t) → f (tree_of inner.value) ≡ f (tree_of m)
tree_around m inner (inl e) f a s n = search (rules, the_lemmas, e, a)
tree_around m inner (inr (inl e)) f a s n = search (rules, the_lemmas, e.1, s)
tree_around m inner (inr (inr e)) f a s n = search (rules, the_lemmas, e.1, n)

pub normalize-returns-in-Adjacent-clause-form : goal.normalize-returns-in-Adjacent-clause-form
normalize-returns-in-Adjacent-clause-form g t c =
    let form = normal_form c.args.for_usage (state_of c.args.state.now) in
    subst (λ own. IfOk c.normalize-in-Adjacent.result (λ f. form_of f ≡ own))
    (ap (λ m. form (tree_of m)) c.deref-in-Adjacent.ensures ∙ tree_around c.args.meta.now c.in-Adjacent.inner c.in-Adjacent.is form (λ t. refl) (λ t d. refl) (λ t d. refl))
    c.normalize-in-Adjacent.ensures.form

pub normalize-returns-in-Adjacent-clause-state : goal.normalize-returns-in-Adjacent-clause-state
normalize-returns-in-Adjacent-clause-state g t c =
    let out = state_out (state_of c.args.state.now) in
    subst (λ own. OnOk c.normalize-in-Adjacent.result (state_of c.normalize-in-Adjacent.new.state ≡ own))
    (ap (λ m. out (tree_of m)) c.deref-in-Adjacent.ensures ∙ tree_around c.args.meta.now c.in-Adjacent.inner c.in-Adjacent.is out (λ t. refl) (λ t d. refl) (λ t d. refl))
    c.normalize-in-Adjacent.ensures.state
