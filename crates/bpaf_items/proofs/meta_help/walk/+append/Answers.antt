use Rattle.std.specs.Prelude.{◌++◌, ◌+◌, ◌∷◌, ◌≡◌, ◌⊎◌}
use Rattle.bpaf_items.proofs.Words.{Some, false, List, [], ◌∙◌, ap, sym, subst, refl, drop, length, map, arith, rules, Box, OnOk, IfOk, at_drop_more, Tree, optional, required, many, subsection, custom_usage, strict, tree_of, trees_of, OnOk-map, front_type, first_front_type, entries_of, entries_of_parts, entry_of, adjacent_start, adjacent_stop, group_end, group_start, if_typed}
use Rattle.bpaf_doc.specs.declared.buffer.Doc.{Doc}
use Rattle.bpaf_meta.specs.declared.item.Item.{the_lemmas}
use Rattle.bpaf_meta.specs.declared.meta.Meta.{Meta}
use Rattle.bpaf_meta.specs.declared.meta.Meta.TheVariants.{Optional, Required, Many, CustomUsage, Strict}
use Rattle.bpaf_items.specs.declared.meta_help.entry.HiTy.TheVariants as ty
use Rattle.bpaf_items.specs.declared.meta_help.entry.HelpItem.TheVariants as entry
use Rattle.bpaf_items.proofs.Steps.Fronts.{front_whole, front_then, append_turn}
use Rattle.bpaf_items.proofs.Steps.Kept.{type_turn, ungrouped, no_entries, away_front, closed_front, closed_entries}
use Rattle.bpaf_items.proofs.meta_help.walk.+append.Goals as goal

pub append_parts-loop-part-init : goal.append_parts-loop-part-init
append_parts-loop-part-init g t c = record { entries = cc (c.reserve.ensures.items); ty = cc; front = rw c.reserve.ensures.items (front_whole _) }

pub append_parts-returns-in_err-own-clause-front : goal.append_parts-returns-in_err-own-clause-front
append_parts-returns-in_err-own-clause-front g t c = front_then _ c.loop-part.items.items _ c.loop-part.invariant.front c.append.ensures.front

pub append_parts-loop-part-preserved : goal.append_parts-loop-part-preserved
append_parts-loop-part-preserved g t c =
    let parts = c.deref-part-items.result.now in
    let i = c.loop-part.part-index in
    let part = c.part-item.result in
    let e = at_drop_more (λ (ms : List (Meta g.row.A.Denot)). entries_of_parts c.args.groups (trees_of ms)) parts i part (omega arith) in
    let f = at_drop_more (λ (ms : List (Meta g.row.A.Denot)). first_front_type (trees_of ms)) parts i part (omega arith) in
    let later = trees_of (drop (i + 1) parts) in
    record {
      entries = append_turn (map entry_of c.loop-part.items.items) (map entry_of c.append.new.items.items) (entries_of c.args.groups (tree_of part)) (entries_of_parts c.args.groups later) (map entry_of c.args.items.now.items ++ entries_of_parts c.args.groups (trees_of c.args.parts.now.items)) (entries_of_parts c.args.groups (trees_of (drop i parts))) (cc (c.in_ok-own.ensures.entries)) (cc (e, c.part-item.is)) c.loop-part.invariant.entries;
      ty = type_turn c.loop-part.front (front_type (tree_of part)) (first_front_type later) (first_front_type (trees_of (drop i parts))) (first_front_type (trees_of c.args.parts.now.items)) c.first_of-front.result (cc (c.first_of-front.ensures, c.in_ok-own.ensures.ty)) (cc (f, c.part-item.is)) c.loop-part.invariant.ty;
      front = front_then _ c.loop-part.items.items _ c.loop-part.invariant.front c.append.ensures.front;
    }

pub append_adjacent-returns-in_default-clause-front : goal.append_adjacent-returns-in_default-clause-front
append_adjacent-returns-in_default-clause-front g t c =
    away_front c.args.items.now.items _ _ _ c.len-at.result _ (search rules) c.in_ok-push.ensures.items c.append.ensures.front c.truncate.ensures.items

pub append_adjacent-returns-in_err-close-clause-front : goal.append_adjacent-returns-in_err-close-clause-front
append_adjacent-returns-in_err-close-clause-front g t c =
    closed_front c.args.items.now.items _ _ _ c.len-at.result _ (search rules) c.in_ok-push.ensures.items c.append.ensures.front c.close.ensures.front

pub append_adjacent-returns-clause-front : goal.append_adjacent-returns-clause-front
append_adjacent-returns-clause-front g t c =
    closed_front c.args.items.now.items _ _ _ c.len-at.result _ (search rules) c.in_ok-push.ensures.items c.append.ensures.front c.close.ensures.front

pub append_adjacent-returns-clause-entries : goal.append_adjacent-returns-clause-entries
append_adjacent-returns-clause-entries g t c =
    let old = c.args.items.now.items in
    let inner = tree_of c.args.inner.now in
    let at : c.len-at.result ≡ length old = search rules in
    let type : Some c.in-Some.ty ≡ front_type inner = cc (c.in_ok-ty.ensures.ty, c.in-Some.is) in
    closed_entries entry_of old c.push.new.items.items c.append.new.items.items c.close.new.items.items c.len-at.result (entry.AdjacentStart c.args.inner ty.Flag) (entry.AdjacentStart c.args.inner c.in-Some.ty) (entry.AdjacentStop c.in-Some.ty) (entries_of c.args.groups inner) at c.in_ok-push.ensures.items c.append.ensures.front c.in_ok-ty.ensures.entries c.in_ok-close.ensures.items
    ∙ ap (λ o. map entry_of old ++ if_typed o (λ k. adjacent_start inner k ∷ entries_of c.args.groups inner ++ adjacent_stop k ∷ [])) type

pub append_group-returns-in_default-clause-front : goal.append_group-returns-in_default-clause-front
append_group-returns-in_default-clause-front g t c =
    away_front c.args.items.now.items _ _ _ c.len-at.result _ (search rules) c.in_ok-push.ensures.items c.append-2.ensures.front c.truncate.ensures.items

pub append_group-returns-in_err-close-clause-front : goal.append_group-returns-in_err-close-clause-front
append_group-returns-in_err-close-clause-front g t c =
    closed_front c.args.items.now.items _ _ _ c.len-at.result _ (search rules) c.in_ok-push.ensures.items c.append-2.ensures.front c.close.ensures.front

pub append_group-returns-clause-front : goal.append_group-returns-clause-front
append_group-returns-clause-front g t c =
    closed_front c.args.items.now.items _ _ _ c.len-at.result _ (search rules) c.in_ok-push.ensures.items c.append-2.ensures.front c.close.ensures.front

pub append_group-returns-clause-entries : goal.append_group-returns-clause-entries
append_group-returns-clause-entries g t c =
    let old = c.args.items.now.items in
    let inner = tree_of c.args.inner.now in
    let at : c.len-at.result ≡ length old = search rules in
    let type : Some c.in-Some.ty ≡ front_type inner = cc (c.in_ok-ty.ensures.ty, c.in-Some.is) in
    closed_entries entry_of old c.push.new.items.items c.append-2.new.items.items c.close.new.items.items c.len-at.result (entry.GroupStart c.args.help ty.Flag) (entry.GroupStart c.args.help c.in-Some.ty) (entry.GroupEnd c.in-Some.ty) (entries_of false inner) at c.in_ok-push.ensures.items c.append-2.ensures.front c.in_ok-ty.ensures.entries c.in_ok-close.ensures.items
    ∙ ap (λ o. map entry_of old ++ if_typed o (λ k. group_start c.args.help.now k ∷ entries_of false inner ++ group_end k ∷ [])) type
    ∙ ap (λ b. map entry_of old ++ entries_of b (subsection inner c.args.help.now)) (sym c.if-not-groups.false)

pub append_group-returns-then-not-groups-clause-entries : goal.append_group-returns-then-not-groups-clause-entries
append_group-returns-then-not-groups-clause-entries g t c =
    let old = map entry_of c.args.items.now.items in
    let inner = tree_of c.args.inner.now in
    OnOk-map {P = map entry_of c.append.new.items.items ≡ old ++ entries_of false inner} c.append.result (λ e. e ∙ ap (λ es. old ++ es) (sym (ungrouped inner c.args.help.now) ∙ ap (λ b. entries_of b (subsection inner c.args.help.now)) (sym c.if-not-groups.true))) c.append.ensures.entries

pub append_noted-returns-in_default-clause-entries : goal.append_noted-returns-in_default-clause-entries
append_noted-returns-in_default-clause-entries g t c = grind (arith, no_entries c.args.groups (tree_of c.args.inner.now))

-- a tree around another one, except a block of its own
tree_around : {A : Type 0} (m : Meta A) (inner : Box (Meta A) A) → (m ≡ Optional inner) ⊎ ((m ≡ Required inner) ⊎ ((m ≡ Many inner) ⊎ (((d : Box (Doc A) A) × (m ≡ CustomUsage inner d)) ⊎ (m ≡ Strict inner)))) → {X : Type 0} (f : Tree → X)
    → ((t : Tree) → f (optional t) ≡ f t) → ((t : Tree) → f (required t) ≡ f t) → ((t : Tree) → f (many t) ≡ f t) → ((t : Tree) (d : _) → f (custom_usage t d) ≡ f t) → ((t : Tree) → f (strict t) ≡ f t)
    → f (tree_of inner.value) ≡ f (tree_of m)
tree_around m inner is f o r n c s = grind (arith, the_lemmas, is)

pub append-returns-in-Optional-clause-entries : goal.append-returns-in-Optional-clause-entries
append-returns-in-Optional-clause-entries g t c =
    let groups = c.args.groups in
    subst (λ own. OnOk c.append.result (map entry_of c.append.new.items.items ≡ map entry_of c.args.items.now.items ++ own))
    (ap (λ m. entries_of groups (tree_of m)) c.deref-in-Optional.ensures ∙ tree_around c.args.meta.now c.in-Optional.inner c.in-Optional.is (entries_of groups) (λ t. refl) (λ t. refl) (λ t. refl) (λ t d. refl) (λ t. refl))
    c.append.ensures.entries

pub append-returns-in-Optional-clause-ty : goal.append-returns-in-Optional-clause-ty
append-returns-in-Optional-clause-ty g t c =
    subst (λ own. IfOk c.append.result (λ front. front ≡ own))
    (ap (λ m. front_type (tree_of m)) c.deref-in-Optional.ensures ∙ tree_around c.args.meta.now c.in-Optional.inner c.in-Optional.is front_type (λ t. refl) (λ t. refl) (λ t. refl) (λ t d. refl) (λ t. refl))
    c.append.ensures.ty
