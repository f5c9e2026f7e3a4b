-- The normal form adds no `--` and loses none.
use Rattle.std.proofs.Common.{Bool, true, false, ◌⊎◌, inl, inr, refl, arith, IsTrue}
use Rattle.bpaf_meta.specs.Content.{Tree, and_of, or_of, optional, required, adjacent, item, many, subsection, suffix, skip, custom_usage, strict, Trees, no_trees, tree}
use Rattle.bpaf_meta.specs.Meta.Normal.{State, pull, push, strip, without_skips, or_form, with_first_command, optional_form, required_form, many_form, strict_if_asked, state_after, state_out, normal_form, and_parts, or_parts, or_state, outer_form, normalized}
use Rattle.bpaf_meta.specs.Meta.Shape.{HasStrict, SomeHasStrict, HasCustomUsage, SomeHasCustomUsage, KeepsStrict}
use Rattle.bpaf_meta.proofs.lemmas.Normal.Plain.{and_form_strict, or_form_strict, shown_strict, first_strict, optional_strict, required_strict, many_strict, usage_strict, outer_strict}

abbrev IsPush : State → Type 0
IsPush push = Unit {0}
IsPush s = ⊥

abbrev IsStrip : State → Type 0
IsStrip strip = Unit {0}
IsStrip s = ⊥

-- none is added

or_state_pushes : (s f : State) (ts : Trees) → ¬ IsPush f → ¬ IsPush (or_state s f ts)
or_state_pushes s f no_trees k = k
or_state_pushes s f (tree t ts) k = or_state_pushes s (state_after f (state_out s t)) ts (grind arith)

-- a `--` that is asked for is in the tree
asked : (s : State) (t : Tree) → ¬ IsPush s → IsPush (state_out s t) → HasStrict t
asked s (optional t) k x = asked s t k x
asked s (required t) k x = asked s t k x
asked s (adjacent t) k x = asked s t k x
asked s (many t) k x = asked s t k x
asked s (subsection t d) k x = asked s t k x
asked s (suffix t d) k x = asked s t k x
asked s (custom_usage t d) k x = asked s t k x
asked s y k x = grind (arith, or_state_pushes)

part_comes : (r g : State) (t n : Tree) (vs ts : Trees) → (HasStrict n → HasStrict t) → (IsPush g → HasStrict t) → (SomeHasStrict vs → SomeHasStrict ts) → SomeHasStrict (tree (strict_if_asked r g n) vs) → SomeHasStrict (tree t ts)
part_comes r g t n vs ts h6 h7 h8 h9 = grind arith

mutual
  comes : (u : Bool) (s : State) (t : Tree) → ¬ IsPush s → HasStrict (normal_form u s t) → HasStrict t
  comes u s (and_of ts) k x = and_comes u s ts k ((shown_strict (and_parts u s ts)).0 ((and_form_strict (without_skips (and_parts u s ts))).0 x))
  comes u s (or_of ts) k x = or_comes u s s ts k ((shown_strict (or_parts u s s ts)).0 ((first_strict (without_skips (or_parts u s s ts))).0 ((or_form_strict (with_first_command (without_skips (or_parts u s s ts)))).0 x)))
  comes u s (optional t) k x = comes u s t k ((optional_strict (normal_form u s t)).0 x)
  comes u s (required t) k x = comes u s t k ((required_strict (normal_form u s t)).0 x)
  comes u s (adjacent t) k x = comes u s t k x
  comes u s (item l) k x = x
  comes u s (many t) k x = comes u s t k ((many_strict (normal_form u s t)).0 x)
  comes u s (subsection t d) k x = comes u s t k x
  comes u s (suffix t d) k x = comes u s t k x
  comes u s skip k x = x
  comes u s (custom_usage t d) k x = comes u s t k (usage_strict u (normal_form u s t) d x)
  comes u s (strict t) k x = tt

  and_comes : (u : Bool) (r : State) (ts : Trees) → ¬ IsPush r → SomeHasStrict (and_parts u r ts) → SomeHasStrict ts
  and_comes u r no_trees k x = x
  and_comes u r (tree t ts) k x = part_comes r (state_out r t) t (normal_form u r t) (and_parts u (state_after r (state_out r t)) ts) ts (comes u r t k) (asked r t k) (and_comes u (state_after r (state_out r t)) ts (grind arith)) x

  or_comes : (u : Bool) (s f : State) (ts : Trees) → ¬ IsPush s → SomeHasStrict (or_parts u s f ts) → SomeHasStrict ts
  or_comes u s f no_trees k x = x
  or_comes u s f (tree t ts) k x = part_comes f (state_out s t) t (normal_form u s t) (or_parts u s (state_after f (state_out s t)) ts) ts (comes u s t k) (asked s t k) (or_comes u s (state_after f (state_out s t)) ts k) x

-- none is lost: if the tree has one, the normal form has it or it is asked for, and one shown already is in the normal
-- form
record Stays (Given Normal : Type 0) (out : State) : Type 0 where
  form : Given → Normal ⊎ IsPush out
  shown : IsStrip out → Normal

inside_stays : (H N M : Type 0) (g : State) → (N → M) → Stays H N g → Stays H M g
inside_stays H N M g f k = grind arith

or_step : (u : Bool) (t n : Tree) (ts : Trees) (g : State) → Stays (HasStrict t) (HasStrict n) g → Stays (SomeHasStrict ts) (SomeHasStrict (or_parts u pull pull ts)) (or_state pull pull ts) → Stays (SomeHasStrict (tree t ts)) (SomeHasStrict (tree (strict_if_asked pull g n) (or_parts u pull (state_after pull g) ts))) (or_state pull (state_after pull g) ts)
or_step u t n ts g h5 h6 = grind arith

mutual
  stays : (u : Bool) (t : Tree) → (IsTrue u → ¬ HasCustomUsage t) → Stays (HasStrict t) (HasStrict (normal_form u pull t)) (state_out pull t)
  stays u (and_of ts) h = record {
    form = λ x. inl ((and_form_strict (without_skips (and_parts u pull ts))).1 ((shown_strict (and_parts u pull ts)).1 (and_stays u ts h x)));
    shown = λ x. absurd x;
  }
  stays u (or_of ts) h =
      let ns : Trees = or_parts u pull pull ts in
      inside_stays (SomeHasStrict ts) (SomeHasStrict ns) (HasStrict (or_form (with_first_command (without_skips ns)))) (or_state pull pull ts) (λ x. (or_form_strict (with_first_command (without_skips ns))).1 ((first_strict (without_skips ns)).1 ((shown_strict ns).1 x))) (or_stays u ts h)
  stays u (optional t) h = inside_stays (HasStrict t) (HasStrict (normal_form u pull t)) (HasStrict (optional_form (normal_form u pull t))) (state_out pull t) (optional_strict (normal_form u pull t)).1 (stays u t h)
  stays u (required t) h = inside_stays (HasStrict t) (HasStrict (normal_form u pull t)) (HasStrict (required_form (normal_form u pull t))) (state_out pull t) (required_strict (normal_form u pull t)).1 (stays u t h)
  stays u (adjacent t) h = stays u t h
  stays u (item l) h = record { form = λ x. absurd x; shown = λ x. absurd x }
  stays u (many t) h = inside_stays (HasStrict t) (HasStrict (normal_form u pull t)) (HasStrict (many_form (normal_form u pull t))) (state_out pull t) (many_strict (normal_form u pull t)).1 (stays u t h)
  stays u (subsection t d) h = stays u t h
  stays u (suffix t d) h = stays u t h
  stays u skip h = record { form = λ x. absurd x; shown = λ x. absurd x }
  stays true (custom_usage t d) h = absurd (h refl tt)
  stays false (custom_usage t d) h = stays false t (λ e. cc)
  stays u (strict t) h = grind (arith, stays u t h)

  and_stays : (u : Bool) (ts : Trees) → (IsTrue u → ¬ SomeHasCustomUsage ts) → SomeHasStrict ts → SomeHasStrict (and_parts u pull ts)
  and_stays u no_trees h x = x
  and_stays u (tree t ts) h x = grind (arith, stays u t (λ e y. h e (inl y)), and_stays u ts (λ e y. h e (inr y)))

  or_stays : (u : Bool) (ts : Trees) → (IsTrue u → ¬ SomeHasCustomUsage ts) → Stays (SomeHasStrict ts) (SomeHasStrict (or_parts u pull pull ts)) (or_state pull pull ts)
  or_stays u no_trees h = record { form = λ x. absurd x; shown = λ x. absurd x }
  or_stays u (tree t ts) h = or_step u t (normal_form u pull t) ts (state_out pull t) (stays u t (λ e y. h e (inl y))) (or_stays u ts (λ e y. h e (inr y)))

-- the last step

outer_comes : (s : State) (t n : Tree) → (HasStrict n → HasStrict t) → (IsPush s → HasStrict t) → HasStrict (strict_if_asked pull s n) → HasStrict t
outer_comes s t n h3 h4 h5 = grind arith

last_keeps : (s : State) (n : Tree) → HasStrict n ⊎ IsPush s → HasStrict (strict_if_asked pull s n)
last_keeps s n h2 = grind arith

given_stays : (s : State) (t n : Tree) → (HasStrict t → HasStrict n ⊎ IsPush s) → HasStrict t → HasStrict (strict_if_asked pull s (outer_form n))
given_stays s t n f x = last_keeps s (outer_form n) (elim (f x) [ inl y ↦ inl ((outer_strict n).1 y) | inr y ↦ inr y ])

-- no `--` is added; none is lost outside usage, nor in usage without a CustomUsage
pub normalized_strict : (u : Bool) (t : Tree) → KeepsStrict u t (normalized u t)
normalized_strict u t = record {
  none_added = outer_comes (state_out pull t) t (outer_form (normal_form u pull t)) (λ x. comes u pull t (λ y. y) ((outer_strict (normal_form u pull t)).0 x)) (asked pull t (λ y. y));
  none_lost = λ h. given_stays (state_out pull t) t (normal_form u pull t) (stays u t h).form;
}
