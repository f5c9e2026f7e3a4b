-- Trees without Strict: their normal form has none, is Skip exactly where they are hidden, and is its own normal form.
use Rattle.std.proofs.Common.{◌≡◌, ◌↔◌, ◌⊎◌, Bool, true, List, inl, inr, refl, sym, ap, ◌∙◌, subst, arith}
use Rattle.std.proofs.lemmas.Bool.{and_parts as conjuncts}
use Rattle.bpaf_doc.specs.Buffer.Parts.{Part}
use Rattle.bpaf_meta.specs.Content.{Tree, and_of, or_of, optional, required, adjacent, item, many, subsection, suffix, skip, custom_usage, strict, Trees, no_trees, tree}
use Rattle.bpaf_meta.specs.Meta.Normal.{State, pull, without_skips, and_form, or_form, is_command_tree, without_commands, with_first_command, optional_form, required_form, many_form, custom_usage_form, strict_if_asked, state_out, normal_form, and_parts, or_parts, or_state, outer_form, normalized}
use Rattle.bpaf_meta.specs.Meta.Sequences.{is_hidden, are_hidden}
use Rattle.bpaf_meta.specs.Meta.Shape.{HasStrict, SomeHasStrict}
use Rattle.bpaf_meta.proofs.lemmas.Normal.Keeps.{normalized_shows}

-- the state stays

guarded_same : (s : State) (t : Tree) → strict_if_asked s s t ≡ t
guarded_same s t = grind arith

mutual
  state_kept : (s : State) (t : Tree) → ¬ HasStrict t → state_out s t ≡ s
  state_kept s (and_of ts) h = refl
  state_kept s (or_of ts) h = or_state_kept s ts h
  state_kept s (optional t) h = state_kept s t h
  state_kept s (required t) h = state_kept s t h
  state_kept s (adjacent t) h = state_kept s t h
  state_kept s (item l) h = refl
  state_kept s (many t) h = state_kept s t h
  state_kept s (subsection t d) h = state_kept s t h
  state_kept s (suffix t d) h = state_kept s t h
  state_kept s skip h = refl
  state_kept s (custom_usage t d) h = state_kept s t h
  state_kept s (strict t) h = absurd (h tt)

  or_state_kept : (s : State) (ts : Trees) → ¬ SomeHasStrict ts → or_state s s ts ≡ s
  or_state_kept s no_trees h = refl
  or_state_kept s (tree t ts) h = grind (arith, or_state_kept s ts, state_kept s t)

-- the parts in normal form, each from the same state
abbrev pub plain_parts : Bool → State → Trees → Trees
plain_parts u s no_trees = no_trees
plain_parts u s (tree t ts) = tree (normal_form u s t) (plain_parts u s ts)

pub and_parts_plain : (u : Bool) (s : State) (ts : Trees) → ¬ SomeHasStrict ts → and_parts u s ts ≡ plain_parts u s ts
and_parts_plain u s no_trees h = refl
and_parts_plain u s (tree t ts) h = grind (arith, and_parts_plain u s ts, state_kept s t, guarded_same s (normal_form u s t))

pub or_parts_plain : (u : Bool) (s : State) (ts : Trees) → ¬ SomeHasStrict ts → or_parts u s s ts ≡ plain_parts u s ts
or_parts_plain u s no_trees h = refl
or_parts_plain u s (tree t ts) h = grind (arith, or_parts_plain u s ts, state_kept, guarded_same)

-- no Strict is added

-- both ways: what holds of one holds of the other
pub itself : {P : Type 0} → P ↔ P
itself = ((λ x. x), (λ x. x))

pub and_form_strict : (ts : Trees) → HasStrict (and_form ts) ↔ SomeHasStrict ts
and_form_strict ts = grind (arith, itself)

pub or_form_strict : (ts : Trees) → HasStrict (or_form ts) ↔ SomeHasStrict ts
or_form_strict ts = grind (arith, itself)

some_tail : {P Q R : Type 0} → Q ↔ R → (P ⊎ Q) ↔ (P ⊎ R)
some_tail f = grind arith

pub shown_strict : (ts : Trees) → SomeHasStrict (without_skips ts) ↔ SomeHasStrict ts
shown_strict no_trees = itself
shown_strict (tree x ts) = grind (arith, shown_strict ts, some_tail)

-- a command has no Strict
command_holds_none : (t : Tree) → is_command_tree t ≡ true → ¬ HasStrict t
command_holds_none (subsection t d) e x = command_holds_none t e x
command_holds_none y e x = grind arith

without_strict : (ts : Trees) → SomeHasStrict (without_commands ts) ↔ SomeHasStrict ts
without_strict no_trees = itself
without_strict (tree t ts) = grind (arith, command_holds_none, some_tail, without_strict ts)

pub first_strict : (ts : Trees) → SomeHasStrict (with_first_command ts) ↔ SomeHasStrict ts
first_strict no_trees = itself
first_strict (tree t ts) = some_tail (grind (arith, without_strict ts, first_strict ts))

pub optional_strict : (t : Tree) → HasStrict (optional_form t) ↔ HasStrict t
optional_strict t = grind (arith, itself)

pub required_strict : (t : Tree) → HasStrict (required_form t) ↔ HasStrict t
required_strict t = grind (arith, itself)

pub many_strict : (t : Tree) → HasStrict (many_form t) ↔ HasStrict t
many_strict t = grind (arith, itself)

pub usage_strict : (u : Bool) (t : Tree) (d : List Part) → HasStrict (custom_usage_form u t d) → HasStrict t
usage_strict u t d h3 = grind arith

mutual
  pub no_strict : (u : Bool) (s : State) (t : Tree) → ¬ HasStrict t → ¬ HasStrict (normal_form u s t)
  no_strict u s (and_of ts) h x =
      let y = (shown_strict (and_parts u s ts)).0 ((and_form_strict (without_skips (and_parts u s ts))).0 x) in
      none_strict u s ts h (subst SomeHasStrict (and_parts_plain u s ts h) y)
  no_strict u s (or_of ts) h x =
      let ns : Trees = or_parts u s s ts in
      let y = (shown_strict ns).0 ((first_strict (without_skips ns)).0 ((or_form_strict (with_first_command (without_skips ns))).0 x)) in
      none_strict u s ts h (subst SomeHasStrict (or_parts_plain u s ts h) y)
  no_strict u s (optional t) h x = no_strict u s t h ((optional_strict (normal_form u s t)).0 x)
  no_strict u s (required t) h x = no_strict u s t h ((required_strict (normal_form u s t)).0 x)
  no_strict u s (adjacent t) h x = no_strict u s t h x
  no_strict u s (item l) h x = x
  no_strict u s (many t) h x = no_strict u s t h ((many_strict (normal_form u s t)).0 x)
  no_strict u s (subsection t d) h x = no_strict u s t h x
  no_strict u s (suffix t d) h x = no_strict u s t h x
  no_strict u s skip h x = x
  no_strict u s (custom_usage t d) h x = no_strict u s t h (usage_strict u (normal_form u s t) d x)
  no_strict u s (strict t) h x = h tt

  none_strict : (u : Bool) (s : State) (ts : Trees) → ¬ SomeHasStrict ts → ¬ SomeHasStrict (plain_parts u s ts)
  none_strict u s no_trees h x = x
  none_strict u s (tree t ts) h (inl x) = no_strict u s t (λ y. h (inl y)) x
  none_strict u s (tree t ts) h (inr x) = none_strict u s ts (λ y. h (inr y)) x

pub outer_strict : (t : Tree) → HasStrict (outer_form t) ↔ HasStrict t
outer_strict t = grind (arith, itself)

-- without Strict the last step does nothing
pub normalized_plain : (u : Bool) (t : Tree) → ¬ HasStrict t → normalized u t ≡ outer_form (normal_form u pull t)
normalized_plain u t h = let kept : state_out pull t ≡ pull = state_kept pull t h in rw kept refl

-- from a tree without Strict there is no Strict
pub normalized_no_strict : (u : Bool) (t : Tree) → ¬ HasStrict t → ¬ HasStrict (normalized u t)
normalized_no_strict u t h x = no_strict u pull t h ((outer_strict (normal_form u pull t)).0 (subst HasStrict (normalized_plain u t h) x))

-- hidden is Skip

usage_skip : (u : Bool) (t n : Tree) (d : List Part) → is_hidden u (custom_usage t d) ≡ true → (is_hidden u t ≡ true → n ≡ skip) → custom_usage_form u n d ≡ skip
usage_skip u t n d h4 h5 = grind arith

mutual
  normal_skip : (u : Bool) (s : State) (t : Tree) → ¬ HasStrict t → is_hidden u t ≡ true → normal_form u s t ≡ skip
  normal_skip u s (and_of ts) h e = let none : without_skips (plain_parts u s ts) ≡ no_trees = parts_skip u s ts h e in rw (and_parts_plain u s ts h, none) refl
  normal_skip u s (or_of ts) h e = let none : without_skips (plain_parts u s ts) ≡ no_trees = parts_skip u s ts h e in rw (or_parts_plain u s ts h, none) refl
  normal_skip u s (optional t) h e = ap optional_form (normal_skip u s t h e)
  normal_skip u s (required t) h e = ap required_form (normal_skip u s t h e)
  normal_skip u s (adjacent t) h e = normal_skip u s t h e
  normal_skip u s (item l) h e = cc
  normal_skip u s (many t) h e = ap many_form (normal_skip u s t h e)
  normal_skip u s (subsection t d) h e = normal_skip u s t h e
  normal_skip u s (suffix t d) h e = normal_skip u s t h e
  normal_skip u s skip h e = refl
  normal_skip u s (custom_usage t d) h e = usage_skip u t (normal_form u s t) d e (normal_skip u s t h)
  normal_skip u s (strict t) h e = absurd (h tt)

  parts_skip : (u : Bool) (s : State) (ts : Trees) → ¬ SomeHasStrict ts → are_hidden u ts ≡ true → without_skips (plain_parts u s ts) ≡ no_trees
  parts_skip u s no_trees h e = refl
  parts_skip u s (tree t ts) h e = grind (arith, parts_skip u s ts, conjuncts (is_hidden u t) (are_hidden u ts) e, normal_skip u s t)

-- without Strict the normal form is Skip exactly where the tree is hidden
pub normalized_skip : (u : Bool) (t : Tree) → ¬ HasStrict t → (normalized u t ≡ skip) ↔ (is_hidden u t ≡ true)
normalized_skip u t h = (
  (λ e. sym (normalized_shows u t).hidden ∙ ap (is_hidden u) e),
  (λ e. normalized_plain u t h ∙ ap outer_form (normal_skip u pull t h e)),
)
