-- Without Strict the normal form is its own normal form.
use Rattle.std.proofs.Common.{◌≡◌, Bool, inl, inr, refl, sym, ap, ◌∙◌, subst, arith}
use Rattle.std.specs.Prelude.{if◌then◌else◌, ⊤}
use Rattle.bpaf_meta.specs.Content.{Tree, and_of, or_of, optional, required, adjacent, item, many, subsection, suffix, skip, custom_usage, strict, Trees, no_trees, tree}
use Rattle.bpaf_meta.specs.Meta.Normal.{State, pull, without_skips, and_form, or_form, is_command_tree, without_commands, with_first_command, optional_many_form, optional_form, required_form, normal_form, and_parts, or_parts, outer_form, normalized}
use Rattle.bpaf_meta.specs.Meta.Shape.{HasStrict, SomeHasStrict}
use Rattle.bpaf_meta.proofs.lemmas.Normal.Parts.{first_each}
use Rattle.bpaf_meta.proofs.lemmas.Normal.Plain.{plain_parts, and_parts_plain, or_parts_plain, no_strict, normalized_plain, normalized_no_strict}

-- its normal form is the tree itself
abbrev Stays : Bool → State → Tree → Type 0
Stays u s t = normal_form u s t ≡ t

abbrev IsShown : Tree → Type 0
IsShown skip = ⊥
IsShown t = ⊤

-- each part stays, is not Skip and has no Strict
abbrev EachStays : Bool → State → Trees → Type 0
EachStays u s no_trees = ⊤
EachStays u s (tree t ts) = (Stays u s t × IsShown t × (¬ HasStrict t)) × EachStays u s ts

kept_shown : (u : Bool) (s : State) (ts : Trees) → EachStays u s ts → without_skips ts ≡ ts
kept_shown u s no_trees h = refl
kept_shown u s (tree skip ts) h = absurd h.0.1
kept_shown u s (tree t ts) h = ap (λ vs. tree t vs) (kept_shown u s ts h.1)

kept_plain : (u : Bool) (s : State) (ts : Trees) → EachStays u s ts → plain_parts u s ts ≡ ts
kept_plain u s no_trees h = refl
kept_plain u s (tree t ts) h = rw (h.0.0, kept_plain u s ts h.1) refl

kept_no_strict : (u : Bool) (s : State) (ts : Trees) → EachStays u s ts → ¬ SomeHasStrict ts
kept_no_strict u s no_trees h x = x
kept_no_strict u s (tree t ts) h (inl x) = h.0.2 x
kept_no_strict u s (tree t ts) h (inr x) = kept_no_strict u s ts h.1 x

-- commands left out stay out

first_stays : (u : Bool) (s : State) (ts : Trees) → EachStays u s ts → EachStays u s (with_first_command ts)
first_stays u s = first_each (λ t. Stays u s t × IsShown t × (¬ HasStrict t)) (EachStays u s) (λ t ts h. h) (λ t ts h. h)

without_step : (t : Tree) (ts : Trees) (b : Bool) → is_command_tree t ≡ b → without_commands (without_commands ts) ≡ without_commands ts → without_commands (if b then without_commands ts else tree t (without_commands ts)) ≡ (if b then without_commands ts else tree t (without_commands ts))
without_step t ts b h3 h4 = grind arith

without_twice : (ts : Trees) → without_commands (without_commands ts) ≡ without_commands ts
without_twice no_trees = refl
without_twice (tree t ts) = without_step t ts (is_command_tree t) refl (without_twice ts)

first_step : (t : Tree) (ts : Trees) (b : Bool) → is_command_tree t ≡ b → with_first_command (with_first_command ts) ≡ with_first_command ts → with_first_command (tree t (if b then without_commands ts else with_first_command ts)) ≡ tree t (if b then without_commands ts else with_first_command ts)
first_step t ts b h3 h4 = grind (arith, without_twice)

first_twice : (ts : Trees) → with_first_command (with_first_command ts) ≡ with_first_command ts
first_twice no_trees = refl
first_twice (tree t ts) = first_step t ts (is_command_tree t) refl (first_twice ts)

-- the forms stay

and_form_stays : (u : Bool) (s : State) (ts : Trees) → EachStays u s ts → Stays u s (and_form ts)
and_form_stays u s no_trees h = refl
and_form_stays u s (tree t no_trees) h = h.0.0
and_form_stays u s (tree t (tree v ts)) h =
    let vs : Trees = tree t (tree v ts) in
    let parts : and_parts u s vs ≡ vs = and_parts_plain u s vs (kept_no_strict u s vs h) ∙ kept_plain u s vs h in
    let kept : without_skips (and_parts u s vs) ≡ vs = ap without_skips parts ∙ kept_shown u s vs h in
    ap and_form kept

or_form_stays : (u : Bool) (s : State) (ts : Trees) → EachStays u s ts → with_first_command ts ≡ ts → Stays u s (or_form ts)
or_form_stays u s no_trees h e = refl
or_form_stays u s (tree t no_trees) h e = h.0.0
or_form_stays u s (tree t (tree v ts)) h e =
    let vs : Trees = tree t (tree v ts) in
    let parts : or_parts u s s vs ≡ vs = or_parts_plain u s vs (kept_no_strict u s vs h) ∙ kept_plain u s vs h in
    let kept : with_first_command (without_skips (or_parts u s s vs)) ≡ vs = ap (λ ws. with_first_command (without_skips ws)) parts ∙ ap with_first_command (kept_shown u s vs h) ∙ e in
    ap (λ ws. required_form (or_form ws)) kept

optional-required_form : (t : Tree) → optional_form (required_form t) ≡ optional_form t
optional-required_form t = grind arith

inner_of_many : Tree → Tree
inner_of_many (many t) = t
inner_of_many t = skip

optional_many_stays : (u : Bool) (s : State) (t : Tree) → Stays u s (many t) → Stays u s (optional_many_form t)
optional_many_stays u s t h3 = grind (arith, inner_of_many, optional-required_form)

part_stays : (u : Bool) (s : State) (n : Tree) (ns : Trees) → Stays u s n → (¬ HasStrict n) → EachStays u s (without_skips ns) → EachStays u s (without_skips (tree n ns))
part_stays u s n ns h4 h5 h6 = grind arith

mutual
  normal_stays : (u : Bool) (s : State) (t : Tree) → (¬ HasStrict t) → Stays u s (normal_form u s t)
  normal_stays u s (and_of ts) h =
      let vs : Trees = plain_parts u s ts in
      let is : normal_form u s (and_of ts) ≡ and_form (without_skips vs) = ap (λ ws. and_form (without_skips ws)) (and_parts_plain u s ts h) in
      subst (Stays u s) (sym is) (and_form_stays u s (without_skips vs) (parts_stay u s ts h))
  normal_stays u s (or_of ts) h =
      let vs : Trees = plain_parts u s ts in
      let is : normal_form u s (or_of ts) ≡ or_form (with_first_command (without_skips vs)) = ap (λ ws. or_form (with_first_command (without_skips ws))) (or_parts_plain u s ts h) in
      subst (Stays u s) (sym is) (or_form_stays u s (with_first_command (without_skips vs)) (first_stays u s (without_skips vs) (parts_stay u s ts h)) (first_twice (without_skips vs)))
  normal_stays u s (optional t) h = grind (arith, optional-required_form, optional_many_stays, normal_stays u s t h)
  normal_stays u s (required t) h = grind (arith, normal_stays u s t h)
  normal_stays u s (adjacent t) h = normal_stays u s t h
  normal_stays u s (item l) h = ap item (grind arith)
  normal_stays u s (many t) h = grind (arith, normal_stays u s t h)
  normal_stays u s (subsection t d) h = normal_stays u s t h
  normal_stays u s (suffix t d) h = normal_stays u s t h
  normal_stays u s skip h = refl
  normal_stays u s (custom_usage t d) h = grind (arith, normal_stays u s t h)
  normal_stays u s (strict t) h = absurd (h tt)

  parts_stay : (u : Bool) (s : State) (ts : Trees) → (¬ SomeHasStrict ts) → EachStays u s (without_skips (plain_parts u s ts))
  parts_stay u s no_trees h = tt
  parts_stay u s (tree t ts) h = part_stays u s (normal_form u s t) (plain_parts u s ts) (normal_stays u s t (λ x. h (inl x))) (no_strict u s t (λ x. h (inl x))) (parts_stay u s ts (λ x. h (inr x)))

-- without Strict, normalising twice is normalising once
pub normalized_twice : (u : Bool) (t : Tree) → (¬ HasStrict t) → normalized u (normalized u t) ≡ normalized u t
normalized_twice u t h =
    let once : normalized u t ≡ outer_form (normal_form u pull t) = normalized_plain u t h in
    let again : normalized u (normalized u t) ≡ outer_form (normal_form u pull (normalized u t)) = normalized_plain u (normalized u t) (normalized_no_strict u t h) in
    again ∙ ap (λ n. outer_form (normal_form u pull n)) once ∙ (grind (arith, normal_stays u pull t h)) ∙ sym once
