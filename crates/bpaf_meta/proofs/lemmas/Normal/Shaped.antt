-- The normal form has the usage shape.
use Rattle.std.proofs.Common.{Bool, arith}
use Rattle.bpaf_meta.specs.Content.{Tree, and_of, or_of, optional, required, adjacent, item, many, subsection, suffix, skip, custom_usage, strict, Trees, no_trees, tree}
use Rattle.bpaf_meta.specs.Meta.Normal.{State, pull, without_skips, and_form, with_first_command, strict_if_asked, state_after, state_out, normal_form, and_parts, or_parts, outer_form, normalized}
use Rattle.bpaf_meta.specs.Meta.Shape.{whole, guarded, among, HasShapeAt, EachHasShape, HasUsageShape}
use Rattle.bpaf_meta.proofs.lemmas.Normal.Parts.{first_each}

-- each part has the shape of what may stand in a Strict: a Skip may, a bare Or may not
abbrev EachIsForm : Bool → Trees → Type 0
EachIsForm u no_trees = Unit {0}
EachIsForm u (tree t ts) = HasShapeAt u guarded t × EachIsForm u ts

shown_shape : (u : Bool) (ts : Trees) → EachIsForm u ts → EachHasShape u (without_skips ts)
shown_shape u no_trees h = tt
shown_shape u (tree skip ts) h = shown_shape u ts h.1
shown_shape u (tree (or_of vs) ts) h = absurd h.0.0
shown_shape u (tree t ts) h = (h.0, shown_shape u ts h.1)

-- what may stand among others may stand in a Strict
among_guarded : (u : Bool) (t : Tree) → HasShapeAt u among t → HasShapeAt u guarded t
among_guarded u skip h = absurd h
among_guarded u (or_of ts) h = absurd h.0
among_guarded u t h = h

and_form_shape : (u : Bool) (ts : Trees) → EachHasShape u ts → HasShapeAt u guarded (and_form ts)
and_form_shape u no_trees h = tt
and_form_shape u (tree t no_trees) h = among_guarded u t h.0
and_form_shape u (tree t (tree v ts)) h = (tt, h)

first_shape : (u : Bool) (ts : Trees) → EachHasShape u ts → EachHasShape u (with_first_command ts)
first_shape u = first_each (HasShapeAt u among) (EachHasShape u) (λ t ts h. h) (λ t ts h. h)

part_shape : (u : Bool) (r g : State) (n : Tree) → HasShapeAt u guarded n → HasShapeAt u guarded (strict_if_asked r g n)
part_shape u r g n h4 = grind arith

mutual
  normal_shape : (u : Bool) (s : State) (t : Tree) → HasShapeAt u guarded (normal_form u s t)
  normal_shape u s (and_of ts) = and_form_shape u (without_skips (and_parts u s ts)) (shown_shape u (and_parts u s ts) (and_parts_shape u s ts))
  normal_shape u s (or_of ts) = grind (arith, among_guarded, first_shape u (without_skips (or_parts u s s ts)) (shown_shape u (or_parts u s s ts) (or_parts_shape u s s ts)))
  normal_shape u s (optional t) = grind (arith, normal_shape u s t)
  normal_shape u s (required t) = grind (arith, normal_shape u s t)
  normal_shape u s (adjacent t) = normal_shape u s t
  normal_shape u s (item l) = grind arith
  normal_shape u s (many t) = grind (arith, normal_shape u s t)
  normal_shape u s (subsection t d) = normal_shape u s t
  normal_shape u s (suffix t d) = normal_shape u s t
  normal_shape u s skip = tt
  normal_shape u s (custom_usage t d) = grind (arith, normal_shape u s t)
  normal_shape u s (strict t) = normal_shape u s t

  and_parts_shape : (u : Bool) (r : State) (ts : Trees) → EachIsForm u (and_parts u r ts)
  and_parts_shape u r no_trees = tt
  and_parts_shape u r (tree t ts) = (part_shape u r (state_out r t) (normal_form u r t) (normal_shape u r t), and_parts_shape u (state_after r (state_out r t)) ts)

  or_parts_shape : (u : Bool) (s f : State) (ts : Trees) → EachIsForm u (or_parts u s f ts)
  or_parts_shape u s f no_trees = tt
  or_parts_shape u s f (tree t ts) = (part_shape u f (state_out s t) (normal_form u s t) (normal_shape u s t), or_parts_shape u s (state_after f (state_out s t)) ts)

guarded_whole : (u : Bool) (t : Tree) → HasShapeAt u guarded t → HasShapeAt u whole t
guarded_whole u (or_of ts) h = absurd h.0
guarded_whole u t h = h

strict_shape : (u : Bool) (s : State) (t : Tree) → HasShapeAt u guarded t → HasShapeAt u guarded (strict_if_asked pull s t)
strict_shape u s t h3 = grind arith

-- the normal form has the usage shape
pub normalized_shape : (u : Bool) (t : Tree) → HasUsageShape u (normalized u t)
normalized_shape u t = guarded_whole u (normalized u t) (strict_shape u (state_out pull t) (outer_form (normal_form u pull t)) (grind (arith, normal_shape u pull t)))
