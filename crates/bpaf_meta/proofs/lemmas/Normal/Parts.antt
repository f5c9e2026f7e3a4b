-- Lists of parts, as the loops of `normalized` make them.
use Rattle.std.proofs.Common.{◌≡◌, ◌<◌, List, [], ◌∷◌, ◌++◌, length, Bool, true, false, ◌&&◌, refl, ap, ◌∙◌, arith}
use Rattle.std.specs.Prelude.{◌||◌, if◌then◌else◌}
use Rattle.bpaf_meta.specs.Content.{Tree, and_of, or_of, required, Trees, no_trees, tree}
use Rattle.bpaf_meta.specs.View.{tree_of, trees_of}
use Rattle.bpaf_meta.specs.declared.meta.Meta.{Meta}
use Rattle.bpaf_meta.specs.declared.meta.form.Form.{Form}
use Rattle.bpaf_meta.specs.Meta.Normal.{without_skips, and_form, or_form, is_command_tree, without_commands, with_first_command}
use Rattle.bpaf_meta.specs.Meta.Alternatives.{trees_then, choice_form}
use Rattle.bpaf_meta.specs.Meta.Steps.Forms.{form_of, forms_of}
use Rattle.bpaf_meta.specs.Meta.Steps.Passes.{is_skip_tree, unless_skip, after_commands, sees_command}

-- what holds of each part holds of those that remain
module _ (P : Tree → Type 0) (Q : Trees → Type 0) (part : (t : Tree) (ts : Trees) → Q (tree t ts) → P t × Q ts) (join : (t : Tree) (ts : Trees) → P t × Q ts → Q (tree t ts)) where
  one_of : (b : Bool) (ts vs : Trees) → Q ts → Q vs → Q (if b then ts else vs)
  one_of b ts vs h3 h4 = grind arith

  without_each : (ts : Trees) → Q ts → Q (without_commands ts)
  without_each no_trees h = h
  without_each (tree t ts) h = grind (arith, without_each ts, one_of)

  pub first_each : (ts : Trees) → Q ts → Q (with_first_command ts)
  first_each no_trees h = h
  first_each (tree t ts) h = grind (arith, first_each ts, one_of, without_each)

pub trees_then_none : (ts : Trees) → trees_then ts no_trees ≡ ts
trees_then_none no_trees = refl
trees_then_none (tree t ts) = ap (tree t) (trees_then_none ts)

pub trees_then_then : (ts us vs : Trees) → trees_then (trees_then ts us) vs ≡ trees_then ts (trees_then us vs)
trees_then_then no_trees us vs = refl
trees_then_then (tree t ts) us vs = ap (tree t) (trees_then_then ts us vs)

pub forms_of_push : {A : Type 0} (fs : List (Form A)) (f : Form A) → forms_of (fs ++ (f ∷ [])) ≡ trees_then (forms_of fs) (tree (form_of f) no_trees)
forms_of_push [] f = refl
forms_of_push (g ∷ fs) f = ap (tree (form_of g)) (forms_of_push fs f)

pub trees_of_append : {A : Type 0} (ms ns : List (Meta A)) → trees_of (ms ++ ns) ≡ trees_then (trees_of ms) (trees_of ns)
trees_of_append [] ns = refl
trees_of_append (m ∷ ms) ns = ap (tree (tree_of m)) (trees_of_append ms ns)

-- `keep`
pub with_shown_skip : (ts : Trees) (t : Tree) → is_skip_tree t ≡ true → trees_then ts (unless_skip t) ≡ ts
with_shown_skip ts t e = rw e (trees_then_none ts)

pub with_shown_other : (ts : Trees) (t : Tree) → is_skip_tree t ≡ false → trees_then ts (unless_skip t) ≡ trees_then ts (tree t no_trees)
with_shown_other ts t e = rw e refl

kept_by : (seen b : Bool) (t : Tree) → is_command_tree t ≡ b → (b && seen) ≡ false → after_commands seen (tree t no_trees) ≡ tree t no_trees
kept_by seen b t h3 h4 = grind arith

pub after_none : (seen : Bool) → after_commands seen no_trees ≡ no_trees
after_none seen = grind arith

-- `keep_alternative`
pub after_repeated : (seen : Bool) (t : Tree) → (is_command_tree t && seen) ≡ true → after_commands seen (unless_skip t) ≡ no_trees
after_repeated seen t h2 = grind (arith, after_none)

pub after_kept : (seen : Bool) (t : Tree) → (is_command_tree t && seen) ≡ false → after_commands seen (unless_skip t) ≡ unless_skip t
after_kept seen t h2 = grind (arith, after_none, kept_by)

pub and_turn : (ts : Trees) (t : Tree) (us : Trees) → trees_then (trees_then ts (unless_skip t)) (without_skips us) ≡ trees_then ts (without_skips (tree t us))
and_turn ts t us = trees_then_then ts (unless_skip t) (without_skips us) ∙ ap (trees_then ts) (grind arith)

-- a turn of the loop over an Or
by_command : (seen b : Bool) (t : Tree) (us : Trees) → is_command_tree t ≡ b → trees_then (after_commands seen (tree t no_trees)) (after_commands (seen || b) us) ≡ after_commands seen (tree t us)
by_command seen b t us h4 = grind arith

pub or_turn : (seen : Bool) (ts : Trees) (t : Tree) (us : Trees) → trees_then (trees_then ts (after_commands seen (unless_skip t))) (after_commands (sees_command seen t) (without_skips us)) ≡ trees_then ts (after_commands seen (without_skips (tree t us)))
or_turn seen ts t us = trees_then_then ts (after_commands seen (unless_skip t)) (after_commands (sees_command seen t) (without_skips us)) ∙ ap (trees_then ts) (grind (arith, by_command))

-- a list of several
pub and_several : {A : Type 0} (fs : List (Form A)) → 1 < length fs → and_form (forms_of fs) ≡ and_of (forms_of fs)
and_several (f ∷ (g ∷ fs)) h = refl
and_several fs h = absurd (omega arith)

pub or_several : {A : Type 0} (fs : List (Form A)) → 1 < length fs → or_form (forms_of fs) ≡ required (or_of (forms_of fs))
or_several (f ∷ (g ∷ fs)) h = refl
or_several fs h = absurd (omega arith)

pub choice_several : {A : Type 0} (ms : List (Meta A)) → 1 < length ms → choice_form (trees_of ms) ≡ or_of (trees_of ms)
choice_several (m ∷ (n ∷ ms)) h = refl
choice_several ms h = absurd (omega arith)

pub ruleset parts_lemmas = (trees_then_none, forms_of_push, with_shown_skip, with_shown_other, after_repeated, after_kept)
