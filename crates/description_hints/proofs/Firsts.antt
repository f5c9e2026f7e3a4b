-- The first help of each name.
use Rattle.std.proofs.Common.{◌≡◌, ℕ, ◌+◌, ◌<◌, Bool, true, false, cond, List, [], ◌∷◌, ◌++◌, length, take, drop, get_or, map, Bor, Option, Some, None, refl, sym, ap, ◌∙◌, append_assoc}
use Rattle.std.specs.Prelude.{bytes_eq}
use Rattle.std.specs.BTreeMap.{BTreeMap, UpdatesBy, get_by}
use Rattle.std.specs.Cmp.Lexicographic.{bytes_decides, nat_list_eq_equiv, slice_cmp}
use Rattle.std.specs.Map.{update}
use Rattle.std.specs.Option.{option_map, option_or}
use Rattle.std.specs.Ordering.{nat_cmp}
use Rattle.std.proofs.lemmas.List.{drop_more, map-append, take_more}
use Rattle.std.proofs.lemmas.List.Folds.{find-append}
use Rattle.std.proofs.lemmas.Map.Text.{btree_map_updates_str}
use Rattle.description_hints.specs.Content.{HelpSaid, WarningSaid}
use Rattle.description_hints.specs.Hints.{beside, beside_those, first_called, is_called}
use Rattle.description_hints.specs.Steps.{first_in}
use Rattle.description_hints.specs.View.{help_said}
use Rattle.description_hints.specs.declared.helps.NamedHelp.{NamedHelp}

-- ---- one more among those before

or_none : {X : Type 0} (x : Option X) → option_or x None ≡ x
or_none None = refl
or_none (Some x) = refl

module _ (f : List ℕ → Option HelpSaid) (own : HelpSaid) where
  same_name : (name : List ℕ) → bytes_eq own.name name ≡ bytes_eq name own.name
  same_name name = nat_list_eq_equiv.symm own.name name

  -- where none had its name
  pub kept_as_first : (g : List ℕ → Option HelpSaid) → f own.name ≡ None → ((name : List ℕ) → g name ≡ update bytes_eq f own.name (Some own) name)
      → (name : List ℕ) → g name ≡ option_or (f name) (first_called name (own ∷ []))
  kept_as_first g none put name = put name ∙ by (bytes_eq own.name name) refl where
    by : (b : Bool) → bytes_eq own.name name ≡ b → cond b (Some own) (f name) ≡ option_or (f name) (cond (bytes_eq name own.name) (Some own) None)
    by true h =
        sym (ap (λ x. option_or x (cond (bytes_eq name own.name) (Some own) None)) (sym (ap f ((bytes_decides own.name name).0 h)) ∙ none)
        ∙ ap (λ b. cond b (Some own) None) (sym (same_name name) ∙ h))
    by false h = sym (ap (λ b. option_or (f name) (cond b (Some own) None)) (sym (same_name name) ∙ h) ∙ or_none (f name))

  -- where one had it
  pub kept_after : (first : HelpSaid) → f own.name ≡ Some first → (name : List ℕ) → f name ≡ option_or (f name) (first_called name (own ∷ []))
  kept_after first some name = by (bytes_eq name own.name) refl where
    by : (b : Bool) → bytes_eq name own.name ≡ b → f name ≡ option_or (f name) (cond b (Some own) None)
    by true h =
        let is : f name ≡ Some first = ap f ((bytes_decides name own.name).0 h) ∙ some in
        is ∙ sym (ap (λ x. option_or x (Some own)) is)
    by false h = sym (or_none (f name))

-- what a map has of a name once one more is put there
pub seen_after : (old new : BTreeMap (Bor (List ℕ)) NamedHelp) (word : List ℕ) (own : NamedHelp) → UpdatesBy (λ x y. slice_cmp nat_cmp x.now y.now) (λ k. slice_cmp nat_cmp word k.now) old new (Some own)
    → (name : List ℕ) → first_in new name ≡ update bytes_eq (first_in old) word (Some (help_said own)) name
seen_after old new word own put name = ap (option_map help_said) (btree_map_updates_str word old new (Some own) put name) ∙ by (bytes_eq word name) where
  by : (b : Bool) → option_map help_said (cond b (Some own) (get_by (λ k. slice_cmp nat_cmp name k.now) old)) ≡ cond b (Some (help_said own)) (first_in old name)
  by true = refl
  by false = refl

-- ---- one more of all

module _ (helps : List NamedHelp) (i : ℕ) (d : NamedHelp) (within : i < length helps) where
  abbrev own : HelpSaid
  own = help_said (get_or helps i d)

  abbrev before : List HelpSaid
  before = map help_said (take i helps)

  abbrev after : List HelpSaid
  after = map help_said (drop (i + 1) helps)

  front : map help_said (take (i + 1) helps) ≡ before ++ own ∷ []
  front = ap (map help_said) (take_more helps i d within) ∙ map-append help_said (take i helps) (get_or helps i d ∷ [])

  pub told_more : (s t whole : List WarningSaid) (first : Option HelpSaid) → s ++ beside_those before (map help_said (drop i helps)) ≡ whole → t ≡ s ++ beside first own → first ≡ first_called own.name before
      → t ++ beside_those (map help_said (take (i + 1) helps)) after ≡ whole
  told_more s t whole first so_far put is =
      ap (λ bs. t ++ beside_those bs after) front ∙ ap (λ ws. ws ++ beside_those (before ++ own ∷ []) after) (put ∙ ap (λ o. s ++ beside o own) is)
      ∙ append_assoc s (beside (first_called own.name before) own) (beside_those (before ++ own ∷ []) after)
      ∙ ap (λ hs. s ++ beside_those before (map help_said hs)) (sym (drop_more helps i d within)) ∙ so_far

  pub first_more : (m n : BTreeMap (Bor (List ℕ)) NamedHelp) → ((name : List ℕ) → first_in m name ≡ first_called name before) → ((name : List ℕ) → first_in n name ≡ option_or (first_in m name) (first_called name (own ∷ [])))
      → (name : List ℕ) → first_in n name ≡ first_called name (map help_said (take (i + 1) helps))
  first_more m n so_far kept name =
      kept name ∙ ap (λ o. option_or o (first_called name (own ∷ []))) (so_far name)
      ∙ sym (ap (first_called name) front ∙ find-append (is_called name) before (own ∷ []))
