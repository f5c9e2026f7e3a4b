-- Whether a positional value or a command stands on a level or in one of its groups.
use Rattle.std.proofs.Common.{◌≡◌, ℕ, ◌+◌, ◌<◌, Bool, not, ◌||◌, ◌==◌, List, [], ◌∷◌, drop, get_or, length, map, refl, sym, ap, ◌∙◌}
use Rattle.std.proofs.Math.Dec.{eqb-suc-zero}
use Rattle.std.proofs.lemmas.List.{drop_more}
use Rattle.description.specs.Content.{groups}
use Rattle.description.specs.View.{commands_said, groups_said, level_said, positional_said}
use Rattle.description.specs.declared.levels.Command.{Command}
use Rattle.description.specs.declared.levels.Group.{Group, out-Group}
use Rattle.description.specs.declared.levels.Level.{Level, out-Level}
use Rattle.description.specs.declared.positionals.Positional.{Positional}
use Rattle.description.proofs.Views.{open-Group, open-Level}
use Rattle.completions.specs.Table.{groups_take_words, has_commands, has_places, level_takes_words, takes_words}

places_there : (ps : List Positional) → has_places (map positional_said ps) ≡ not (length ps == 0)
places_there [] = refl
places_there (p ∷ ps) = sym (ap not (eqb-suc-zero (length ps)))

commands_there : {A : Type 0} (cs : List (Command A)) → has_commands (commands_said cs) ≡ not (length cs == 0)
commands_there [] = refl
commands_there (c ∷ cs) = sym (ap not (eqb-suc-zero (length cs)))

pub words_there : {A : Type 0} (ps : List Positional) (cs : List (Command A)) → takes_words (map positional_said ps) (commands_said cs) ≡ (not (length ps == 0) || not (length cs == 0))
words_there ps cs = ap (λ b. b || has_commands (commands_said cs)) (places_there ps) ∙ ap (λ b. not (length ps == 0) || b) (commands_there cs)

-- ---- groups, one after another

module _ {A : Type 0} (items : List (Group A)) (i : ℕ) where
  abbrev words_in : List (Group A) → Bool
  words_in gs = groups_take_words (groups_said gs)

  abbrev words_of : List Positional → List (Command A) → Bool
  words_of ps cs = takes_words (map positional_said ps) (commands_said cs)

  first_there : (g : Group A) (gs : List (Group A)) → words_in (g ∷ gs) ≡ (words_of (out-Group A g).positionals.items (out-Group A g).commands.items || words_in gs)
  first_there g gs = ap (λ said. groups_take_words (groups said (groups_said gs))) (open-Group g)

  -- of those that are left: what this group says, or those after it
  pub rest_there : (x : Group A) (ps : List Positional) (cs : List (Command A)) (found : Bool) → i < length items → x ≡ get_or items i x → ps ≡ (out-Group A x).positionals.items → cs ≡ (out-Group A x).commands.items
      → found ≡ takes_words (map positional_said ps) (commands_said cs) → groups_take_words (groups_said (drop i items)) ≡ (found || groups_take_words (groups_said (drop (i + 1) items)))
  rest_there x ps cs found within is ip ic said =
      let rest = drop (i + 1) items in
      let known = said ∙ ap (λ qs. words_of qs cs) ip ∙ ap (words_of (out-Group A x).positionals.items) ic in
      ap words_in (drop_more items i x within ∙ ap (λ y. y ∷ rest) (sym is)) ∙ first_there x rest ∙ ap (λ b. b || words_in rest) (sym known)

-- ---- the level

pub level_words_there : {A : Type 0} (l : Level A)
    → level_takes_words (level_said l) ≡ (takes_words (map positional_said (out-Level A l).positionals.items) (commands_said (out-Level A l).commands.items) || groups_take_words (groups_said (out-Level A l).groups.items))
level_words_there l = ap level_takes_words (open-Level l)
