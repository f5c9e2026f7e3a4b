-- The names of the pages above and below a level.
use Rattle.std.proofs.Common.{◌≡◌, ℕ, ◌-◌, ◌≤◌, List, [], ◌∷◌, ◌++◌, length, take, map, ap, ◌∙◌, sym, arith, append_assoc}
use Rattle.std.proofs.lemmas.Bool.{lt-ltb}
use Rattle.std.proofs.lemmas.List.{length-map, map-append, take-map}
use Rattle.description.specs.View.{commands_said, group_said, groups_said, level_said}
use Rattle.description.specs.declared.levels.Level.{Level, out-Level}
use Rattle.description.specs.declared.levels.Command.{Command}
use Rattle.description.specs.declared.levels.Group.{Group, out-Group}
use Rattle.description.proofs.Views.{open-Group, open-Level}
use Rattle.description_pages.specs.Levels.{commands_in, commands_of, grouped_below, lower_pages, page_above, pages_below}
use Rattle.description_pages.specs.Sections.{groups_of, page_name}

one_above : {X : Type 0} (see : X → List ℕ) (names : List X) → 2 ≤ length names → page_above (map see names) ≡ page_name (map see (take (length names - 1) names)) ∷ []
one_above see names many = grind (arith, lt-ltb, length-map, take-map)

pub above_put : {X Y : Type 0} (see : X → List ℕ) (named : Y → List ℕ) (names : List X) (old new : List Y) (page : Y) → 2 ≤ length names → named page ≡ page_name (map see (take (length names - 1) names)) → new ≡ old ++ page ∷ []
    → map named new ≡ map named old ++ page_above (map see names)
above_put see named names old new page many is e =
    ap (map named) e ∙ map-append named old (page ∷ []) ∙ ap (λ name. map named old ++ name ∷ []) is ∙ ap (λ more. map named old ++ more) (sym (one_above see names many))

pub group_below : {A : Type 0} (g : Group A) (names : List (List ℕ)) (ms : List (Command A)) → ms ≡ (out-Group A g).commands.items → pages_below names (commands_said ms) ≡ pages_below names (commands_in (group_said g))
group_below {A} g names ms is = ap (λ cs. pages_below names (commands_said cs)) is ∙ sym (ap (λ s. pages_below names (commands_in s)) (open-Group g))

pub level_below : {A : Type 0} (l : Level A) (names old s1 s2 : List (List ℕ)) (gs : List (Group A)) (ms : List (Command A)) → gs ≡ (out-Level A l).groups.items → ms ≡ (out-Level A l).commands.items
    → s1 ≡ old ++ grouped_below names (groups_said gs) → s2 ≡ s1 ++ pages_below names (commands_said ms) → s2 ≡ old ++ lower_pages names (level_said l)
level_below {A} l names old s1 s2 gs ms ig im h1 h2 =
    let below : groups_said gs ≡ groups_of (level_said l) = ap groups_said ig ∙ sym (ap groups_of (open-Level l)) in
    let own : commands_said ms ≡ commands_of (level_said l) = ap commands_said im ∙ sym (ap commands_of (open-Level l)) in
    h2 ∙ ap (λ s. s ++ pages_below names (commands_said ms)) h1
    ∙ append_assoc old (grouped_below names (groups_said gs)) (pages_below names (commands_said ms))
    ∙ ap (λ g. old ++ (grouped_below names g ++ pages_below names (commands_said ms))) below
    ∙ ap (λ m. old ++ (grouped_below names (groups_of (level_said l)) ++ pages_below names m)) own
