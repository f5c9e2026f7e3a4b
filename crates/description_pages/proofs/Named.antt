-- The first command that a word names.
use Rattle.std.specs.Prelude.{true, false}
use Rattle.std.proofs.Common.{◌≡◌, ℕ, ◌+◌, ◌<◌, ◌≤◌, Bool, List, [], ◌∷◌, ◌++◌, length, drop, get_or, map, refl, ap, Some, None, arith}
use Rattle.std.proofs.lemmas.List.{drop_all, drop_more}
use Rattle.std.specs.List.{find}
use Rattle.std.specs.Option.{option_or}
use Rattle.std.proofs.lemmas.List.Folds.{find-append}
use Rattle.description.specs.View.{text_of, command_said, commands_in, groups_said, level_said}
use Rattle.description.specs.Content.{CommandSaid}
use Rattle.description.specs.declared.levels.Level.{Level, out-Level}
use Rattle.description.specs.declared.levels.Group.{Group, out-Group}
use Rattle.description.specs.declared.levels.Command.{Command, out-Command}
use Rattle.description.proofs.Views.{open-Level, open-Group, open-Command}
use Rattle.description_pages.specs.Levels.{SubjectSaid}
use Rattle.description_pages.specs.Subjects.{below, commands_on, grouped, listed}

-- ---- what the first that passes is, in a list that is looked at from a place on

module _ {X Y : Type 0} (said : X → Y) (test : Y → Bool) (xs : List X) (i : ℕ) where
  pub found : (x d : X) → x ≡ get_or xs i d → i < length xs → test (said x) ≡ true → find test (map said (drop i xs)) ≡ Some (said x)
  found x d at h passes = grind (arith, drop_more)

  pub passed : (x d : X) → x ≡ get_or xs i d → i < length xs → test (said x) ≡ false → find test (map said (drop i xs)) ≡ find test (map said (drop (i + 1) xs))
  passed x d at h fails = grind (arith, drop_more)

  pub none_left : length xs ≤ i → find test (map said (drop i xs)) ≡ None
  none_left h = ap (λ ys. find test (map said ys)) (drop_all i xs h)

-- ---- the commands of groups and levels

pub listed_all : (cs : List CommandSaid) → listed (commands_in cs) ≡ cs
listed_all [] = refl
listed_all (c ∷ cs) = ap (λ ds. c ∷ ds) (listed_all cs)

pub grouped_more : {A : Type 0} (g : Group A) (gs : List (Group A)) → grouped (groups_said (g ∷ gs)) ≡ map command_said (out-Group A g).commands.items ++ grouped (groups_said gs)
grouped_more {A} g gs = grind (arith, open-Group, listed_all)

module _ {A : Type 0} (test : CommandSaid → Bool) (gs : List (Group A)) (i : ℕ) (g d : Group A) (at : g ≡ get_or gs i d) (h : i < length gs) where
  pub in_group : find test (grouped (groups_said (drop i gs))) ≡ option_or (find test (map command_said (out-Group A g).commands.items)) (find test (grouped (groups_said (drop (i + 1) gs))))
  in_group = grind (arith, drop_more, grouped_more, find-append)

pub no_group_left : {A : Type 0} (test : CommandSaid → Bool) (gs : List (Group A)) (i : ℕ) → length gs ≤ i → find test (grouped (groups_said (drop i gs))) ≡ None
no_group_left test gs i h = ap (λ hs. find test (grouped (groups_said hs))) (drop_all i gs h)

pub on_level : {A : Type 0} (test : CommandSaid → Bool) (l : Level A) → find test (commands_on (level_said l)) ≡ option_or (find test (grouped (groups_said (out-Level A l).groups.items))) (find test (map command_said (out-Level A l).commands.items))
on_level {A} test l = grind (arith, open-Level, listed_all, find-append)

pub entered : {A : Type 0} (s : SubjectSaid) (c : Command A) (names : List (List ℕ)) → names ≡ s.names ++ (out-Command A c).name.now ∷ []
    → record { names = names; help = text_of (out-Command A c).help; help_options = s.help_options; level = level_said (out-Command A c).level } ≡ below s (command_said c)
entered {A} s c names e = grind (arith, open-Command)
