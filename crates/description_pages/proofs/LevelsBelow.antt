-- The levels below one, put one after another.
use Rattle.std.specs.Prelude.{false, not, flat_map, if◌then◌else◌}
use Rattle.std.proofs.Common.{◌≡◌, List, [], ◌∷◌, ◌++◌, map, refl, sym, ap, ◌∙◌, append_assoc, arith}
use Rattle.std.proofs.lemmas.Grind.{flat_map-append}
use Rattle.std.proofs.lemmas.List.{map-append}
use Rattle.description.specs.Content.{LevelSaid, level, GroupsSaid, no_groups, groups, group, CommandsSaid, no_commands, commands, CommandSaid, command}
use Rattle.description.specs.View.{command_said, level_said}
use Rattle.description.specs.declared.levels.Command.{Command, out-Command}
use Rattle.description.proofs.Views.{open-Command}
use Rattle.description_pages.specs.Levels.{SubjectSaid}
use Rattle.description_pages.specs.Subjects.{EachCommandIsThere, all_from, below, below_commands, below_groups, below_level, commands_on, from_command, grouped, is_shown, listed, shown_from}

-- ---- what is below a level

command_there : (s : SubjectSaid) (c : CommandSaid) → shown_from s c ≡ from_command s c
command_there s (command called help l) = refl

listed_there : (s : SubjectSaid) (cs : CommandsSaid) → below_commands s cs ≡ flat_map (shown_from s) (listed cs)
listed_there s no_commands = refl
listed_there s (commands c cs) = grind (arith, listed_there s cs, command_there)

grouped_there : (s : SubjectSaid) (gs : GroupsSaid) → below_groups s gs ≡ flat_map (shown_from s) (grouped gs)
grouped_there s no_groups = refl
grouped_there s (groups (group title options choices values cs) gs) = grind (arith, grouped_there s gs, listed_there, flat_map-append)

level_there : (s : SubjectSaid) (l : LevelSaid) → below_level s l ≡ flat_map (shown_from s) (commands_on l)
level_there s (level texts required options choices gs values cs) = grind (arith, grouped_there, listed_there, flat_map-append)

pub each_command_is_there : EachCommandIsThere
each_command_is_there s = level_there s s.level

-- ---- of a command

shown_said : {A : Type 0} (c : Command A) → is_shown (command_said c) ≡ not (out-Command A c).hidden
shown_said c = ap is_shown (open-Command c)

shown_there : {A : Type 0} (s : SubjectSaid) (c : Command A) → (out-Command A c).hidden ≡ false → from_command s (command_said c) ≡ all_from (below s (command_said c))
shown_there s c h = sym (command_there s (command_said c)) ∙ ap (λ b. if b then all_from (below s (command_said c)) else []) (shown_said c ∙ ap not h)

level_below : {A : Type 0} (s : SubjectSaid) (c : Command A) → (below s (command_said c)).level ≡ level_said (out-Command A c).level
level_below s c = ap (λ d. (below s d).level) (open-Command c)

pub command_put : {A X : Type 0} (see : X → SubjectSaid) (s : SubjectSaid) (x : X) (c : Command A) (xs ys : List X) (after : List SubjectSaid) → (out-Command A c).hidden ≡ false → see x ≡ below s (command_said c) → ys ≡ xs ++ x ∷ []
    → after ≡ map see ys ++ below_level (see x) (level_said (out-Command A c).level) → after ≡ map see xs ++ from_command s (command_said c)
command_put {A} see s x c xs ys after h e pushed put = grind (arith, append_assoc, map-append, shown_there s c h, level_below s c)
