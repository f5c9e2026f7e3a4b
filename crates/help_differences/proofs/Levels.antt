-- The names of a group and of a level, one list after another.
use Rattle.std.proofs.Common.{◌≡◌, List, ◌++◌, ap, append_assoc, map, sym, ◌∙◌}
use Rattle.description.proofs.Views.{open-Group, open-Level}
use Rattle.description.specs.View.{choice_said, commands_said, group_said, groups_said, level_said, opt_said}
use Rattle.description.specs.declared.levels.Command.{Command}
use Rattle.description.specs.declared.levels.Group.{Group, out-Group}
use Rattle.description.specs.declared.levels.Level.{Level, out-Level}
use Rattle.description.specs.declared.options.Choice.{Choice}
use Rattle.description.specs.declared.options.Opt.{Opt}
use Rattle.help_differences.specs.Level.{names_of_choices, names_of_commands, names_of_group, names_of_groups, names_of_options, names_on_level}
use Rattle.help_differences.specs.Names.{Named}

three : (s0 s1 s2 s3 a b c : List Named) → s1 ≡ s0 ++ a → s2 ≡ s1 ++ b → s3 ≡ s2 ++ c → s3 ≡ s0 ++ ((a ++ b) ++ c)
three s0 s1 s2 s3 a b c h1 h2 h3 = h3 ∙ ap (λ s. s ++ c) (h2 ∙ ap (λ s. s ++ b) h1) ∙ simp append_assoc

pub group_put : {A : Type 0} (g : Group A) (os : List Opt) (cs : List (Choice A)) (ms : List (Command A)) (s0 s1 s2 s3 : List Named)
    → os ≡ (out-Group A g).options.items → cs ≡ (out-Group A g).choices.items → ms ≡ (out-Group A g).commands.items
    → s1 ≡ s0 ++ names_of_options (map opt_said os) → s2 ≡ s1 ++ names_of_choices (map choice_said cs) → s3 ≡ s2 ++ names_of_commands (commands_said ms) → s3 ≡ s0 ++ names_of_group (group_said g)
group_put {A} g os cs ms s0 s1 s2 s3 io ic im h1 h2 h3 =
    three s0 s1 s2 s3 _ _ _ (h1 ∙ ap (λ xs. s0 ++ names_of_options (map opt_said xs)) io) (h2 ∙ ap (λ xs. s1 ++ names_of_choices (map choice_said xs)) ic) (h3 ∙ ap (λ xs. s2 ++ names_of_commands (commands_said xs)) im)
    ∙ sym (ap (λ said. s0 ++ names_of_group said) (open-Group g))

four : (s0 s1 s2 s3 s4 a b c d : List Named) → s1 ≡ s0 ++ a → s2 ≡ s1 ++ b → s3 ≡ s2 ++ c → s4 ≡ s3 ++ d → s4 ≡ s0 ++ (((a ++ b) ++ c) ++ d)
four s0 s1 s2 s3 s4 a b c d h1 h2 h3 h4 = h4 ∙ ap (λ s. s ++ d) (three s0 s1 s2 s3 a b c h1 h2 h3) ∙ simp append_assoc

pub level_put : {A : Type 0} (l : Level A) (gs : List (Group A)) (os : List Opt) (cs : List (Choice A)) (ms : List (Command A)) (s0 s1 s2 s3 s4 : List Named)
    → gs ≡ (out-Level A l).groups.items → os ≡ (out-Level A l).options.items → cs ≡ (out-Level A l).choices.items → ms ≡ (out-Level A l).commands.items
    → s1 ≡ s0 ++ names_of_groups (groups_said gs) → s2 ≡ s1 ++ names_of_options (map opt_said os) → s3 ≡ s2 ++ names_of_choices (map choice_said cs) → s4 ≡ s3 ++ names_of_commands (commands_said ms)
    → s4 ≡ s0 ++ names_on_level (level_said l)
level_put {A} l gs os cs ms s0 s1 s2 s3 s4 ig io ic im h1 h2 h3 h4 =
    four s0 s1 s2 s3 s4 _ _ _ _ (h1 ∙ ap (λ xs. s0 ++ names_of_groups (groups_said xs)) ig) (h2 ∙ ap (λ xs. s1 ++ names_of_options (map opt_said xs)) io)
    (h3 ∙ ap (λ xs. s2 ++ names_of_choices (map choice_said xs)) ic) (h4 ∙ ap (λ xs. s3 ++ names_of_commands (commands_said xs)) im)
    ∙ sym (ap (λ said. s0 ++ names_on_level said) (open-Level l))
