-- The lists of a level, of what is pushed one after another.
use Rattle.std.proofs.Common.{◌≡◌, ℕ, List, [], ◌++◌, map, append_assoc, ap, ◌∙◌, sym, arith}
use Rattle.description.specs.Content.{OptSaid}
use Rattle.description.specs.View.{choice_said, commands_said, group_said, groups_said, level_said, opt_said, positional_said}
use Rattle.description.specs.declared.options.Opt.{Opt}
use Rattle.description.specs.declared.options.Choice.{Choice}
use Rattle.description.specs.declared.positionals.Positional.{Positional}
use Rattle.description.specs.declared.levels.Level.{Level, out-Level}
use Rattle.description.specs.declared.levels.Command.{Command}
use Rattle.description.specs.declared.levels.Group.{Group, out-Group}
use Rattle.description.proofs.Views.{open-Group, open-Level}
use Rattle.description_pages.specs.Keys.{RowSaid, entries_once}
use Rattle.description_pages.specs.Sections.{SectionSaid, argument_section, choice_rows, command_rows, command_section, group_section, group_sections, groups_of, list_section, list_sections, option_rows, option_section, value_rows, without_colon}
use Rattle.description.specs.Words.{WordsSaid}
use Rattle.description_pages.specs.declared.levels.Depth.{Depth}
use Rattle.description_pages.specs.declared.sections.Detail.{Detail}

pub own_commands : {A : Type 0} (l : Level A) (fixed : WordsSaid) (detail : Detail) (depth : Depth) (names : List (List ℕ)) (e0 es : List RowSaid) (ms : List (Command A)) → ms ≡ (out-Level A l).commands.items
    → e0 ≡ [] → es ≡ e0 ++ command_rows fixed detail depth names (commands_said ms) → list_section fixed.commands (entries_once es) ≡ command_section fixed detail depth names (level_said l)
own_commands {A} l fixed detail depth names e0 es ms is none e = grind (arith, open-Level)

pub group_listed : {A : Type 0} (g : Group A) (fixed : WordsSaid) (detail : Detail) (depth : Depth) (names : List (List ℕ)) (title : List ℕ) (e0 e1 e2 e3 e4 : List RowSaid) (os : List Opt) (cs : List (Choice A)) (ps : List Positional) (ms : List (Command A))
    → os ≡ (out-Group A g).options.items → cs ≡ (out-Group A g).choices.items → ps ≡ (out-Group A g).positionals.items → ms ≡ (out-Group A g).commands.items
    → e0 ≡ [] → e1 ≡ e0 ++ option_rows fixed detail (map opt_said os) → e2 ≡ e1 ++ choice_rows fixed detail (map choice_said cs) → e3 ≡ e2 ++ value_rows fixed detail (map positional_said ps)
    → e4 ≡ e3 ++ command_rows fixed detail depth names (commands_said ms) → title ≡ without_colon (out-Group A g).title.now
    → list_section title (entries_once e4) ≡ group_section fixed detail depth names (group_said g)
group_listed {A} g fixed detail depth names title e0 e1 e2 e3 e4 os cs ps ms io ic ip im none h1 h2 h3 h4 t = grind (arith, open-Group, append_assoc)

pub level_listed : {A : Type 0} {S : Type 0} (l : Level A) (see : List S → List SectionSaid) (fixed : WordsSaid) (detail : Detail) (depth : Depth) (names : List (List ℕ)) (help : List OptSaid) (gs : List (Group A)) (s0 s1 s2 s3 s4 : List S)
    → gs ≡ (out-Level A l).groups.items → see s1 ≡ see s0 ++ argument_section fixed detail (level_said l) → see s2 ≡ see s1 ++ group_sections fixed detail depth names (groups_said gs)
    → see s3 ≡ see s2 ++ option_section fixed detail help (level_said l) → see s4 ≡ see s3 ++ command_section fixed detail depth names (level_said l)
    → see s4 ≡ see s0 ++ list_sections fixed detail depth names help (level_said l)
level_listed {A} l see fixed detail depth names help gs s0 s1 s2 s3 s4 is h1 h2 h3 h4 =
    let below : groups_said gs ≡ groups_of (level_said l) = ap groups_said is ∙ sym (ap groups_of (open-Level l)) in
    h4 ∙ ap (λ s. s ++ command_section fixed detail depth names (level_said l)) (h3 ∙ ap (λ s. s ++ option_section fixed detail help (level_said l)) (h2 ∙ ap (λ s. s ++ group_sections fixed detail depth names (groups_said gs)) h1 ∙ ap (λ g. (see s0 ++ argument_section fixed detail (level_said l)) ++ group_sections fixed detail depth names g) below))
    ∙ four (see s0) (argument_section fixed detail (level_said l)) (group_sections fixed detail depth names (groups_of (level_said l))) (option_section fixed detail help (level_said l)) (command_section fixed detail depth names (level_said l))
  where
    four : {X : Type 0} (a b c d e : List X) → (((a ++ b) ++ c) ++ d) ++ e ≡ a ++ (b ++ (c ++ (d ++ e)))
    four a b c d e = grind (arith, append_assoc)
