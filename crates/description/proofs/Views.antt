-- What one level of a record of levels says, in terms of what is inside, and what a call that pushes onto it leaves.
use Rattle.std.proofs.Common.{◌≡◌, List, [], ◌∷◌, ◌++◌, map, refl, sym, ap, ◌∙◌, rules, Vec, Result, Ok, Err, OnErr}
use Rattle.std.proofs.lemmas.List.{map-append}
use Rattle.description.specs.Content.{LevelSaid, level, GroupsSaid, groups, GroupSaid, group, CommandsSaid, commands, CommandSaid, command}
use Rattle.description.specs.View.{text_of, opt_said, choice_said, positional_said, topic_said, level_said, group_said, command_said, groups_in, commands_in, groups_said, commands_said}
use Rattle.description.specs.Calls.{groups_then, commands_then, with_group, with_command, group_with_command}
use Rattle.description.specs.declared.levels.Level.{Level, Level-F, out-Level, roll-Level, the_lemmas}
use Rattle.description.specs.declared.levels.Group.{Group, Group-F, out-Group, roll-Group}
use Rattle.description.specs.declared.levels.Command.{Command, Command-F, out-Command, roll-Command}

abbrev pub level_layer : {A : Type 0} → Level-F A (Command A) (Group A) (Level A) → LevelSaid
level_layer l = level (record { about = text_of l.about; header = text_of l.header; footer = text_of l.footer; usage = text_of l.usage; topics = map topic_said l.topics.items }) l.command_required (map opt_said l.options.items) (map choice_said l.choices.items) (groups_said l.groups.items) (map positional_said l.positionals.items) (commands_said l.commands.items)

abbrev pub group_layer : {A : Type 0} → Group-F A (Command A) (Group A) (Level A) → GroupSaid
group_layer g = group g.title.now (map opt_said g.options.items) (map choice_said g.choices.items) (map positional_said g.positionals.items) (commands_said g.commands.items)

abbrev pub command_layer : {A : Type 0} → Command-F A (Command A) (Group A) (Level A) → CommandSaid
command_layer c = command (record { name = c.name.now; initial = c.short; aliases = map (λ name. name.now) c.aliases.items; hidden = c.hidden }) (text_of c.help) (level_said c.level)

pub open-Level : {A : Type 0} (l : Level A) → level_said l ≡ level_layer (out-Level A l)
open-Level l = search (rules, the_lemmas)

pub open-Group : {A : Type 0} (g : Group A) → group_said g ≡ group_layer (out-Group A g)
open-Group g = search (rules, the_lemmas)

pub open-Command : {A : Type 0} (c : Command A) → command_said c ≡ command_layer (out-Command A c)
open-Command c = search (rules, the_lemmas)

pub made-Level : {A : Type 0} (l : Level-F A (Command A) (Group A) (Level A)) → level_said (roll-Level A l) ≡ level_layer l
made-Level l = search (rules, the_lemmas)

pub made-Group : {A : Type 0} (g : Group-F A (Command A) (Group A) (Level A)) → group_said (roll-Group A g) ≡ group_layer g
made-Group g = search (rules, the_lemmas)

pub made-Command : {A : Type 0} (c : Command-F A (Command A) (Group A) (Level A)) → command_said (roll-Command A c) ≡ command_layer c
made-Command c = search (rules, the_lemmas)

-- what a call that failed leaves
pub after_err : {T E : Type 0} (r : Result T E) (P : Type 0) → P → OnErr r P
after_err (Ok x) P p = tt
after_err (Err e) P p = p

groups_append : (gs : List GroupSaid) (g : GroupSaid) → groups_in (gs ++ g ∷ []) ≡ groups_then (groups_in gs) g
groups_append [] g = refl
groups_append (h ∷ gs) g = ap (groups h) (groups_append gs g)

commands_append : (cs : List CommandSaid) (c : CommandSaid) → commands_in (cs ++ c ∷ []) ≡ commands_then (commands_in cs) c
commands_append [] c = refl
commands_append (d ∷ cs) c = ap (commands d) (commands_append cs c)

groups_pushed : {A : Type 0} (gs hs : List (Group A)) (g : Group A) → hs ≡ gs ++ g ∷ [] → groups_said hs ≡ groups_then (groups_said gs) (group_said g)
groups_pushed gs hs g e = ap groups_said e ∙ ap groups_in (map-append group_said gs (g ∷ [])) ∙ groups_append (map group_said gs) (group_said g)

commands_pushed : {A : Type 0} (cs ds : List (Command A)) (c : Command A) → ds ≡ cs ++ c ∷ [] → commands_said ds ≡ commands_then (commands_said cs) (command_said c)
commands_pushed cs ds c e = ap commands_said e ∙ ap commands_in (map-append command_said cs (c ∷ [])) ∙ commands_append (map command_said cs) (command_said c)

-- other groups or commands in place of those there
abbrev with_groups : LevelSaid → GroupsSaid → LevelSaid
with_groups (level t r os cs gs ps ms) hs = level t r os cs hs ps ms

abbrev with_commands : LevelSaid → CommandsSaid → LevelSaid
with_commands (level t r os cs gs ps ms) ns = level t r os cs gs ps ns

abbrev group_with_commands : GroupSaid → CommandsSaid → GroupSaid
group_with_commands (group t os cs ps ms) ns = group t os cs ps ns

pub group_pushed : {A : Type 0} (l : Level A) (v : Vec (Group A) A) (g : Group A) → v.items ≡ (out-Level A l).groups.items ++ g ∷ [] → level_said (roll-Level A (record (out-Level A l) { groups = v })) ≡ with_group (level_said l) (group_said g)
group_pushed {A} l v g e = made-Level (record (out-Level A l) { groups = v }) ∙ ap (with_groups (level_layer (out-Level A l))) (groups_pushed (out-Level A l).groups.items v.items g e) ∙ sym (ap (λ s. with_group s (group_said g)) (open-Level l))

pub groups_kept : {A : Type 0} (l : Level A) (v : Vec (Group A) A) → v.items ≡ (out-Level A l).groups.items → level_said (roll-Level A (record (out-Level A l) { groups = v })) ≡ level_said l
groups_kept {A} l v e = made-Level (record (out-Level A l) { groups = v }) ∙ ap (λ gs. with_groups (level_layer (out-Level A l)) (groups_said gs)) e ∙ sym (open-Level l)

pub command_pushed : {A : Type 0} (l : Level A) (v : Vec (Command A) A) (m : Command A) → v.items ≡ (out-Level A l).commands.items ++ m ∷ [] → level_said (roll-Level A (record (out-Level A l) { commands = v })) ≡ with_command (level_said l) (command_said m)
command_pushed {A} l v m e = made-Level (record (out-Level A l) { commands = v }) ∙ ap (with_commands (level_layer (out-Level A l))) (commands_pushed (out-Level A l).commands.items v.items m e) ∙ sym (ap (λ s. with_command s (command_said m)) (open-Level l))

pub commands_kept : {A : Type 0} (l : Level A) (v : Vec (Command A) A) → v.items ≡ (out-Level A l).commands.items → level_said (roll-Level A (record (out-Level A l) { commands = v })) ≡ level_said l
commands_kept {A} l v e = made-Level (record (out-Level A l) { commands = v }) ∙ ap (λ ms. with_commands (level_layer (out-Level A l)) (commands_said ms)) e ∙ sym (open-Level l)

pub group_command_pushed : {A : Type 0} (g : Group A) (v : Vec (Command A) A) (m : Command A) → v.items ≡ (out-Group A g).commands.items ++ m ∷ [] → group_said (roll-Group A (record (out-Group A g) { commands = v })) ≡ group_with_command (group_said g) (command_said m)
group_command_pushed {A} g v m e = made-Group (record (out-Group A g) { commands = v }) ∙ ap (group_with_commands (group_layer (out-Group A g))) (commands_pushed (out-Group A g).commands.items v.items m e) ∙ sym (ap (λ s. group_with_command s (command_said m)) (open-Group g))

pub group_commands_kept : {A : Type 0} (g : Group A) (v : Vec (Command A) A) → v.items ≡ (out-Group A g).commands.items → group_said (roll-Group A (record (out-Group A g) { commands = v })) ≡ group_said g
group_commands_kept {A} g v e = made-Group (record (out-Group A g) { commands = v }) ∙ ap (λ ms. group_with_commands (group_layer (out-Group A g)) (commands_said ms)) e ∙ sym (open-Group g)
