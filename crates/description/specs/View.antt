-- What a description and its parts say.
use Rattle.std.specs.Prelude.{ℕ, List, [], ◌∷◌, map, Option, option_map}
use Rattle.std.specs.Borrow.{Bor}
use Rattle.description.specs.Content.{DescriptionSaid, NameSaid, short, long, both, SpellingSaid, named, syntax, OptSaid, ChoiceSaid, PositionalSaid, TopicSaid, LevelSaid, level, GroupsSaid, no_groups, groups, GroupSaid, group, CommandsSaid, no_commands, commands, CommandSaid, command}
use Rattle.description.specs.Words.{words_said}
use Rattle.description.specs.declared.descriptions.Description.{Description}
use Rattle.description.specs.declared.options.Name.{Name}
use Rattle.description.specs.declared.options.Name.TheVariants.{Short, Long, Both}
use Rattle.description.specs.declared.options.Opt.{Opt}
use Rattle.description.specs.declared.options.Spelling.{Spelling}
use Rattle.description.specs.declared.options.Spelling.TheVariants.{Names, Syntax}
use Rattle.description.specs.declared.options.Choice.{Choice}
use Rattle.description.specs.declared.positionals.Positional.{Positional}
use Rattle.description.specs.declared.topics.Topic.{Topic}
use Rattle.description.specs.declared.levels.Level.{Level, Level-F, fold-Level}
use Rattle.description.specs.declared.levels.Group.{Group, Group-F, fold-Group}
use Rattle.description.specs.declared.levels.Command.{Command, Command-F, fold-Command}

-- an optional text
abbrev pub text_of : Option (Bor (List ℕ)) → Option (List ℕ)
text_of = option_map (λ text. text.now)

abbrev pub name_said : Name → NameSaid
name_said (Short c) = short c
name_said (Long text) = long text.now
name_said (Both c text) = both c text.now

abbrev pub spelling_said : Spelling → SpellingSaid
spelling_said (Names name) = named (name_said name)
spelling_said (Syntax text) = syntax text.now

abbrev pub opt_said : Opt → OptSaid
opt_said o = record { spelling = spelling_said o.spelling; value = text_of o.value; default = text_of o.default; values = text_of o.values; hint = o.hint; help = text_of o.help; env = text_of o.env; required = o.required; repeated = o.repeated; hidden = o.hidden }

abbrev pub choice_said : {A : Type 0} → Choice A → ChoiceSaid
choice_said c = record { options = map opt_said c.options.items; required = c.required }

abbrev pub positional_said : Positional → PositionalSaid
positional_said p = record { value = p.value.now; default = text_of p.default; values = text_of p.values; hint = p.hint; help = text_of p.help; required = p.required; repeated = p.repeated; strict = p.strict; hidden = p.hidden }

abbrev pub topic_said : Topic → TopicSaid
topic_said t = record { title = t.title.now; text = t.text.now }

abbrev pub groups_in : List GroupSaid → GroupsSaid
groups_in [] = no_groups
groups_in (g ∷ gs) = groups g (groups_in gs)

abbrev pub commands_in : List CommandSaid → CommandsSaid
commands_in [] = no_commands
commands_in (c ∷ cs) = commands c (commands_in cs)

-- one level, with what is inside already seen
abbrev pub level_step : {A : Type 0} → Level-F A CommandSaid GroupSaid LevelSaid → LevelSaid
level_step l = level (record { about = text_of l.about; header = text_of l.header; footer = text_of l.footer; usage = text_of l.usage; topics = map topic_said l.topics.items }) l.command_required (map opt_said l.options.items) (map choice_said l.choices.items) (groups_in l.groups.items) (map positional_said l.positionals.items) (commands_in l.commands.items)

abbrev pub group_step : {A : Type 0} → Group-F A CommandSaid GroupSaid LevelSaid → GroupSaid
group_step g = group g.title.now (map opt_said g.options.items) (map choice_said g.choices.items) (map positional_said g.positionals.items) (commands_in g.commands.items)

abbrev pub command_step : {A : Type 0} → Command-F A CommandSaid GroupSaid LevelSaid → CommandSaid
command_step c = command (record { name = c.name.now; initial = c.short; aliases = map (λ name. name.now) c.aliases.items; hidden = c.hidden }) (text_of c.help) c.level

abbrev pub level_said : {A : Type 0} → Level A → LevelSaid
level_said {A} = fold-Level A CommandSaid GroupSaid LevelSaid command_step group_step level_step

abbrev pub group_said : {A : Type 0} → Group A → GroupSaid
group_said {A} = fold-Group A CommandSaid GroupSaid LevelSaid command_step group_step level_step

abbrev pub command_said : {A : Type 0} → Command A → CommandSaid
command_said {A} = fold-Command A CommandSaid GroupSaid LevelSaid command_step group_step level_step

abbrev pub groups_said : {A : Type 0} → List (Group A) → GroupsSaid
groups_said gs = groups_in (map group_said gs)

abbrev pub commands_said : {A : Type 0} → List (Command A) → CommandsSaid
commands_said cs = commands_in (map command_said cs)

abbrev pub description_said : {A : Type 0} → Description A → DescriptionSaid
description_said d = record { name = d.name.now; section = d.section.now; date = text_of d.date; vendor = text_of d.vendor; title = text_of d.title; language = d.language.now; words = words_said d.words; help_options = map opt_said d.help_options.items; level = level_said d.level }
