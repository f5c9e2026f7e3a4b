-- What the calls on the parts of a description leave.
use Rattle.std.specs.Prelude.{ℕ, List, [], ◌∷◌, ◌++◌, true, false, Some, None}
use Rattle.description.specs.declared.hints.ValueHint.TheVariants.{File}
use Rattle.description.specs.Content.{NameSaid, SpellingSaid, named, syntax, OptSaid, ChoiceSaid, PositionalSaid, TopicSaid, LevelSaid, level, GroupsSaid, no_groups, groups, GroupSaid, group, CommandsSaid, no_commands, commands, CommandSaid, command}

-- an option of which nothing is said except how it is written
abbrev pub spelled_option : SpellingSaid → OptSaid
spelled_option spelling = record { spelling = spelling; value = None; default = None; values = None; hint = File; help = None; env = None; required = false; repeated = false; hidden = false }

-- a flag of which nothing is said except the name
abbrev pub plain_option : NameSaid → OptSaid
plain_option name = spelled_option (named name)

abbrev pub syntax_option : (text : List ℕ) → OptSaid
syntax_option text = spelled_option (syntax text)

-- after the groups of a level
abbrev pub groups_then : GroupsSaid → GroupSaid → GroupsSaid
groups_then no_groups h = groups h no_groups
groups_then (groups g gs) h = groups g (groups_then gs h)

abbrev pub commands_then : CommandsSaid → CommandSaid → CommandsSaid
commands_then no_commands d = commands d no_commands
commands_then (commands c cs) d = commands c (commands_then cs d)

abbrev pub empty_level : LevelSaid
empty_level = level (record { about = None; header = None; footer = None; usage = None; topics = [] }) true [] [] no_groups [] no_commands

abbrev pub with_about : LevelSaid → List ℕ → LevelSaid
with_about (level t r os cs gs ps ms) text = level (record t { about = Some text }) r os cs gs ps ms

abbrev pub with_header : LevelSaid → List ℕ → LevelSaid
with_header (level t r os cs gs ps ms) text = level (record t { header = Some text }) r os cs gs ps ms

abbrev pub with_footer : LevelSaid → List ℕ → LevelSaid
with_footer (level t r os cs gs ps ms) text = level (record t { footer = Some text }) r os cs gs ps ms

abbrev pub with_usage : LevelSaid → List ℕ → LevelSaid
with_usage (level t r os cs gs ps ms) text = level (record t { usage = Some text }) r os cs gs ps ms

abbrev pub with_commands_optional : LevelSaid → LevelSaid
with_commands_optional (level t r os cs gs ps ms) = level t false os cs gs ps ms

abbrev pub with_option : LevelSaid → OptSaid → LevelSaid
with_option (level t r os cs gs ps ms) o = level t r (os ++ o ∷ []) cs gs ps ms

abbrev pub with_choice : LevelSaid → ChoiceSaid → LevelSaid
with_choice (level t r os cs gs ps ms) c = level t r os (cs ++ c ∷ []) gs ps ms

abbrev pub with_group : LevelSaid → GroupSaid → LevelSaid
with_group (level t r os cs gs ps ms) g = level t r os cs (groups_then gs g) ps ms

abbrev pub with_positional : LevelSaid → PositionalSaid → LevelSaid
with_positional (level t r os cs gs ps ms) p = level t r os cs gs (ps ++ p ∷ []) ms

abbrev pub with_command : LevelSaid → CommandSaid → LevelSaid
with_command (level t r os cs gs ps ms) m = level t r os cs gs ps (commands_then ms m)

abbrev pub with_topic : LevelSaid → TopicSaid → LevelSaid
with_topic (level t r os cs gs ps ms) topic = level (record t { topics = t.topics ++ topic ∷ [] }) r os cs gs ps ms

abbrev pub empty_group : (title : List ℕ) → GroupSaid
empty_group title = group title [] [] [] no_commands

abbrev pub group_with_option : GroupSaid → OptSaid → GroupSaid
group_with_option (group t os cs ps ms) o = group t (os ++ o ∷ []) cs ps ms

abbrev pub group_with_choice : GroupSaid → ChoiceSaid → GroupSaid
group_with_choice (group t os cs ps ms) c = group t os (cs ++ c ∷ []) ps ms

abbrev pub group_with_positional : GroupSaid → PositionalSaid → GroupSaid
group_with_positional (group t os cs ps ms) p = group t os cs (ps ++ p ∷ []) ms

abbrev pub group_with_command : GroupSaid → CommandSaid → GroupSaid
group_with_command (group t os cs ps ms) m = group t os cs ps (commands_then ms m)

-- a command of which nothing is said except the name and the level
abbrev pub plain_command : (name : List ℕ) → LevelSaid → CommandSaid
plain_command name l = command (record { name = name; initial = None; aliases = []; hidden = false }) None l

abbrev pub with_initial : CommandSaid → ℕ → CommandSaid
with_initial (command names help l) c = command (record names { initial = Some c }) help l

abbrev pub with_command_help : CommandSaid → List ℕ → CommandSaid
with_command_help (command names help l) text = command names (Some text) l

-- another name, after those that it has
abbrev pub with_alias : CommandSaid → List ℕ → CommandSaid
with_alias (command names help l) name = command (record names { aliases = names.aliases ++ name ∷ [] }) help l

abbrev pub hidden_command : CommandSaid → CommandSaid
hidden_command (command names help l) = command (record names { hidden = true }) help l
