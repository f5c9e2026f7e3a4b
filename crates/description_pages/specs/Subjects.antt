-- Which words lead from a level to one below it, and all levels below one.
use Rattle.std.specs.Prelude.{◌≡◌, ℕ, List, [], ◌∷◌, ◌++◌, flat_map, map, Bool, not, if◌then◌else◌, Option, None, Some, option_map, option_and_then, option_to_list, bytes_eq}
use Rattle.std.specs.List.{find, list_any}
use Rattle.std.specs.Char.{encode_utf8}
use Rattle.description.specs.Content.{OptSaid, LevelSaid, level, GroupsSaid, no_groups, groups, GroupSaid, group, CommandsSaid, no_commands, commands, CommandSaid, command}
use Rattle.description_pages.specs.Levels.{SubjectSaid, commands_in, commands_of}
use Rattle.description_pages.specs.Sections.{groups_of}

-- ---- which command a word names

abbrev pub listed : CommandsSaid → List CommandSaid
listed no_commands = []
listed (commands first others) = first ∷ listed others

abbrev pub grouped : GroupsSaid → List CommandSaid
grouped no_groups = []
grouped (groups first others) = listed (commands_in first) ++ grouped others

-- the commands of a level, those of its groups first
abbrev pub commands_on : LevelSaid → List CommandSaid
commands_on l = grouped (groups_of l) ++ listed (commands_of l)

-- the name of a command, its short name as a text, and its other names
abbrev pub names_of : CommandSaid → List (List ℕ)
names_of (command called help l) = called.name ∷ option_to_list (option_map encode_utf8 called.initial) ++ called.aliases

abbrev pub is_named : (word : List ℕ) → CommandSaid → Bool
is_named word c = list_any (bytes_eq word) (names_of c)

-- the first command of the level that the word is a name of
abbrev pub command_named : (word : List ℕ) → LevelSaid → Option CommandSaid
command_named word l = find (is_named word) (commands_on l)

-- ---- where words lead

-- a command of the level
abbrev pub below : SubjectSaid → CommandSaid → SubjectSaid
below s (command called help l) = record {
  names = s.names ++ called.name ∷ [];
  help = help;
  help_options = s.help_options;
  level = l;
}

-- down from command to command; nowhere, where a word names none
abbrev pub led_to : (words : List (List ℕ)) → SubjectSaid → Option SubjectSaid
led_to [] s = Some s
led_to (word ∷ words) s = option_and_then (λ c. led_to words (below s c)) (command_named word s.level)

-- ---- all levels below one

abbrev pub is_shown : CommandSaid → Bool
is_shown (command called help l) = not called.hidden

abbrev mutual
  -- the commands at any depth that are not hidden and stand below none that is: those of a level in the order of
  -- `commands_on`, each before those below it
  pub below_level : SubjectSaid → LevelSaid → List SubjectSaid
  below_level s (level texts required options choices gs values subcommands) = below_groups s gs ++ below_commands s subcommands

  pub below_groups : SubjectSaid → GroupsSaid → List SubjectSaid
  below_groups s no_groups = []
  below_groups s (groups first others) = below_group s first ++ below_groups s others

  pub below_group : SubjectSaid → GroupSaid → List SubjectSaid
  below_group s (group title options choices values subcommands) = below_commands s subcommands

  pub below_commands : SubjectSaid → CommandsSaid → List SubjectSaid
  below_commands s no_commands = []
  below_commands s (commands first others) = from_command s first ++ below_commands s others

  pub from_command : SubjectSaid → CommandSaid → List SubjectSaid
  from_command s (command called help l) =
      if is_shown (command called help l) then below s (command called help l) ∷ below_level (below s (command called help l)) l else []

abbrev pub subjects_below : SubjectSaid → List SubjectSaid
subjects_below s = below_level s s.level

-- the level itself, and those below it
abbrev pub all_from : SubjectSaid → List SubjectSaid
all_from s = s ∷ subjects_below s

-- ---- those on the page of the level

-- an option by its names and the word for its value alone
abbrev pub name_only : OptSaid → OptSaid
name_only o = record o { help = None; default = None; values = None; env = None }

-- a level whose page does not say again what the options that ask for help do
abbrev pub in_short : SubjectSaid → SubjectSaid
in_short s = record s { help_options = map name_only s.help_options }

-- the levels below one as they follow it on its page, which says at the first what these options do
abbrev pub subjects_after : SubjectSaid → List SubjectSaid
subjects_after s = subjects_below (in_short s)

-- ---- law

-- a command and those below it; nothing where it is hidden
abbrev pub shown_from : SubjectSaid → CommandSaid → List SubjectSaid
shown_from s c = if is_shown c then all_from (below s c) else []

-- what is below a level is each command on it that is not hidden, in order, and what is below that
abbrev pub EachCommandIsThere : Type 0
EachCommandIsThere = (s : SubjectSaid) → subjects_below s ≡ flat_map (shown_from s) (commands_on s.level)
