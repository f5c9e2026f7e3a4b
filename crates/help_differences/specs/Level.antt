-- The names that a level of a description has. What is hidden has none.
use Rattle.std.specs.Prelude.{ℕ, List, [], ◌∷◌, ◌++◌, codes, flat_map, map, Option, None, Some, if◌then◌else◌}
use Rattle.std.specs.Char.{encode_utf8}
use Rattle.description.specs.Content.{NameSaid, short, long, both, SpellingSaid, named, syntax, OptSaid, ChoiceSaid, LevelSaid, level, GroupsSaid, no_groups, groups, GroupSaid, group, CommandsSaid, no_commands, commands, CommandSaid, command}
use Rattle.help_fronts.specs.Lines.{option_names}
use Rattle.help_differences.specs.declared.names.Kind.TheVariants as kind
use Rattle.help_differences.specs.Names.{Named, called, expanded}

abbrev pub short_texts : ℕ → List (List ℕ)
short_texts c = (codes "-" ++ encode_utf8 c) ∷ []

abbrev pub long_texts : (word : List ℕ) → List (List ℕ)
long_texts word = (codes "--" ++ word) ∷ []

abbrev pub name_texts : NameSaid → List (List ℕ)
name_texts (short c) = short_texts c
name_texts (long word) = long_texts word
name_texts (both c word) = short_texts c ++ long_texts word

-- a syntax is read as the front of a line of a help text
abbrev pub syntax_texts : (text : List ℕ) → List (List ℕ)
syntax_texts text = flat_map expanded (option_names text)

abbrev pub spelling_texts : SpellingSaid → List (List ℕ)
spelling_texts (named name) = name_texts name
spelling_texts (syntax text) = syntax_texts text

abbrev pub names_of_option : OptSaid → List Named
names_of_option o = if o.hidden then [] else map (called kind.Option) (spelling_texts o.spelling)

abbrev pub names_of_options : List OptSaid → List Named
names_of_options options = flat_map names_of_option options

abbrev pub names_of_choice : ChoiceSaid → List Named
names_of_choice choice = names_of_options choice.options

abbrev pub names_of_choices : List ChoiceSaid → List Named
names_of_choices choices = flat_map names_of_choice choices

abbrev pub initial_texts : Option ℕ → List (List ℕ)
initial_texts None = []
initial_texts (Some c) = encode_utf8 c ∷ []

-- its name and its other ones
abbrev pub texts_of_command : (name : List ℕ) → (initial : Option ℕ) → (aliases : List (List ℕ)) → List (List ℕ)
texts_of_command name initial aliases = name ∷ initial_texts initial ++ aliases

abbrev pub names_of_command : CommandSaid → List Named
names_of_command (command names help l) =
    if names.hidden then [] else map (called kind.Command) (texts_of_command names.name names.initial names.aliases)

abbrev pub names_of_commands : CommandsSaid → List Named
names_of_commands no_commands = []
names_of_commands (commands first others) = names_of_command first ++ names_of_commands others

abbrev pub names_of_group : GroupSaid → List Named
names_of_group (group title options choices positionals subcommands) =
    names_of_options options ++ names_of_choices choices ++ names_of_commands subcommands

abbrev pub names_of_groups : GroupsSaid → List Named
names_of_groups no_groups = []
names_of_groups (groups first others) = names_of_group first ++ names_of_groups others

abbrev pub names_on_level : LevelSaid → List Named
names_on_level (level texts required options choices gs positionals subcommands) =
    names_of_groups gs ++ names_of_options options ++ names_of_choices choices ++ names_of_commands subcommands

-- the options that ask for help are on each level
abbrev pub names_of_level : (help_options : List OptSaid) → LevelSaid → List Named
names_of_level help_options l = names_of_options help_options ++ names_on_level l
