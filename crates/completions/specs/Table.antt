-- The table of a description's completions: what may be typed on each level, in order. What is hidden stands nowhere,
-- but a hidden value keeps its place.
use Rattle.std.specs.Prelude.{ℕ, Bool, true, false, not, ◌&&◌, ◌||◌, List, [], ◌∷◌, ◌++◌, codes, map, flat_map, Option, Some, None, is_some, if◌then◌else◌}
use Rattle.std.specs.Char.{encode_utf8}
use Rattle.description.specs.Content.{NameSaid, short, long, both, SpellingSaid, named, syntax, OptSaid, ChoiceSaid, PositionalSaid, CommandNames, LevelSaid, level, GroupsSaid, no_groups, groups, GroupSaid, group, CommandsSaid, no_commands, commands, CommandSaid, command, DescriptionSaid}
use Rattle.description.specs.Hints.{hint_word}
use Rattle.description.specs.declared.hints.ValueHint.{ValueHint}
use Rattle.description.specs.declared.hints.ValueHint.TheVariants.{File}
use Rattle.completions.specs.Content.{EntrySaid, entry_words}
use Rattle.completions.specs.Syntax.{syntax_how, syntax_words, word_names}
use Rattle.completions.specs.Texts.{command_help, help_text}
use Rattle.description.specs.Values.{listed_values}
use Rattle.completions.specs.declared.syntax.How.{How}
use Rattle.completions.specs.declared.syntax.How.TheVariants as how

abbrev pub entry : (what text hint help : List ℕ) → EntrySaid
entry what text hint help = record { what = what; text = text; hint = hint; help = help }

-- an entry that says a text and nothing more
abbrev pub lone : (what text : List ℕ) → EntrySaid
lone what text = entry what text [] []

abbrev pub mark : (what : List ℕ) → EntrySaid
mark what = lone what []

-- ---- values

-- what is offered for a value: those of a list alone, where there is one
abbrev pub offer : (values : Option (List ℕ)) → ValueHint → List ℕ
offer None hint = hint_word hint
offer (Some values) hint = codes "none"

abbrev pub value_entries : (values : Option (List ℕ)) → List EntrySaid
value_entries None = []
value_entries (Some values) = map (lone (codes "among")) (listed_values values)

-- once, or many times
abbrev pub times : (repeated : Bool) → List ℕ
times true = codes "many"
times false = codes "once"

-- ---- options

abbrev pub how_word : How → List ℕ
how_word how.Flag = codes "flag"
how_word how.Value = codes "value"
how_word how.Word = codes "word"
how_word how.Optional = codes "optional"

-- an option by its name has a value where it has a word for it
abbrev pub how_if : (value : Option (List ℕ)) → How
how_if None = how.Flag
how_if (Some word) = how.Value

abbrev pub how_of : SpellingSaid → (value : Option (List ℕ)) → How
how_of (named name) value = how_if value
how_of (syntax text) value = syntax_how text

-- a flag has no value
abbrev pub hint_of : How → (values : Option (List ℕ)) → ValueHint → List ℕ
hint_of how.Flag values hint = codes "none"
hint_of how.Value values hint = offer values hint
hint_of how.Word values hint = offer values hint
hint_of how.Optional values hint = offer values hint

abbrev pub names : NameSaid → List (List ℕ)
names (short c) = (codes "-" ++ encode_utf8 c) ∷ []
names (long word) = (codes "--" ++ word) ∷ []
names (both c word) = (codes "-" ++ encode_utf8 c) ∷ (codes "--" ++ word) ∷ []

abbrev pub spelling_names : SpellingSaid → List (List ℕ)
spelling_names (named name) = names name
spelling_names (syntax text) = flat_map word_names (syntax_words text)

abbrev pub name_entries : SpellingSaid → List EntrySaid
name_entries spelling = map (lone (codes "name")) (spelling_names spelling)

abbrev pub option_entry : (what : List ℕ) → OptSaid → EntrySaid
option_entry what o =
    entry what (how_word (how_of o.spelling o.value)) (hint_of (how_of o.spelling o.value) o.values o.hint) (help_text o.help)

-- an option, its names and its values
abbrev pub option_entries : (what : List ℕ) → OptSaid → List EntrySaid
option_entries what o = option_entry what o ∷ name_entries o.spelling ++ value_entries o.values

abbrev pub shown_option : (what : List ℕ) → OptSaid → List EntrySaid
shown_option what o = if o.hidden then [] else option_entries what o

abbrev pub listed_option : OptSaid → List EntrySaid
listed_option o = shown_option (times o.repeated) o

abbrev pub options_entries : List OptSaid → List EntrySaid
options_entries options = flat_map listed_option options

-- of the options of a choice, each except the first shown one stands in place of the one before
abbrev pub what_after : (what : List ℕ) → OptSaid → List ℕ
what_after what o = if o.hidden then what else codes "or"

abbrev pub members_entries : (what : List ℕ) → List OptSaid → List EntrySaid
members_entries what [] = []
members_entries what (o ∷ os) = shown_option what o ++ members_entries (what_after what o) os

abbrev pub choice_entries : ChoiceSaid → List EntrySaid
choice_entries choice = members_entries (codes "once") choice.options

abbrev pub choices_entries : List ChoiceSaid → List EntrySaid
choices_entries choices = flat_map choice_entries choices

-- ---- positional values

abbrev pub place_word : (strict : Bool) → List ℕ
place_word true = codes "strict"
place_word false = codes "place"

abbrev pub place_entries : PositionalSaid → List EntrySaid
place_entries p =
    if p.hidden then entry (place_word p.strict) (times p.repeated) (codes "none") [] ∷ []
    else entry (place_word p.strict) (times p.repeated) (offer p.values p.hint) [] ∷ value_entries p.values

abbrev pub places_entries : List PositionalSaid → List EntrySaid
places_entries positionals = flat_map place_entries positionals

-- ---- commands

abbrev pub initial_entries : Option ℕ → List EntrySaid
initial_entries None = []
initial_entries (Some c) = lone (codes "alias") (encode_utf8 c) ∷ []

abbrev pub alias_entries : CommandNames → List EntrySaid
alias_entries names = initial_entries names.initial ++ map (lone (codes "alias")) names.aliases

-- the text about a level
abbrev pub about_of : LevelSaid → Option (List ℕ)
about_of (level texts required options choices gs positionals subcommands) = texts.about

-- the entry of a command alone, and with its other names
abbrev pub command_head : CommandSaid → EntrySaid
command_head (command names help l) = entry (codes "command") names.name [] (command_help help (about_of l))

abbrev pub names_of : CommandSaid → CommandNames
names_of (command names help l) = names

abbrev pub command_head_entries : CommandSaid → List EntrySaid
command_head_entries c = command_head c ∷ alias_entries (names_of c)

-- ---- positional values that only a usage names

abbrev pub has_places : List PositionalSaid → Bool
has_places [] = false
has_places (p ∷ ps) = true

abbrev pub has_commands : CommandsSaid → Bool
has_commands no_commands = false
has_commands (commands first others) = true

-- whether there is a positional value or a command, hidden or shown
abbrev pub takes_words : List PositionalSaid → CommandsSaid → Bool
takes_words positionals subcommands = has_places positionals || has_commands subcommands

abbrev pub groups_take_words : GroupsSaid → Bool
groups_take_words no_groups = false
groups_take_words (groups (group title options choices positionals subcommands) others) =
    takes_words positionals subcommands || groups_take_words others

-- on the level itself or in a group
abbrev pub level_takes_words : LevelSaid → Bool
level_takes_words (level texts required options choices gs positionals subcommands) =
    takes_words positionals subcommands || groups_take_words gs

abbrev pub has_usage : LevelSaid → Bool
has_usage (level texts required options choices gs positionals subcommands) = is_some texts.usage

-- files, as of a positional value that may be given many times
abbrev pub files : EntrySaid
files = entry (place_word false) (times true) (hint_word File) []

-- a level with a usage of its own, and with neither a positional value nor a command, takes files
abbrev pub unsaid_places : LevelSaid → List EntrySaid
unsaid_places l = if has_usage l && not (level_takes_words l) then files ∷ [] else []

-- ---- levels

abbrev mutual
  -- what stands in groups comes first
  pub level_entries : LevelSaid → List EntrySaid
  level_entries (level texts required options choices gs positionals subcommands) =
      groups_entries gs
      ++ options_entries options
      ++ choices_entries choices
      ++ places_entries positionals
      ++ unsaid_places (level texts required options choices gs positionals subcommands)
      ++ commands_entries subcommands

  pub groups_entries : GroupsSaid → List EntrySaid
  groups_entries no_groups = []
  groups_entries (groups first others) = group_entries first ++ groups_entries others

  pub group_entries : GroupSaid → List EntrySaid
  group_entries (group title options choices positionals subcommands) =
      options_entries options ++ choices_entries choices ++ places_entries positionals ++ commands_entries subcommands

  pub commands_entries : CommandsSaid → List EntrySaid
  commands_entries no_commands = []
  commands_entries (commands first others) = command_entries first ++ commands_entries others

  -- a command and its other names, what its level has, and its end
  pub command_entries : CommandSaid → List EntrySaid
  command_entries (command names help l) =
      if names.hidden then []
      else command_head_entries (command names help l) ++ level_entries l ++ mark (codes "end") ∷ []

-- ---- all of them

-- the name of the program, the options that each level has, and then the top
abbrev pub table : DescriptionSaid → List EntrySaid
table d =
    lone (codes "program") d.name ∷ options_entries d.help_options
    ++ mark (codes "level") ∷ level_entries d.level
    ++ mark (codes "end") ∷ []

-- word by word
abbrev pub table_words : DescriptionSaid → List (List ℕ)
table_words d = flat_map entry_words (table d)
