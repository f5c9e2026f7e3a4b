-- The lists of a level: entries, each list under its title.
use Rattle.std.specs.Prelude.{ℕ, List, [], ◌∷◌, ◌++◌, ◌==◌, map, flat_map, codes, if◌then◌else◌, Option, Some, None}
use Rattle.std.specs.List.{join_by}
use Rattle.std.specs.Str.{trim_end}
use Rattle.page_model.specs.Content.{BlockSaid, EntrySaid, TargetSaid, to_page, to_heading}
use Rattle.description.specs.Content.{OptSaid, ChoiceSaid, PositionalSaid, LevelSaid, level, GroupsSaid, no_groups, groups, GroupSaid, group, CommandsSaid, no_commands, commands, CommandSaid, command}
use Rattle.description_usage.specs.Entries.{command_entry, option_entry, positional_entry}
use Rattle.description_pages.specs.Keys.{KeySaid, RowSaid, command_key, entries_once, option_key, positional_key}
use Rattle.description_texts.specs.Texts.{text_blocks}
use Rattle.description.specs.Words.{WordsSaid}
use Rattle.page_model.specs.View.{block_of, entry_of}
use Rattle.description_pages.specs.declared.levels.Depth.{Depth}
use Rattle.description_pages.specs.declared.levels.Depth.TheVariants.{Alone, Deep}
use Rattle.description_pages.specs.declared.sections.Body.{Body}
use Rattle.description_pages.specs.declared.sections.Body.TheVariants.{Listed, Told}
use Rattle.description_pages.specs.declared.sections.Detail.{Detail}
use Rattle.description_pages.specs.declared.sections.Detail.TheVariants.{Full, Brief}
use Rattle.description_pages.specs.declared.sections.Section.{Section}

-- ---- texts

-- in brief the first block alone
abbrev pub shown_blocks : Detail → List BlockSaid → List BlockSaid
shown_blocks Full blocks = blocks
shown_blocks Brief [] = []
shown_blocks Brief (block ∷ blocks) = block ∷ []

abbrev pub given_blocks : Detail → Option (List ℕ) → List BlockSaid
given_blocks detail None = []
given_blocks detail (Some text) = shown_blocks detail (text_blocks text)

-- ---- titles

-- a text without this byte at its end
abbrev pub without_last : ℕ → List ℕ → List ℕ
without_last last [] = []
without_last last (b ∷ []) = if b == last then [] else b ∷ []
without_last last (b ∷ c ∷ text) = b ∷ without_last last (c ∷ text)

-- the colon at the end of a title is left out, and white space at the end of the rest
abbrev pub without_colon : List ℕ → List ℕ
without_colon title = trim_end (without_last 58 title)

-- ---- sections

-- what stands under a title
pub data BodySaid : Type 0 where
  listed : List EntrySaid → BodySaid
  told : List BlockSaid → BodySaid

pub record SectionSaid : Type 0 where
  pub title : List ℕ
  pub body : BodySaid

-- what has nothing to show is left out with its title
abbrev pub list_section : (title : List ℕ) → List EntrySaid → List SectionSaid
list_section title [] = []
list_section title (entry ∷ entries) = record { title = title; body = listed (entry ∷ entries) } ∷ []

abbrev pub text_section : (title : List ℕ) → List BlockSaid → List SectionSaid
text_section title [] = []
text_section title (block ∷ blocks) = record { title = title; body = told (block ∷ blocks) } ∷ []

-- ---- lists of entries

-- what is hidden is left out
abbrev pub option_rows_of : WordsSaid → Detail → OptSaid → List RowSaid
option_rows_of fixed detail o =
    if o.hidden then []
    else record { key = option_key o; entry = option_entry fixed o (given_blocks detail o.help) } ∷ []

abbrev pub option_rows : WordsSaid → Detail → List OptSaid → List RowSaid
option_rows fixed detail options = flat_map (option_rows_of fixed detail) options

abbrev pub choice_rows : WordsSaid → Detail → List ChoiceSaid → List RowSaid
choice_rows fixed detail choices = flat_map (λ c. option_rows fixed detail c.options) choices

abbrev pub row_if : KeySaid → Option EntrySaid → List RowSaid
row_if key None = []
row_if key (Some entry) = record { key = key; entry = entry } ∷ []

abbrev pub value_rows_of : WordsSaid → Detail → PositionalSaid → List RowSaid
value_rows_of fixed detail p =
    if p.hidden then [] else row_if (positional_key p) (positional_entry fixed p (given_blocks detail p.help))

abbrev pub value_rows : WordsSaid → Detail → List PositionalSaid → List RowSaid
value_rows fixed detail values = flat_map (value_rows_of fixed detail) values

-- names as one text, with another between two
abbrev pub joined_names : (between : List ℕ) → List (List ℕ) → List ℕ
joined_names between names = join_by (λ name. name) between names

-- that of a page has `-` between two
abbrev pub page_name : List (List ℕ) → List ℕ
page_name = joined_names (codes "-")

-- where the entry of a command leads, by the names that lead to it: to its page, or to its heading where all levels
-- stand on one page
abbrev pub command_target : Depth → List (List ℕ) → TargetSaid
command_target Alone names = to_page (page_name names)
command_target Deep names = to_heading (joined_names (codes " ") names)

abbrev pub command_rows_of : WordsSaid → Detail → Depth → (names : List (List ℕ)) → CommandSaid → List RowSaid
command_rows_of fixed detail depth names (command called help below) =
    if called.hidden then []
    else record {
      key = command_key (command called help below);
      entry = command_entry fixed (command_target depth (names ++ called.name ∷ [])) (command called help below)
          (given_blocks detail help);
    } ∷ []

abbrev pub command_rows : WordsSaid → Detail → Depth → (names : List (List ℕ)) → CommandsSaid → List RowSaid
command_rows fixed detail depth names no_commands = []
command_rows fixed detail depth names (commands first others) =
    command_rows_of fixed detail depth names first ++ command_rows fixed detail depth names others

-- a group is one list: its options, choices, values and commands
abbrev pub group_rows : WordsSaid → Detail → Depth → (names : List (List ℕ)) → GroupSaid → List RowSaid
group_rows fixed detail depth names (group title options choices values below) =
    option_rows fixed detail options
    ++ (choice_rows fixed detail choices
    ++ (value_rows fixed detail values
    ++ command_rows fixed detail depth names below))

abbrev pub group_title : GroupSaid → List ℕ
group_title (group title options choices values below) = without_colon title

abbrev pub group_section : WordsSaid → Detail → Depth → (names : List (List ℕ)) → GroupSaid → List SectionSaid
group_section fixed detail depth names g = list_section (group_title g) (entries_once (group_rows fixed detail depth names g))

abbrev pub group_sections : WordsSaid → Detail → Depth → (names : List (List ℕ)) → GroupsSaid → List SectionSaid
group_sections fixed detail depth names no_groups = []
group_sections fixed detail depth names (groups first others) =
    group_section fixed detail depth names first ++ group_sections fixed detail depth names others

-- what is in no group
abbrev pub argument_section : WordsSaid → Detail → LevelSaid → List SectionSaid
argument_section fixed detail (level texts required options choices below values subcommands) =
    list_section fixed.arguments (entries_once (value_rows fixed detail values))

abbrev pub option_section : WordsSaid → Detail → (help_options : List OptSaid) → LevelSaid → List SectionSaid
option_section fixed detail help_options (level texts required options choices below values subcommands) =
    list_section fixed.options (entries_once (option_rows fixed detail options
    ++ (choice_rows fixed detail choices ++ option_rows fixed detail help_options)))

abbrev pub command_section : WordsSaid → Detail → Depth → (names : List (List ℕ)) → LevelSaid → List SectionSaid
command_section fixed detail depth names (level texts required options choices below values subcommands) =
    list_section fixed.commands (entries_once (command_rows fixed detail depth names subcommands))

abbrev pub groups_of : LevelSaid → GroupsSaid
groups_of (level texts required options choices below values subcommands) = below

-- arguments, each group, options with those that ask for help, and commands
abbrev pub list_sections : WordsSaid → Detail → Depth → (names : List (List ℕ)) → (help_options : List OptSaid) → LevelSaid → List SectionSaid
list_sections fixed detail depth names help_options l =
    argument_section fixed detail l
    ++ (group_sections fixed detail depth names (groups_of l)
    ++ (option_section fixed detail help_options l
    ++ command_section fixed detail depth names l))

-- ---- what a value says

abbrev pub body_of : {A : Type 0} → Body A → BodySaid
body_of (Listed entries) = listed (map entry_of entries.items)
body_of (Told blocks) = told (map block_of blocks.items)

abbrev pub section_of : {A : Type 0} → Section A → SectionSaid
section_of section = record { title = section.title.now; body = body_of section.body }
