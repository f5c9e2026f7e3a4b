-- The rows of the lists of a level: which there are, and that each key is shown once.
use Rattle.std.specs.Prelude.{◌≡◌, ℕ, List, [], ◌∷◌, ◌++◌, flat_map, Bool, true, false, not, ◌&&◌}
use Rattle.std.specs.List.{list_all, list_any}
use Rattle.page_model.specs.Content.{EntrySaid}
use Rattle.description.specs.Content.{OptSaid, LevelSaid, level, GroupsSaid, no_groups, groups}
use Rattle.description.specs.Words.{WordsSaid}
use Rattle.description_pages.specs.Keys.{KeySaid, RowSaid, entries_once, option_key, same_key}
use Rattle.description_pages.specs.Levels.{PageSaid, SubjectSaid, page_of}
use Rattle.description_pages.specs.Once.{each_once}
use Rattle.description_pages.specs.Sections.{BodySaid, listed, told, choice_rows, command_rows, group_rows, option_rows, value_rows}
use Rattle.description_pages.specs.declared.levels.Depth.{Depth}
use Rattle.description_pages.specs.declared.sections.Detail.{Detail}

-- ---- rows

abbrev pub same_row : RowSaid → RowSaid → Bool
same_row row other = same_key row.key other.key

abbrev pub has_key : KeySaid → List RowSaid → Bool
has_key key rows = list_any (λ row. same_key key row.key) rows

-- no row has the key of one before it
abbrev pub are_new : (before : List RowSaid) → List RowSaid → Bool
are_new before [] = true
are_new before (row ∷ rows) = not (has_key row.key before) && are_new (before ++ row ∷ []) rows

-- exactly one of the rows with one key is shown
pub record AreShownOnce (rows shown : List RowSaid) : Type 0 where
  -- no two of those that are shown have one key
  pub distinct : are_new [] shown ≡ true
  -- they have the keys of the rows, and no others
  pub keys : (key : KeySaid) → has_key key shown ≡ has_key key rows
  -- they are some of the rows: what holds of all rows holds of them
  pub some : (test : RowSaid → Bool) → list_all test rows ≡ true → list_all test shown ≡ true

-- ---- the rows of a level, list by list

abbrev pub grouped_rows : WordsSaid → Detail → Depth → (names : List (List ℕ)) → GroupsSaid → List (List RowSaid)
grouped_rows fixed detail depth names no_groups = []
grouped_rows fixed detail depth names (groups first others) =
    group_rows fixed detail depth names first ∷ grouped_rows fixed detail depth names others

-- the options in no group, those of choices, and those that ask for help
abbrev pub own_option_rows : WordsSaid → Detail → (help_options : List OptSaid) → LevelSaid → List RowSaid
own_option_rows fixed detail help_options (level texts required options choices below values subcommands) =
    option_rows fixed detail options ++ (choice_rows fixed detail choices ++ option_rows fixed detail help_options)

-- arguments, each group, options and commands
abbrev pub level_rows : WordsSaid → Detail → Depth → (names : List (List ℕ)) → (help_options : List OptSaid) → LevelSaid → List (List RowSaid)
level_rows fixed detail depth names help_options (level texts required options choices below values subcommands) =
    value_rows fixed detail values
    ∷ (grouped_rows fixed detail depth names below
    ++ (own_option_rows fixed detail help_options (level texts required options choices below values subcommands)
    ∷ command_rows fixed detail depth names subcommands ∷ []))

-- ---- the lists of a page

abbrev pub entries_in : BodySaid → List (List EntrySaid)
entries_in (listed list) = list ∷ []
entries_in (told blocks) = []

abbrev pub entry_lists : PageSaid → List (List EntrySaid)
entry_lists said = flat_map (λ section. entries_in section.body) said.sections

-- a list without entries is left out
abbrev pub unless_empty : List EntrySaid → List (List EntrySaid)
unless_empty [] = []
unless_empty (entry ∷ entries) = (entry ∷ entries) ∷ []

-- ---- laws

-- the lists of a page have the entries of the rows of its level, each key once, and no others
pub record EachKeyIsListedOnce : Type 0 where
  pub lists : (fixed : WordsSaid) (detail : Detail) (depth : Depth) (subject : SubjectSaid)
      → entry_lists (page_of fixed detail depth subject)
      ≡ flat_map (λ rows. unless_empty (entries_once rows))
      (level_rows fixed detail depth subject.names subject.help_options subject.level)
  pub once : (rows : List RowSaid) → AreShownOnce rows (each_once same_row rows)

-- each option that asks for help and is not hidden is shown among the options of each level, or one with its key is
-- shown before it
abbrev pub HelpOptionsAreListed : Type 0
HelpOptionsAreListed =
    (fixed : WordsSaid) (detail : Detail) (subject : SubjectSaid) (before after : List OptSaid) (option : OptSaid)
    → subject.help_options ≡ before ++ option ∷ after → option.hidden ≡ false
    → has_key (option_key option) (each_once same_row (own_option_rows fixed detail subject.help_options subject.level)) ≡ true
