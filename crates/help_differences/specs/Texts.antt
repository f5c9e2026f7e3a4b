-- The lines that say which names one side alone has.
use Rattle.std.specs.Prelude.{◌≡◌, ◌↔◌, ◌==◌, ℕ, Bool, List, ◌++◌, codes, flat_map, length}
use Rattle.std.specs.List.{Contains, slice_split}
use Rattle.std.specs.List.Sorted.{IsStrictlySortedBy}
use Rattle.description.specs.Content.{LevelSaid, OptSaid}
use Rattle.shown_letters.specs.Terminal.{shown_letters}
use Rattle.help_differences.specs.declared.compared.Side.{Side}
use Rattle.help_differences.specs.declared.compared.Side.TheVariants as side
use Rattle.help_differences.specs.declared.names.Kind.{Kind}
use Rattle.help_differences.specs.declared.names.Kind.TheVariants as kind
use Rattle.help_differences.specs.Differences.{Alone, IsDifference, name_cmp, names_of}
use Rattle.help_differences.specs.Help.{names_in}
use Rattle.help_differences.specs.Level.{names_of_level}

-- what a program printed for help, and what this and the description are called in the lines
pub record HelpSaid : Type 0 where
  pub printed : List ℕ
  pub help_name : List ℕ
  pub description_name : List ℕ

abbrev pub kind_word : Kind → List ℕ
kind_word kind.Option = codes "option "
kind_word kind.Command = codes "command "

abbrev pub stands_in : Side → HelpSaid → List ℕ
stands_in side.Description h = h.description_name
stands_in side.Help h = h.help_name

abbrev pub lacks_in : Side → HelpSaid → List ℕ
lacks_in side.Description h = h.help_name
lacks_in side.Help h = h.description_name

-- as in `option --old: in help.txt, not in app.toml`
abbrev pub line : HelpSaid → Alone → List ℕ
line h a =
    kind_word a.name.kind ++ (a.name.text ++ (codes ": in " ++ (stands_in a.stands h ++ (codes ", not in " ++ (lacks_in a.stands h ++ codes "\n")))))

abbrev pub help_lines : (printed : List ℕ) → List (List ℕ)
help_lines printed = slice_split (λ b. b == 10) (shown_letters printed)

-- nothing in it is the name of an option or a command
abbrev pub has_no_name : (printed : List ℕ) → Bool
has_no_name printed = length (names_in (help_lines printed)) == 0

-- a line for each name that either the level or what was printed has alone, options first, and each once
pub record IsComparison (h : HelpSaid) (help_options : List OptSaid) (l : LevelSaid) (text : List ℕ) : Type 0 where
  pub found : List Alone
  pub each : (a : Alone) → Contains found a ↔ IsDifference (names_of_level help_options l) (names_in (help_lines h.printed)) a
  pub in_order : IsStrictlySortedBy name_cmp (names_of found)
  pub written : text ≡ flat_map (line h) found
