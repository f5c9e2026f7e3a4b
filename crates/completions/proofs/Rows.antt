-- What each shell reads of quoted words, of what it reads nothing, names, values and tags, and what a usage offers.
use Rattle.std.specs.Prelude.{◌≡◌, List, ℕ, [], ◌∷◌, flat_map, Some, None, codes, true, false}
use Rattle.std.proofs.Common.{refl}
use Rattle.completions.specs.Reader.{read}
use Rattle.completions.specs.Scripts.{tag}
use Rattle.completions.specs.Syntax.{syntax_how, syntax_words, word_names}
use Rattle.completions.specs.Content.{EntrySaid}
use Rattle.completions.specs.Table.{entry, level_entries}
use Rattle.description.specs.Content.{TextsSaid, PositionalSaid, LevelSaid, level, GroupsSaid, no_groups, groups, group, CommandsSaid, no_commands, commands, command}
use Rattle.description.specs.Values.{listed_values}
use Rattle.description.specs.declared.hints.ValueHint.TheVariants as hint
use Rattle.completions.specs.declared.shells.Shell.TheVariants as shell
use Rattle.completions.specs.declared.syntax.How.TheVariants as how

pub words_read_of :
    (read shell.Bash (codes "  'a b' ''\n'$(x) \\'\n") ≡ Some (codes "a b" ∷ [] ∷ codes "$(x) \\" ∷ []))
    × (read shell.Zsh (codes "'it'\\''s'\\' 'b'") ≡ Some (codes "it's'" ∷ codes "b" ∷ []))
    × (read shell.Fish (codes "'it\\'s \\\\ \\n' \\\n''") ≡ Some (codes "it's \\ \\n" ∷ [] ∷ []))
words_read_of = (refl, refl, refl)

-- a word without quotes, one that has no end, a command that ends, and a quote after a backslash between two words
pub nothing_read_of :
    (read shell.Bash (codes "'a' $b") ≡ None)
    × (read shell.Zsh (codes "'a' 'b") ≡ None)
    × (read shell.Fish (codes "'a'\n'b'") ≡ None)
    × (read shell.Fish (codes "'a'\\''b'") ≡ None)
nothing_read_of = (refl, refl, refl, refl)

abbrev names_in : List ℕ → List (List ℕ)
names_in text = flat_map word_names (syntax_words text)

pub names_of_syntaxes :
    (names_in (codes "-n, --line") ≡ codes "-n" ∷ codes "--line" ∷ [])
    × (names_in (codes "-o FILE, --output=FILE") ≡ codes "-o" ∷ codes "--output" ∷ [])
    × (names_in (codes "--[no-]edit") ≡ codes "--edit" ∷ codes "--no-edit" ∷ [])
    × (names_in (codes "-x|-y [-z, -w] --") ≡ codes "-x" ∷ codes "-y" ∷ [])
    × (names_in (codes "if=FILE") ≡ [])
names_of_syntaxes = (refl, refl, refl, refl, refl)

pub values_of_syntaxes :
    (syntax_how (codes "-n, --line") ≡ how.Flag)
    × (syntax_how (codes "-o FILE, --output=FILE") ≡ how.Word)
    × (syntax_how (codes "-s, --store=FOLDER") ≡ how.Value)
    × (syntax_how (codes "-c, --color[=WHEN]") ≡ how.Optional)
values_of_syntaxes = (refl, refl, refl, refl)

pub values_in_lists :
    (listed_values (codes "never") ≡ codes "never" ∷ [])
    × (listed_values (codes "very fast, a,b, c") ≡ codes "very fast" ∷ codes "a,b" ∷ codes "c" ∷ [])
unfolding listed_values
values_in_lists = (refl, refl)

pub tags_of_names :
    (tag (codes "a-b_C1") ≡ codes "a_2db_5fC1")
    × (tag (195 ∷ 169 ∷ []) ≡ codes "_c3_a9")
tags_of_names = (refl, refl)

-- a text as the usage, and nothing else
abbrev own_usage : TextsSaid
own_usage = record { about = None; header = None; footer = None; usage = Some (codes "U"); topics = [] }

abbrev no_usage : TextsSaid
no_usage = record own_usage { usage = None }

abbrev hidden_user : PositionalSaid
hidden_user = record { value = codes "V"; default = None; values = None; hint = hint.User; help = None; required = false; repeated = false; strict = false; hidden = true }

abbrev with_texts : TextsSaid → GroupsSaid → List PositionalSaid → CommandsSaid → LevelSaid
with_texts texts gs ps ms = level texts false [] [] gs ps ms

abbrev hidden_command : CommandsSaid
hidden_command = commands (command (record { name = codes "c"; initial = None; aliases = []; hidden = true }) None (with_texts own_usage no_groups [] no_commands)) no_commands

abbrev a_hidden_place : List EntrySaid
a_hidden_place = entry (codes "place") (codes "once") (codes "none") [] ∷ []

-- a usage alone offers files, and one with a positional value or a command, also a
-- hidden one or one of a group, does not
pub usages_offer_files :
    (level_entries (with_texts own_usage no_groups [] no_commands) ≡ entry (codes "place") (codes "many") (codes "file") [] ∷ [])
    × (level_entries (with_texts no_usage no_groups [] no_commands) ≡ [])
    × (level_entries (with_texts own_usage no_groups (hidden_user ∷ []) no_commands) ≡ a_hidden_place)
    × (level_entries (with_texts own_usage (groups (group (codes "G") [] [] (hidden_user ∷ []) no_commands) no_groups) [] no_commands) ≡ a_hidden_place)
    × (level_entries (with_texts own_usage no_groups [] hidden_command) ≡ [])
    × (level_entries (with_texts own_usage (groups (group (codes "G") [] [] [] hidden_command) no_groups) [] no_commands) ≡ [])
usages_offer_files = (refl, refl, refl, refl, refl, refl)
