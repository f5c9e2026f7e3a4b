-- How the entries of a table are written in each shell: a line for each, with its four words in quotes.
use Rattle.std.specs.Prelude.{ℕ, List, [], ◌∷◌, ◌++◌, ◌≡◌, ◌==◌, codes, flat_map, if◌then◌else◌}
use Rattle.completions.specs.Content.{EntrySaid}
use Rattle.completions.specs.declared.shells.Shell.{Shell}
use Rattle.completions.specs.declared.shells.Shell.TheVariants as shell

-- in an array, a quote is written as the end of the quotes, a quote after a backslash, and a new beginning
abbrev pub array_letter : ℕ → List ℕ
array_letter b = if b == 39 then codes "'\\''" else b ∷ []

-- a quote and a backslash are written after a backslash
abbrev pub command_letter : ℕ → List ℕ
command_letter b = if b == 39 then codes "\\'" else if b == 92 then codes "\\\\" else b ∷ []

abbrev pub letter : Shell → ℕ → List ℕ
letter shell.Bash b = array_letter b
letter shell.Zsh b = array_letter b
letter shell.Fish b = command_letter b

abbrev pub quoted : Shell → List ℕ → List ℕ
quoted sh word = codes "'" ++ (flat_map (letter sh) word ++ codes "'")

-- where the next line goes on
abbrev pub line_end : Shell → List ℕ
line_end shell.Bash = codes "\n"
line_end shell.Zsh = codes "\n"
line_end shell.Fish = codes " \\\n"

abbrev pub entry_text : Shell → EntrySaid → List ℕ
entry_text sh e =
    codes "    " ++ (quoted sh e.what
    ++ (codes " " ++ (quoted sh e.text
    ++ (codes " " ++ (quoted sh e.hint
    ++ (codes " " ++ (quoted sh e.help ++ line_end sh)))))))

abbrev pub data_text : Shell → List EntrySaid → List ℕ
data_text sh entries = flat_map (entry_text sh) entries

-- a text with these entries after what was there
abbrev pub Writes : Shell → (old new : List ℕ) → List EntrySaid → Type 0
Writes sh old new entries = new ≡ old ++ data_text sh entries
