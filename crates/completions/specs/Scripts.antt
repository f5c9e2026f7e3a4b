-- A script: the program of its shell, which is the same for each description except for a name, and the table as data
-- within it.
use Rattle.std.specs.Prelude.{ℕ, ◌/◌, ◌%◌, ◌<◌, ◌⊎◌, All, List, [], ◌∷◌, ◌++◌, ◌≡◌, ◌==◌, ◌||◌, codes, flat_map, Bool, Some, if◌then◌else◌}
use Rattle.std.specs.Char.{digit_char, is_ascii_alphanumeric}
use Rattle.std.specs.List.{list_all}
use Rattle.description.specs.Content.{DescriptionSaid}
use Rattle.completions.specs.Reader.{read}
use Rattle.completions.specs.Table.{table_words}
use Rattle.completions.specs.declared.programs.TheConstants.{BASH_HEAD, BASH_TAIL, ZSH_HEAD, ZSH_TAIL, FISH_HEAD, FISH_TAIL}
use Rattle.completions.specs.declared.shells.Shell.{Shell}
use Rattle.completions.specs.declared.shells.Shell.TheVariants as shell

-- ---- the name of what a script defines

-- a byte of the program's name that is not an ASCII letter or digit becomes `_` and two hex digits
abbrev pub tag_byte : ℕ → List ℕ
tag_byte b = if is_ascii_alphanumeric b then b ∷ [] else 95 ∷ digit_char (b / 16) ∷ digit_char (b % 16) ∷ []

abbrev pub tag : (name : List ℕ) → List ℕ
tag name = flat_map tag_byte name

-- the text of a program, in which a backquote stands for that name
abbrev pub tagged_byte : (tag : List ℕ) → ℕ → List ℕ
tagged_byte tag b = if b == 96 then tag else b ∷ []

abbrev pub tagged : (tag text : List ℕ) → List ℕ
tagged tag text = flat_map (tagged_byte tag) text

-- ---- the program

-- zsh looks in the first line of a file for the names of programs, and takes each word there as it stands: a name of
-- letters, digits and - . _ + alone is named there
abbrev pub is_plain_byte : ℕ → Bool
is_plain_byte b = is_ascii_alphanumeric b || ((b == 45 || b == 46) || (b == 95 || b == 43))

abbrev pub first_line : Shell → (name : List ℕ) → List ℕ
first_line shell.Bash name = []
first_line shell.Zsh name = codes "#compdef " ++ ((if list_all is_plain_byte name then name else []) ++ codes "\n")
first_line shell.Fish name = []

abbrev pub head : Shell → List ℕ
head shell.Bash = BASH_HEAD.now
head shell.Zsh = ZSH_HEAD.now
head shell.Fish = FISH_HEAD.now

abbrev pub tail : Shell → List ℕ
tail shell.Bash = BASH_TAIL.now
tail shell.Zsh = ZSH_TAIL.now
tail shell.Fish = FISH_TAIL.now

-- what stands before and after the data
abbrev pub before_data : Shell → (name : List ℕ) → List ℕ
before_data sh name = first_line sh name ++ tagged (tag name) (head sh)

abbrev pub after_data : Shell → (name : List ℕ) → List ℕ
after_data sh name = tagged (tag name) (tail sh)

-- The data of a script reads, word by word, as the table.
pub record IsScript (sh : Shell) (d : DescriptionSaid) (script : List ℕ) : Type 0 where
  pub data_part : List ℕ
  pub whole : script ≡ before_data sh d.name ++ (data_part ++ after_data sh d.name)
  pub reads : read sh data_part ≡ Some (table_words d)

-- ---- two scripts

-- what a script defines is called so, with nothing after the tag, or with `__` and a word
abbrev pub IsSuffix : List ℕ → Type 0
IsSuffix suffix = (suffix ≡ []) ⊎ ((word : List ℕ) × (suffix ≡ codes "__" ++ word))

abbrev pub defined_name : (name suffix : List ℕ) → List ℕ
defined_name name suffix = codes "_clidoc_" ++ (tag name ++ suffix)

abbrev pub IsByte : ℕ → Type 0
IsByte b = b < 256

-- the scripts of two programs define nothing under one name
abbrev pub ScriptsDoNotMeet : Type 0
ScriptsDoNotMeet =
    (a b v w : List ℕ) → All IsByte a → All IsByte b → IsSuffix v → IsSuffix w → defined_name a v ≡ defined_name b w
    → a ≡ b
