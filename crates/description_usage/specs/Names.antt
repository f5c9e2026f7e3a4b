-- Names of options, and words for values, as a page writes them.
use Rattle.std.specs.Prelude.{ℕ, List, [], ◌∷◌, ◌++◌, ◌==◌, chars, codes, encode_utf8, Bool, ◌&&◌, ◌||◌, nat_le, if◌then◌else◌, Option, Some, None}
use Rattle.std.specs.Char.{is_ascii_digit}
use Rattle.std.specs.List.{list_all}
use Rattle.unicode.specs.Binary.{is_uppercase}
use Rattle.page_model.specs.Content.{Piece, words, literal, value, Line}

-- an Uppercase character, an ASCII digit, `-` or `_`
abbrev pub is_bare_character : ℕ → Bool
is_bare_character c = (is_uppercase c || is_ascii_digit c) || (c == 45 || c == 95)

-- those of ASCII, as bytes
abbrev pub is_bare_byte : ℕ → Bool
is_bare_byte b = ((nat_le 65 b && nat_le b 90) || (nat_le 48 b && nat_le b 57)) || (b == 45 || b == 95)

abbrev pub is_bare : List ℕ → Bool
is_bare word = list_all is_bare_character (chars word)

-- a word for a value stands bare where all its characters may, otherwise between `<` and `>`
abbrev pub shown_value : List ℕ → List ℕ
shown_value word = if is_bare word then word else codes "<" ++ (word ++ codes ">")

abbrev pub value_piece : List ℕ → Piece
value_piece word = value (shown_value word)

abbrev pub short_piece : ℕ → Piece
short_piece c = literal (codes "-" ++ encode_utf8 c)

abbrev pub long_piece : List ℕ → Piece
long_piece name = literal (codes "--" ++ name)

-- the word for the value of an option, after its name, if it has one
abbrev pub value_after : (between : List ℕ) → Option (List ℕ) → Line
value_after between None = []
value_after between (Some word) = words between ∷ value_piece word ∷ []

-- a blank stands after a short name, and `=` after a long one
abbrev pub short_line : ℕ → (value : Option (List ℕ)) → Line
short_line c word = short_piece c ∷ value_after (codes " ") word

abbrev pub long_line : List ℕ → (value : Option (List ℕ)) → Line
long_line name word = long_piece name ∷ value_after (codes "=") word
