-- How a word spells a text.
use Rattle.std.specs.Prelude.{◌≡◌, ℕ, zero, suc, ◌+◌, ◌*◌, ◌/◌, ◌%◌, Bool, ◌||◌, ◌==◌, nat_lt, if◌then◌else◌, Option, Some, None, List, [], ◌∷◌, ◌++◌, codes, flat_map, encode_utf8, IsUtf8}
use Rattle.std.specs.Char.{is_control, is_whitespace, digit_value, digit_char}
use Rattle.std.specs.Option.{option_map}
use Rattle.std.specs.Str.{chars}
use lib.Utf8.{scalar}
use Rattle.bpaf_roff.specs.Bytes as byte

-- the other signs, which a word has in place of what stands there

abbrev pub tab : ℕ
tab = 9

abbrev pub carriage_return : ℕ
carriage_return = 13

abbrev pub letter_n : ℕ
letter_n = 110

abbrev pub letter_r : ℕ
letter_r = 114

abbrev pub letter_s : ℕ
letter_s = 115

abbrev pub letter_t : ℕ
letter_t = 116

abbrev pub letter_u : ℕ
letter_u = 117

-- The character whose code the next hexadecimal digits give, and what follows them: that many digits, after those that
-- gave the number.
abbrev pub code_at : ℕ → ℕ → List ℕ → Option (ℕ × List ℕ)
code_at zero number word = if scalar number then Some (number, word) else None
code_at (suc count) number [] = None
code_at (suc count) number (digit ∷ word) =
    if nat_lt (digit_value digit) 16 then code_at count (number * 16 + digit_value digit) word else None

-- the character of a letter after a backslash
abbrev pub letter_character : ℕ → Option ℕ
letter_character letter =
    if letter == byte.backslash then Some byte.backslash
    else if letter == letter_s then Some byte.blank
    else if letter == letter_n then Some byte.newline
    else if letter == letter_t then Some tab
    else if letter == letter_r then Some carriage_return
    else None

-- the character of what stands after a backslash, and what follows it: `u` and six digits, or a letter
abbrev pub escape_at : List ℕ → Option (ℕ × List ℕ)
escape_at [] = None
escape_at (letter ∷ word) =
    if letter == letter_u then code_at 6 0 word
    else option_map (λ character. (character, word)) (letter_character letter)

-- the bytes for which the first mark of a word stands, and what follows it: a byte for itself, or an escape for its
-- character
abbrev pub first_mark : List ℕ → Option (List ℕ × List ℕ)
first_mark [] = None
first_mark (b ∷ word) =
    if b == byte.backslash then option_map (λ found. (encode_utf8 found.0, found.1)) (escape_at word)
    else Some (b ∷ [], word)

-- the word spells the text
pub data Spells : List ℕ → List ℕ → Type 0 where
  nothing : {word text : List ℕ} → word ≡ [] → text ≡ [] → Spells word text
  mark : {word text : List ℕ} (bytes rest others : List ℕ) → first_mark word ≡ Some (bytes, rest)
      → text ≡ bytes ++ others → Spells rest others → Spells word text

-- in front of any rest, the marks before it stand for the character
abbrev pub StandFor : List ℕ → List ℕ → ℕ → Type 0
StandFor marks rest character = (text : List ℕ) → Spells rest text → Spells marks (encode_utf8 character ++ text)

-- that many of the lowest hexadecimal digits of a number
abbrev pub hex_digits : ℕ → ℕ → List ℕ
hex_digits zero number = []
hex_digits (suc count) number = hex_digits count (number / 16) ++ digit_char (number % 16) ∷ []

-- a control or white space; those that have no letter are spelled by their code
abbrev pub is_hidden : ℕ → Bool
is_hidden character = is_control character || is_whitespace character

abbrev pub character_spelling : ℕ → List ℕ
character_spelling character =
    if character == byte.backslash then codes "\\\\"
    else if character == byte.blank then codes "\\s"
    else if character == byte.newline then codes "\\n"
    else if character == tab then codes "\\t"
    else if character == carriage_return then codes "\\r"
    else if is_hidden character then codes "\\u" ++ hex_digits 6 character
    else encode_utf8 character

-- the printed form of a text, after its quote mark
abbrev pub spelling : List ℕ → List ℕ
spelling text = flat_map character_spelling (chars text)

-- what is printed spells the text
abbrev pub PrintedTextsAreRead : Type 0
PrintedTextsAreRead = (text : List ℕ) → IsUtf8 text → Spells (spelling text) text

-- a word spells at most one text
abbrev pub WordsSpellOneText : Type 0
WordsSpellOneText = (word text other : List ℕ) → Spells word text → Spells word other → text ≡ other
