-- Which names, words and titles a draft takes: those in characters that are known to be seen. Others stay comments.
use Rattle.std.specs.Prelude.{ℕ, ◌-◌, ◌==◌, ◌||◌, ◌&&◌, Bool, not, List, [], ◌∷◌, bytes_eq, chars, codes, if◌then◌else◌, length, map, nat_le, nat_lt, take}
use Rattle.std.specs.Char.{to_ascii_lowercase}
use Rattle.std.specs.Int.{is_in_range}
use Rattle.std.specs.List.{list_all, list_any, slice_index}
use Rattle.std.specs.Str.{trim, trim_end}

-- ASCII, letters of Latin, Greek, Cyrillic, Hebrew and Chinese, Japanese and Korean, dashes, quotation marks, signs
abbrev pub is_seen : ℕ → Bool
is_seen c =
    ((is_in_range 32 126 c || is_in_range 0xA1 0xAC c) || (is_in_range 0xAE 0x34E c || is_in_range 0x350 0x61B c))
    || ((is_in_range 0x2010 0x2027 c || is_in_range 0x20A0 0x27FF c)
    || (is_in_range 0x3041 0x3163 c || is_in_range 0x3165 0xD7FF c))

abbrev pub is_name_letter : ℕ → Bool
is_name_letter c = is_seen c && not (c == 32 || c == 61)

abbrev pub is_word : List ℕ → Bool
is_word text = list_all is_seen (chars text) && nat_lt 0 (length text)

abbrev pub is_name : List ℕ → Bool
is_name text = list_all is_name_letter (chars text) && (nat_lt 0 (length text) && nat_le (length text) 200)

-- ---- titles

abbrev pub last : List ℕ → ℕ
last text = slice_index text (length text - 1)

abbrev pub without_colon : List ℕ → List ℕ
without_colon text = if last text == 58 then take (length text - 1) text else text

-- a title as it stands in its line, without a colon at its end
abbrev pub title_text : (line : List ℕ) → List ℕ
title_text line = trim_end (without_colon (trim line))

-- `"` and `\`
abbrev pub is_twice_read : ℕ → Bool
is_twice_read b = b == 34 || b == 92

-- a title that a table may have, and no sentence
abbrev pub is_heading : (title : List ℕ) → Bool
is_heading title =
    is_word title && (not (list_any is_twice_read title) && (not (slice_index title 0 == 58) && not (last title == 46)))

abbrev pub usual_titles : List (List ℕ)
usual_titles =
    codes "options" ∷ codes "optional arguments" ∷ codes "arguments" ∷ codes "positional arguments"
    ∷ codes "commands" ∷ codes "subcommands" ∷ codes "flags" ∷ []

abbrev pub is_same_word : (title word : List ℕ) → Bool
is_same_word title word = bytes_eq (map to_ascii_lowercase title) (map to_ascii_lowercase word)

-- one that pages have of themselves, in letters of any case
abbrev pub is_usual : (title : List ℕ) → Bool
is_usual title = list_any (is_same_word title) usual_titles
