-- The texts and the names that a description may hold: the characters that stand in them, and the form that they have.
use Rattle.std.specs.Prelude.{chars, ℕ, List, [], ◌∷◌, ◌==◌, ◌%◌, length, take, Bool, false, not, ◌&&◌, ◌||◌, if◌then◌else◌, nat_lt, Option, Some, None, option_and_then, nat_le}
use Rattle.std.specs.Char.{is_ascii_alphanumeric, is_ascii_digit, is_control, is_whitespace}
use Rattle.std.specs.Int.{is_in_range}
use Rattle.std.specs.List.{list_all}
use Rattle.std.specs.Str.{trim_end}
use Rattle.toml.specs.Data.{Data, as_str}
use Rattle.unicode.specs.Binary.{is_variation_selector}
use Rattle.shown_words.specs.Hidden.{is_unseen}
use Rattle.description_texts.specs.Texts.{is_empty}

-- ---- characters

-- a noncharacter of Unicode: U+FDD0 to U+FDEF, and the last two code points of each plane
abbrev pub is_noncharacter : ℕ → Bool
is_noncharacter c = is_in_range 0xFDD0 0xFDEF c || nat_lt 0xFFFD (c % 0x1_0000)

-- of what stands on one line
abbrev pub is_line_character : ℕ → Bool
is_line_character c = not (is_control c) && not (is_noncharacter c)

-- of a text, which may have newlines and tabs too
abbrev pub is_text_character : ℕ → Bool
is_text_character c = (c == 10 || c == 9) || is_line_character c

-- what joins letters of some scripts or separates them, gives the direction of a letter beside it, U+200C to U+200F, or
-- says which form of a sign is meant, as of an emoji
abbrev pub is_joiner : ℕ → Bool
is_joiner c = is_in_range 0x200C 0x200F c || is_variation_selector c

-- any other character of which nothing is seen where it stands
abbrev pub is_hidden : ℕ → Bool
is_hidden c = is_unseen c && not (is_joiner c)

-- of a word that stands for something, or above something: what is there is seen
abbrev pub is_word_character : ℕ → Bool
is_word_character c = not (is_hidden c) && is_line_character c

-- of a name: no white space and no `=`
abbrev pub is_name_character : ℕ → Bool
is_name_character c = not (is_whitespace c || c == 61) && (not (is_joiner c) && is_word_character c)

-- a short name is not `-`
abbrev pub is_short : ℕ → Bool
is_short c = not (c == 45) && is_name_character c

-- ---- the form of texts

abbrev pub is_empty_text : List ℕ → Bool
is_empty_text text = length text == 0

-- the first of a list passes the test
abbrev pub begins : (ℕ → Bool) → List ℕ → Bool
begins test [] = false
begins test (b ∷ bs) = test b

-- the last of a list passes the test
abbrev pub ends : (ℕ → Bool) → List ℕ → Bool
ends test [] = false
ends test (b ∷ []) = test b
ends test (b ∷ c ∷ bs) = ends test (c ∷ bs)

abbrev pub is_dash : ℕ → Bool
is_dash b = b == 45

-- a byte that a macro of roff may safely read a second time: no backslash and no double quote
abbrev pub is_read_once : ℕ → Bool
is_read_once b = not (b == 92 || b == 34)

-- white space in front or at the end
abbrev pub has_blank_end : List ℕ → Bool
has_blank_end text = begins is_whitespace (chars text) || ends is_whitespace (chars text)

-- the text without the colon at its end
abbrev pub before_colon : List ℕ → List ℕ
before_colon [] = []
before_colon (b ∷ []) = if b == 58 then [] else b ∷ []
before_colon (b ∷ c ∷ text) = b ∷ before_colon (c ∷ text)

-- and without the white space in front of that
abbrev pub without_colon : List ℕ → List ℕ
without_colon text = take (length (trim_end (before_colon text))) text

-- a digit, `n` or `l`
abbrev pub begins_a_section : ℕ → Bool
begins_a_section b = is_ascii_digit b || (b == 110 || b == 108)

-- an ASCII letter or digit, or `-`
abbrev pub is_language_byte : ℕ → Bool
is_language_byte b = is_ascii_alphanumeric b || is_dash b

-- ---- kinds of texts

abbrev pub is_text : List ℕ → Bool
is_text text = list_all is_text_character (chars text)

-- a text that has a block
abbrev pub has_block : List ℕ → Bool
has_block text = not (is_empty text)

-- the text of a topic
abbrev pub is_body : List ℕ → Bool
is_body text = is_text text && has_block text

-- a text on one line, which may be empty
abbrev pub is_line : List ℕ → Bool
is_line text = list_all is_line_character (chars text)

-- the word for a value
abbrev pub is_value : List ℕ → Bool
is_value text = list_all is_word_character (chars text) && not (is_empty_text text)

-- a word of the title line of a manual page
abbrev pub is_title : List ℕ → Bool
is_title text = list_all is_word_character (chars text) && list_all is_read_once text

-- a title that stands on a page, of a group or of a topic, or a fixed word
abbrev pub is_heading : List ℕ → Bool
is_heading text = is_title text && (not (has_blank_end text) && not (is_empty_text (without_colon text)))

-- a section of the manual: a digit, `n` or `l`, followed by ASCII letters and digits
abbrev pub is_section : List ℕ → Bool
is_section text = list_all is_line_character (chars text) && (list_all is_ascii_alphanumeric text && begins begins_a_section text)

-- the tag of a language
abbrev pub is_language_tag : List ℕ → Bool
is_language_tag text = list_all is_line_character (chars text) && (not (is_empty_text text) && list_all is_language_byte text)

-- not empty, and no more than 200 bytes
abbrev pub has_name_size : List ℕ → Bool
has_name_size text = not (is_empty_text text) && nat_le (length text) 200

-- the name of an environment variable
abbrev pub is_name : List ℕ → Bool
is_name text = list_all is_name_character (chars text) && has_name_size text

-- a long name
abbrev pub is_long : List ℕ → Bool
is_long text = is_name text && not (begins is_dash text)

-- of the program or of a command
abbrev pub is_command_name : List ℕ → Bool
is_command_name text = is_long text && list_all is_read_once text

-- ---- data that is a text of a kind

-- the text, if it passes the test
abbrev pub if_passes : (List ℕ → Bool) → List ℕ → Option (List ℕ)
if_passes test text = if test text then Some text else None

abbrev pub as_text_of : (List ℕ → Bool) → Data → Option (List ℕ)
as_text_of test d = option_and_then (if_passes test) (as_str d)

abbrev pub as_text : Data → Option (List ℕ)
as_text = as_text_of is_text

abbrev pub as_body : Data → Option (List ℕ)
as_body = as_text_of is_body

abbrev pub as_value : Data → Option (List ℕ)
as_value = as_text_of is_value

abbrev pub as_title : Data → Option (List ℕ)
as_title = as_text_of is_title

abbrev pub as_heading : Data → Option (List ℕ)
as_heading = as_text_of is_heading

abbrev pub as_language : Data → Option (List ℕ)
as_language = as_text_of is_language_tag

abbrev pub as_name : Data → Option (List ℕ)
as_name = as_text_of is_name

abbrev pub as_long : Data → Option (List ℕ)
as_long = as_text_of is_long

abbrev pub as_command_name : Data → Option (List ℕ)
as_command_name = as_text_of is_command_name
