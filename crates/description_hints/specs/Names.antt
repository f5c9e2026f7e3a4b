-- The words that the options of a description are called by, and texts that look like an option.
use Rattle.std.specs.Prelude.{ℕ, Bool, false, not, ◌&&◌, ◌||◌, ◌==◌, List, [], ◌∷◌, ◌++◌, codes, drop, length, map, flat_map, bytes_eq, if◌then◌else◌}
use Rattle.std.specs.Char.{encode_utf8, is_ascii_alphabetic, is_ascii_alphanumeric}
use Rattle.std.specs.List.{before_first, list_all, list_any, prefix_len, slice_split, starts_with}
use Rattle.description.specs.Content.{NameSaid, short, long, both, SpellingSaid, named, syntax, OptSaid, ChoiceSaid, LevelSaid, level, GroupSaid, group}
use Rattle.description_usage.specs.Usage.{group_list}
use Rattle.description_hints.specs.Content.{PartSaid, application_part, option_part, positional_part, command_part, text_part, usage_part, SiteSaid}

-- ---- bytes

-- [ ] ( ) < > { }
abbrev pub is_bracket : ℕ → Bool
is_bracket b = ((b == 91 || b == 93) || (b == 40 || b == 41)) || ((b == 60 || b == 62) || (b == 123 || b == 125))

-- what separates the words of a syntax: a bracket, a blank, a comma, a bar or `=`
abbrev pub is_separator : ℕ → Bool
is_separator b = is_bracket b || ((b == 32 || b == 44) || (b == 124 || b == 61))

abbrev pub is_dash : ℕ → Bool
is_dash b = b == 45

abbrev pub is_equals : ℕ → Bool
is_equals b = b == 61

-- ASCII letters, digits and `-`
abbrev pub is_word_byte : ℕ → Bool
is_word_byte b = is_ascii_alphanumeric b || is_dash b

-- the first byte passes the test
abbrev pub begins : (ℕ → Bool) → List ℕ → Bool
begins test [] = false
begins test (b ∷ bs) = test b

-- ---- the words of options, without the dashes at their front

abbrev pub without_dashes : List ℕ → List ℕ
without_dashes word = drop (prefix_len is_dash word) word

abbrev pub name_words : NameSaid → List (List ℕ)
name_words (short c) = encode_utf8 c ∷ []
name_words (long word) = word ∷ []
name_words (both c word) = encode_utf8 c ∷ word ∷ []

-- of a syntax all that stands between separators, whether it is a name or not
abbrev pub syntax_words : List ℕ → List (List ℕ)
syntax_words text = map without_dashes (slice_split is_separator text)

abbrev pub spelling_words : SpellingSaid → List (List ℕ)
spelling_words (named name) = name_words name
spelling_words (syntax text) = syntax_words text

abbrev pub part_words : PartSaid → List (List ℕ)
part_words (application_part about) = []
part_words (option_part o standing) = spelling_words o.spelling
part_words (positional_part p) = []
part_words (command_part hidden help about) = []
part_words (text_part said) = []
part_words (usage_part text own) = []

abbrev pub site_words : SiteSaid → List (List ℕ)
site_words s = part_words s.part

abbrev pub known_words : List SiteSaid → List (List ℕ)
known_words sites = flat_map site_words sites

-- those of some options, and of all that stand on a level, with its choices and groups
abbrev pub options_words : List OptSaid → List (List ℕ)
options_words os = flat_map (λ o. spelling_words o.spelling) os

abbrev pub choices_words : List ChoiceSaid → List (List ℕ)
choices_words cs = flat_map (λ c. options_words c.options) cs

abbrev pub group_words : GroupSaid → List (List ℕ)
group_words (group title os cs ps ms) = options_words os ++ choices_words cs

abbrev pub level_words : LevelSaid → List (List ℕ)
level_words (level texts required os cs gs ps ms) = (options_words os ++ choices_words cs) ++ flat_map group_words (group_list gs)

abbrev pub is_among : (words : List (List ℕ)) → List ℕ → Bool
is_among words word = list_any (bytes_eq word) words

-- an option may be negated by `--no-` before its word
abbrev pub is_known : (has : List ℕ → Bool) → List ℕ → Bool
is_known has word = has word || (starts_with ◌==◌ word (codes "no-") && has (drop 3 word))

-- ---- what one option is called: its long name, else its short one, with the dashes, or its syntax

abbrev pub called_name : NameSaid → List ℕ
called_name (short c) = codes "-" ++ encode_utf8 c
called_name (long word) = codes "--" ++ word
called_name (both c word) = codes "--" ++ word

abbrev pub called : SpellingSaid → List ℕ
called (named name) = called_name name
called (syntax text) = text

-- ---- the names under which pages show an option, with the dashes; a syntax counts as none

abbrev pub dashed_names : NameSaid → List (List ℕ)
dashed_names (short c) = called_name (short c) ∷ []
dashed_names (long word) = called_name (long word) ∷ []
dashed_names (both c word) = called_name (short c) ∷ called_name (long word) ∷ []

abbrev pub spelled_names : SpellingSaid → List (List ℕ)
spelled_names (named name) = dashed_names name
spelled_names (syntax text) = []

abbrev pub shown_names : OptSaid → List (List ℕ)
shown_names o = if o.hidden then [] else spelled_names o.spelling

abbrev pub options_names : List OptSaid → List (List ℕ)
options_names os = flat_map shown_names os

-- ---- texts that look like an option, as `-x`, `--word` and `--word=VALUE`

abbrev pub is_short_form : List ℕ → Bool
is_short_form name = length name == 2 && (begins is_dash name && begins is_ascii_alphabetic (drop 1 name))

-- a letter, and bytes of words
abbrev pub is_word : List ℕ → Bool
is_word word = begins is_ascii_alphabetic word && list_all is_word_byte word

abbrev pub is_long_form : List ℕ → Bool
is_long_form name = begins is_dash name && (begins is_dash (drop 1 name) && is_word (drop 2 name))

-- what stands before the value
abbrev pub name_in : List ℕ → List ℕ
name_in text = before_first is_equals text

abbrev pub looks_like_option : List ℕ → Bool
looks_like_option text = is_short_form (name_in text) || is_long_form (name_in text)

-- a text that looks like an option, and is called by none of the words that there are
abbrev pub is_no_option : (has : List ℕ → Bool) → List ℕ → Bool
is_no_option has text = looks_like_option text && not (is_known has (without_dashes (name_in text)))
