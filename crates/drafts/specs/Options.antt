-- How an option is written: by `short`, `long` and `value`, or else by `syntax`.
use Rattle.std.specs.Prelude.{ℕ, ◌+◌, ◌==◌, ◌||◌, ◌&&◌, Bool, true, false, not, List, [], ◌∷◌, ◌++◌, bytes_eq, codes, drop, flat_map, fold, if◌then◌else◌, length, nat_le, nat_lt, take, Option, None, Some}
use Rattle.std.specs.List.{list_all, list_any, slice_index}
use Rattle.help_fronts.specs.Bytes.{is_bracket, is_dash, is_opening}
use Rattle.help_fronts.specs.Fronts.{FrontSaid, first_value, is_value_optional}
use Rattle.toml_pieces.specs.Toml.{escaped, optional_at}
use Rattle.drafts.specs.Seen.{is_name, is_word, last}
use Rattle.drafts.specs.Notes.{after}

-- ---- names

abbrev pub is_dashed : (name : List ℕ) → Bool
is_dashed n = is_dash (slice_index n 0) && is_dash (slice_index n 1)

-- a dash and one byte
abbrev pub is_short : (name : List ℕ) → Bool
is_short n = is_dash (slice_index n 0) && (length n == 2 && not (is_dash (slice_index n 1)))

-- two dashes and a name without brackets
abbrev pub is_long : (name : List ℕ) → Bool
is_long n = (is_dashed n && nat_lt 2 (length n)) && not (list_any is_bracket n)

-- a short name without its dash, and a long one without its two
abbrev pub letter_of : (name : List ℕ) → Option (List ℕ)
letter_of n = if is_short n then Some (drop 1 n) else None

abbrev pub word_of : (name : List ℕ) → Option (List ℕ)
word_of n = if is_long n then Some (drop 2 n) else None

abbrev pub either : Option (List ℕ) → Option (List ℕ) → Option (List ℕ)
either None other = other
either (Some text) other = Some text

-- the first of them
abbrev pub short_letter : (names : List (List ℕ)) → Option (List ℕ)
short_letter [] = None
short_letter (n ∷ ns) = either (letter_of n) (short_letter ns)

abbrev pub long_word : (names : List (List ℕ)) → Option (List ℕ)
long_word [] = None
long_word (n ∷ ns) = either (word_of n) (long_word ns)

abbrev pub count : Option (List ℕ) → ℕ
count None = 0
count (Some name) = 1

-- one short name at most, one long name at most, and no others
abbrev pub are_plain : (names : List (List ℕ)) → Bool
are_plain names = length names == count (short_letter names) + count (long_word names)

-- no choice in braces, and not repeated
abbrev pub is_plain_value : (value : List ℕ) → Bool
is_plain_value v = not (slice_index v 0 == 123) && not (last v == 46)

-- after a blank or `=`
abbrev pub is_plain_joint : ℕ → Bool
is_plain_joint j = j == 32 || j == 61

abbrev pub is_plain_word : (word : Option (List ℕ)) → Bool
is_plain_word None = true
is_plain_word (Some word) = not (list_any is_bracket word)

-- and at most one value, which is not optional, and a word without brackets
abbrev pub has_plain_value : FrontSaid → Bool
has_plain_value f =
    (nat_le (length f.values) 1 && list_all is_plain_value f.values)
    && (is_plain_joint f.joint && (is_plain_word f.value && not f.is_optional))

abbrev pub is_plain : FrontSaid → Bool
is_plain f = are_plain f.names && has_plain_value f

-- ---- the syntax: the names, and what is said of values, as it stands

-- `=` and `:` stay, nothing is before a bracket directly after a name, and else a blank
abbrev pub joint_text : (joint : ℕ) → List ℕ
joint_text j =
    if j == 61 then codes "="
    else if j == 58 then codes ":"
    else if is_opening j then []
    else codes " "

abbrev pub is_way_mark : ℕ → Bool
is_way_mark b = b == 44 || b == 124

-- what would be a name, or several ways, outside brackets
abbrev pub is_loose : (value : List ℕ) → Bool
is_loose v = not (is_opening (slice_index v 0)) && (is_dash (slice_index v 0) || list_any is_way_mark v)

abbrev pub shown_value : (value : List ℕ) → List ℕ
shown_value v = if is_loose v then codes "<" ++ (escaped v ++ codes ">") else escaped v

abbrev pub further_value : (value : List ℕ) → List ℕ
further_value v = codes " " ++ shown_value v

abbrev pub values_syntax : (joint : ℕ) → (values : List (List ℕ)) → List ℕ
values_syntax j [] = []
values_syntax j (v ∷ vs) = joint_text j ++ (shown_value v ++ flat_map further_value vs)

-- an optional value that has no brackets gets them
abbrev pub lacks_brackets : FrontSaid → Bool
lacks_brackets f = f.is_optional && not (is_value_optional (first_value f.values))

abbrev pub in_brackets_if : Bool → (text : List ℕ) → List ℕ
in_brackets_if false text = text
in_brackets_if true text = codes "[" ++ (text ++ codes "]")

abbrev pub shown_values : FrontSaid → List ℕ
shown_values f = in_brackets_if (lacks_brackets f) (values_syntax f.joint f.values)

abbrev pub further_name : (name : List ℕ) → List ℕ
further_name n = codes ", " ++ escaped n

abbrev pub names_syntax : (names : List (List ℕ)) → List ℕ
names_syntax [] = []
names_syntax (n ∷ ns) = escaped n ++ flat_map further_name ns

abbrev pub after_in : (beginning : List ℕ) → Option (List ℕ) → Option (List ℕ)
after_in beginning None = None
after_in beginning (Some text) = after beginning text

abbrev pub is_text : (text : List ℕ) → Option (List ℕ) → Bool
is_text text None = false
is_text text (Some found) = bytes_eq found text

-- from one name to another, as `-0 ... -9`
abbrev pub is_range_of : (first last written : List ℕ) → Bool
is_range_of a b w = is_text b (after_in (codes " ... ") (after a w))

abbrev pub is_range : (names : List (List ℕ)) → (written : List ℕ) → Bool
is_range (a ∷ b ∷ []) w = is_range_of a b w
is_range _ w = false

-- a range as it stands
abbrev pub shown_names : FrontSaid → List ℕ
shown_names f = if is_range f.names f.written then escaped f.written else names_syntax f.names

-- ---- the keys of an option

abbrev pub plain_spelling : (names : List (List ℕ)) → (value : Option (List ℕ)) → List ℕ
plain_spelling names value =
    optional_at (codes "short") (short_letter names)
    ++ (optional_at (codes "long") (long_word names) ++ optional_at (codes "value") value)

abbrev pub syntax_spelling : FrontSaid → List ℕ
syntax_spelling f =
    codes "syntax = \""
    ++ (shown_names f ++ (shown_values f ++ codes "\"\n"))

abbrev pub spelling : FrontSaid → List ℕ
spelling f = if is_plain f then plain_spelling f.names f.value else syntax_spelling f

-- ---- what may be written

-- two brackets of one kind
abbrev pub closes : (opening closing : ℕ) → Bool
closes o c = ((o == 91 && c == 93) || (o == 40 && c == 41)) || ((o == 60 && c == 62) || (o == 123 && c == 125))

-- the brackets left over, the last one first: one takes away the opening one of
-- its kind that is left directly before it
abbrev pub with_bracket : (left : List ℕ) → ℕ → List ℕ
with_bracket [] b = b ∷ []
with_bracket (o ∷ os) b = if closes o b then os else b ∷ o ∷ os

abbrev pub with_byte : (left : List ℕ) → ℕ → List ℕ
with_byte left b = if is_bracket b then with_bracket left b else left

-- a letter that is no blank, and not another comma
abbrev pub goes_on : ℕ → Bool
goes_on b = nat_lt 32 b && not (b == 44)

-- directly after each comma something stands that is no blank and no comma
abbrev pub has_full_parts : List ℕ → Bool
has_full_parts [] = true
has_full_parts (b ∷ bs) = (not (b == 44) || goes_on (slice_index bs 0)) && has_full_parts bs

-- each bracket is in a pair
abbrev pub are_paired : List ℕ → Bool
are_paired text = length (fold with_byte [] text) == 0

abbrev pub is_syntax_part : List ℕ → Bool
is_syntax_part text = are_paired text && has_full_parts text

abbrev pub is_syntax_good : FrontSaid → Bool
is_syntax_good f = list_all is_syntax_part f.names && list_all is_syntax_part f.values

-- names and values of letters that are seen, and in a syntax brackets in pairs
abbrev pub is_good : FrontSaid → Bool
is_good f = (list_all is_name f.names && list_all is_word f.values) && (is_plain f || is_syntax_good f)

-- ---- the part of a name that no other option of its level may have

-- `--[no-]` and two letters or more
abbrev pub has_negation : (name : List ℕ) → Bool
has_negation n = bytes_eq (take 7 n) (codes "--[no-]") && nat_lt 8 (length n)

-- that of one letter keeps a dash, so that `-x` and `--x` have different keys
abbrev pub long_key : (name : List ℕ) → List ℕ
long_key n = if length n == 3 then drop 1 n else drop 2 n

abbrev pub short_key : (name : List ℕ) → List ℕ
short_key n = if length n == 2 then drop 1 n else n

-- a long name without its dashes, also of `--[no-]`; a short one without its dash
abbrev pub key : (name : List ℕ) → List ℕ
key n = if has_negation n then drop 7 n else if is_dashed n then long_key n else short_key n
