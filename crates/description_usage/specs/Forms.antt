-- The forms of a text that stands in place of a usage, one per line.
use Rattle.std.specs.Prelude.{ℕ, List, [], ◌∷◌, ◌==◌, codes, drop, filter, flat_map, length, map, take, nat_lt, Bool, not, ◌&&◌, ◌||◌, if◌then◌else◌, bytes_eq, unwrap_or, Option, Some, None, option_and_then}
use Rattle.std.specs.List.{list_all, slice_split}
use Rattle.page_model.specs.Content.{Piece, words, literal, value, link, page, Line, FormSaid}
use Rattle.description_usage.specs.Margins.{without_front, without_margins}
use Rattle.description_usage.specs.Syntax.{begins, is_closing, is_opening, parts, syntax_line}
use Rattle.description.specs.Content.{LevelSaid, level}
use Rattle.description_usage.specs.Usage.{usage_items}
use Rattle.description.specs.Words.{WordsSaid}

-- ---- brackets in no pair

-- two brackets of one kind
abbrev pub closes : (opening closing : ℕ) → Bool
closes o c = ((o == 91 && c == 93) || (o == 40 && c == 41)) || ((o == 60 && c == 62) || (o == 123 && c == 125))

-- the brackets that are open after a byte, the innermost first: a closing one closes the innermost, if that is of its
-- kind
abbrev pub open_after : (opened : List ℕ) → ℕ → List ℕ
open_after [] b = if is_opening b then b ∷ [] else []
open_after (o ∷ os) b = if is_opening b then b ∷ o ∷ os else if closes o b then os else o ∷ os

-- how many are open after each byte
abbrev pub depths : (opened : List ℕ) → List ℕ → List ℕ
depths opened [] = []
depths opened (b ∷ bs) = length (open_after opened b) ∷ depths (open_after opened b) bs

-- an opening bracket where more stay open, up to the end, than before it; a closing one that closes none
abbrev pub is_lone : (opened : List ℕ) → ℕ → (after : List ℕ) → Bool
is_lone opened b after = if is_opening b then list_all (nat_lt (length opened)) (depths (open_after opened b) after) else is_closing b && length (open_after opened b) == length opened

-- what stands for such a bracket while a line is read, a letter that no text has
abbrev pub stand_in : ℕ → ℕ
stand_in b =
    if b == 91 then 1 else if b == 93 then 2 else if b == 40 then 3 else if b == 41 then 4 else if b == 123 then 5 else if b == 125 then 6 else if b == 60 then 7 else if b == 62 then 8 else b

abbrev pub bracket_of : ℕ → ℕ
bracket_of b = if b == 1 then 91 else if b == 2 then 93 else if b == 3 then 40 else if b == 4 then 41 else if b == 5 then 123 else if b == 6 then 125 else if b == 7 then 60 else if b == 8 then 62 else b

abbrev pub is_stand_in : ℕ → Bool
is_stand_in b = nat_lt 0 b && nat_lt b 9

abbrev pub shaped_after : (opened : List ℕ) → List ℕ → List ℕ
shaped_after opened [] = []
shaped_after opened (b ∷ bs) = (if is_lone opened b bs then stand_in b else b) ∷ shaped_after (open_after opened b) bs

-- a line in which brackets in no pair count as letters, and a text of it as it was
abbrev pub shaped : List ℕ → List ℕ
shaped line = shaped_after [] line

abbrev pub restored : List ℕ → List ℕ
restored text = map bracket_of text

abbrev pub restored_piece : Piece → Piece
restored_piece (words text) = words (restored text)
restored_piece (literal text) = literal (restored text)
restored_piece (value text) = value (restored text)
restored_piece (link text) = link (restored text)
restored_piece (page name) = page (restored name)

-- ---- a form

abbrev pub is_empty : List ℕ → Bool
is_empty text = length text == 0

-- the parts that blanks outside brackets separate
abbrev pub line_parts : List ℕ → List (List ℕ)
line_parts line = filter (λ part. not (is_empty part)) (parts 32 line)

abbrev pub part_line : List ℕ → Line
part_line part = map restored_piece (syntax_line part)

-- the first part stands for the names
abbrev pub parts_form : List (List ℕ) → List FormSaid
parts_form [] = []
parts_form (part ∷ others) = record { name = restored part; items = map part_line others } ∷ []

abbrev pub line_form : List ℕ → List FormSaid
line_form line = parts_form (line_parts (shaped line))

-- ---- lines

abbrev pub blank_for_tab : ℕ → ℕ
blank_for_tab b = if b == 9 then 32 else b

abbrev pub untabbed : List ℕ → List ℕ
untabbed text = map blank_for_tab text

-- after a colon, where a blank or nothing follows it: the text without these blanks
abbrev pub after_colon : List ℕ → Option (List ℕ)
after_colon [] = None
after_colon (b ∷ bs) = if b == 58 && (is_empty bs || begins (λ c. c == 32) bs) then Some (without_front bs) else None

abbrev pub after_word : (word : List ℕ) → List ℕ → Option (List ℕ)
after_word word line = if bytes_eq (take (length word) line) word then Some (drop (length word) line) else None

-- without a word at its front that such a colon follows
abbrev pub without_lead : (word : List ℕ) → List ℕ → List ℕ
without_lead word line = unwrap_or (option_and_then after_colon (after_word word line)) line

abbrev pub form_text : (word : List ℕ) → List ℕ → List ℕ
form_text word line = without_lead word (without_lead (codes "Usage") (without_margins line))

-- what a line of the text says: a form, or nothing
abbrev pub line_forms : WordsSaid → List ℕ → List FormSaid
line_forms fixed line = line_form (form_text fixed.usage line)

abbrev pub text_forms : WordsSaid → List ℕ → List FormSaid
text_forms fixed text = flat_map (line_forms fixed) (slice_split (λ b. b == 10) (untabbed text))

-- ---- the level

abbrev pub level_text : LevelSaid → Option (List ℕ)
level_text (level texts required os cs gs ps ms) = texts.usage

abbrev pub given_forms : WordsSaid → (text : Option (List ℕ)) → (own : FormSaid) → List FormSaid
given_forms fixed None own = own ∷ []
given_forms fixed (Some text) own = text_forms fixed text

-- the text of a level in place of its usage; else one form, of the names that lead there and its items
abbrev pub usage_forms : WordsSaid → (names : List ℕ) → LevelSaid → List FormSaid
usage_forms fixed names l = given_forms fixed (level_text l) (record { name = names; items = usage_items fixed l })
