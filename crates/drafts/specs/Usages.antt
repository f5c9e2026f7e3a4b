-- The forms of a usage, and the program's name.
use Rattle.std.specs.Prelude.{ℕ, ◌-◌, ◌==◌, ◌||◌, ◌&&◌, Bool, true, false, not, List, [], ◌∷◌, bytes_eq, codes, drop, filter, flat_map, if◌then◌else◌, length, map, nat_lt, take, Option, None, Some}
use Rattle.std.specs.Char.{is_ascii_alphabetic, to_ascii_lowercase}
use Rattle.std.specs.List.{list_any, prefix_len, slice_index, suffix_len}
use Rattle.std.specs.Str.{trim}
use Rattle.toml_pieces.specs.declared.toml.Lead.TheVariants as lead
use Rattle.toml_pieces.specs.Toml.{Piece, piece}
use Rattle.drafts.specs.Seen.{is_name, is_twice_read, without_colon}
use Rattle.drafts.specs.Texts.{first_word}
use Rattle.drafts.specs.Places.{PlacedSaid, is_usage_role}

-- what a line says, and whether `usage` or `or:` stands before it
pub record FormSaid : Type 0 where
  pub is_marked : Bool
  pub text : List ℕ

abbrev pub form : Bool → List ℕ → FormSaid
form m text = record { is_marked = m; text = text }

-- the text after its first n bytes, trimmed
abbrev pub after : ℕ → List ℕ → List ℕ
after n text = trim (drop n text)

abbrev pub after_colon : List ℕ → List ℕ
after_colon text = if slice_index text 0 == 58 then after 1 text else text

-- after the letters that a text begins with
abbrev pub after_word : List ℕ → List ℕ
after_word text = after (prefix_len is_ascii_alphabetic text) text

-- after `of`, as in `Usage of ./tool:`, where a colon ends the form
abbrev pub after_of : List ℕ → List ℕ
after_of text = if bytes_eq (take 3 text) (codes "of ") then without_colon (after 3 text) else text

-- after the word `usage`
abbrev pub first_form : (line : List ℕ) → FormSaid
first_form line = form true (after_of (after_colon (after_word (trim line))))

-- `or:` in letters of any case
abbrev pub has_or : List ℕ → Bool
has_or text =
    to_ascii_lowercase (slice_index text 0) == 111
    && (to_ascii_lowercase (slice_index text 1) == 114 && slice_index text 2 == 58)

abbrev pub form_in : (text : List ℕ) → FormSaid
form_in text = if has_or text then form true (after 3 text) else form false text

abbrev pub further_form : (line : List ℕ) → FormSaid
further_form line = form_in (trim line)

abbrev pub line_forms : (lines : List (List ℕ)) → List FormSaid
line_forms [] = []
line_forms (l ∷ ls) = first_form l ∷ map further_form ls

-- a form with letters
abbrev pub is_inked : FormSaid → Bool
is_inked f = nat_lt 0 (length f.text)

abbrev pub placed_forms : PlacedSaid → List FormSaid
placed_forms p = if is_usage_role p.role then filter is_inked (line_forms p.passage.lines) else []

abbrev pub forms : List PlacedSaid → List FormSaid
forms ps = flat_map placed_forms ps

-- ---- words

-- the first word of the first form, which begins each other
abbrev pub mark : List FormSaid → List ℕ
mark [] = []
mark (f ∷ fs) = first_word f.text

abbrev pub is_new : (mark : List ℕ) → FormSaid → Bool
is_new m f = f.is_marked || bytes_eq (first_word f.text) m

-- a line that begins no form goes on with the one above
abbrev pub form_piece : (mark : List ℕ) → FormSaid → Piece
form_piece m f = piece (if is_new m f then lead.Line else lead.Joined) f.text

abbrev pub usage_pieces : List FormSaid → List Piece
usage_pieces fs = map (form_piece (mark fs)) fs

-- ---- the program's name

abbrev pub is_no_slash : ℕ → Bool
is_no_slash b = not (b == 47)

-- what stands after the last `/`
abbrev pub last_part : List ℕ → List ℕ
last_part text = drop (length text - suffix_len is_no_slash text) text

abbrev pub is_program_name : List ℕ → Bool
is_program_name name = is_name name && not (list_any is_twice_read name || slice_index name 0 == 45)

abbrev pub name_in_usage : List FormSaid → Option (List ℕ)
name_in_usage fs = if is_program_name (last_part (mark fs)) then Some (last_part (mark fs)) else None

-- the name that is given, if a program may have it; where none is, that of the usage
abbrev pub program_name : (given : Option (List ℕ)) → List FormSaid → Option (List ℕ)
program_name None fs = name_in_usage fs
program_name (Some name) fs = if is_program_name name then Some name else None
