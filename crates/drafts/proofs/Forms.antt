-- The forms of a usage stand in its lines.
use Rattle.std.proofs.Common.{◌≡◌, ℕ, ◌-◌, Bool, true, false, cond, List, bytes_eq, codes, drop, length, take, refl}
use Rattle.std.specs.Prelude.{◌==◌}
use Rattle.std.specs.List.{prefix_len, slice_index}
use Rattle.std.specs.Char.{is_ascii_alphabetic}
use Rattle.std.specs.Str.{IsCharBoundary, IsUtf8, trim}
use Rattle.std.proofs.lemmas.Bool.{eqb-true}
use Rattle.std.proofs.lemmas.Str.{IsUtf8-drop}
use Rattle.help_fronts.specs.Laws.{IsTextOf}
use Rattle.help_fronts.proofs.Texts.{dropped, itself, taken, within}
use Rattle.drafts.specs.Seen.{last, without_colon}
use Rattle.drafts.specs.Texts.{first_word}
use Rattle.drafts.specs.Usages.{FormSaid, after, after_colon, after_of, after_word, first_form, form, form_in, further_form, has_or, last_part}
use Rattle.drafts.specs.Laws.{FormsStandInTheirLine, IsFormOf}
use Rattle.drafts.proofs.Boundaries.{after_letters}
use Rattle.drafts.proofs.Cuts.{colon_cut, of_cut, or_cut}
use Rattle.drafts.proofs.Trims.{trimmed}

-- a text of a line, in UTF-8
record IsUtf8TextOf (line text : List ℕ) : Type 0 where
  stands : IsTextOf line text
  utf8 : IsUtf8 text

abbrev Keeps : (f : List ℕ → List ℕ) → Type 0
Keeps f = (text : List ℕ) → IsUtf8 text → IsUtf8TextOf text (f text)

then : (f g : List ℕ → List ℕ) → Keeps f → Keeps g → Keeps (λ text. g (f text))
then f g first second text utf8 =
    let one = first text utf8 in
    let two = second (f text) one.utf8 in
    record { stands = within text (f text) (g (f text)) one.stands two.stands; utf8 = two.utf8 }

trim_keeps : Keeps trim
trim_keeps text utf8 = record { stands = (trimmed text utf8).stands; utf8 = (trimmed text utf8).utf8 }

same_keeps : (text : List ℕ) → IsUtf8 text → IsUtf8TextOf text text
same_keeps text utf8 = record { stands = itself text; utf8 = utf8 }

after_keeps : (n : ℕ) (text : List ℕ) → IsUtf8 text → IsCharBoundary text n → IsUtf8TextOf text (after n text)
after_keeps n text utf8 cut =
    let trims = trimmed (drop n text) (IsUtf8-drop text n utf8 cut) in
    record { stands = within text (drop n text) (after n text) (dropped n text) trims.stands; utf8 = trims.utf8 }

word_keeps : Keeps after_word
word_keeps text utf8 = after_keeps (prefix_len is_ascii_alphabetic text) text utf8 (after_letters text (prefix_len is_ascii_alphabetic text) refl utf8)

colon_keeps : Keeps after_colon
colon_keeps text utf8 = by (slice_index text 0 == 58) refl where
  by : (t : Bool) → (slice_index text 0 == 58) ≡ t → IsUtf8TextOf text (cond t (after 1 text) text)
  by true e = after_keeps 1 text utf8 (colon_cut text (eqb-true (slice_index text 0) 58 e) utf8)
  by false e = same_keeps text utf8

without_colon_stands : (text : List ℕ) → IsTextOf text (without_colon text)
without_colon_stands text = by (last text == 58) where
  by : (t : Bool) → IsTextOf text (cond t (take (length text - 1) text) text)
  by true = taken (length text - 1) text
  by false = itself text

of_stands : (text : List ℕ) → IsUtf8 text → IsTextOf text (after_of text)
of_stands text utf8 = by (bytes_eq (take 3 text) (codes "of ")) refl where
  by : (t : Bool) → bytes_eq (take 3 text) (codes "of ") ≡ t → IsTextOf text (cond t (without_colon (after 3 text)) text)
  by true e = within text (after 3 text) (without_colon (after 3 text)) (after_keeps 3 text utf8 (of_cut text e utf8)).stands (without_colon_stands (after 3 text))
  by false e = itself text

first_stands : (line : List ℕ) → IsUtf8 line → IsTextOf line (first_form line).text
first_stands line utf8 =
    let front = then (λ text. after_word (trim text)) after_colon (then trim after_word trim_keeps word_keeps) colon_keeps line utf8 in
    let said = after_colon (after_word (trim line)) in
    within line said (after_of said) front.stands (of_stands said front.utf8)

form_stands : (text : List ℕ) → IsUtf8 text → IsTextOf text (form_in text).text
form_stands text utf8 = by (has_or text) refl where
  by : (t : Bool) → has_or text ≡ t → IsTextOf text (let f : FormSaid = cond t (form true (after 3 text)) (form false text) in f.text)
  by true e = (after_keeps 3 text utf8 (or_cut text e utf8)).stands
  by false e = itself text

further_stands : (line : List ℕ) → IsUtf8 line → IsTextOf line (further_form line).text
further_stands line utf8 =
    let trims = trimmed line utf8 in
    within line (trim line) (form_in (trim line)).text trims.stands (form_stands (trim line) trims.utf8)

-- and so does the name in it
with_name : (line : List ℕ) (f : FormSaid) → IsTextOf line f.text → IsFormOf line f
with_name line f h =
    let word = first_word f.text in
    record {
      text = h;
      name = within line word (last_part word) (within line f.text word h (taken _ f.text)) (dropped _ word);
    }

pub forms_stand_in_their_line : FormsStandInTheirLine
forms_stand_in_their_line line utf8 = (with_name line (first_form line) (first_stands line utf8), with_name line (further_form line) (further_stands line utf8))
