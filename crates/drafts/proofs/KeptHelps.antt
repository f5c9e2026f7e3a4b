-- Pieces of a help have all letters of its lines.
use Rattle.std.proofs.Common.{◌≡◌, ℕ, zero, suc, ◌+◌, ◌<◌, ◌≤◌, Bool, true, false, cond, ◌⊎◌, inl, inr, List, [], ◌∷◌, ◌++◌, All, codes, drop, filter, flat_map, get_or, length, map, take, refl, sym, ap, ◌∙◌, subst, arith}
use Rattle.std.specs.Prelude.{◌==◌, chars}
use Rattle.std.specs.Char.{is_not_whitespace}
use Rattle.std.specs.List.{position_or_len, slice_split}
use Rattle.std.specs.Str.{IsUtf8, trim}
use Rattle.std.proofs.lemmas.Bool.{cases_lt, eqb-true}
use Rattle.std.proofs.lemmas.List.{append-nil, length-drop, nil_from_length}
use Rattle.std.proofs.lemmas.List.Elements.{filter-append, All-cons, All-head, All-nil, All-tail}
use Rattle.std.proofs.lemmas.List.Splits.{slice_split_first, slice_split_none}
use Rattle.std.proofs.lemmas.List.Sums.{fails_before_first, passes_at_first, split_at_first}
use Rattle.std.proofs.lemmas.Str.Ascii.{IsAscii-cons, IsAscii-nil}
use Rattle.std.proofs.lemmas.Str.{IsCharBoundary-after_ascii, IsCharBoundary-before_ascii, IsUtf8-append, IsUtf8-drop, IsUtf8-from_ascii, IsUtf8-nil, IsUtf8-take, chars-append, chars-IsAscii, chars-nil}
use Rattle.toml_pieces.specs.declared.toml.Lead.TheVariants as lead
use Rattle.drafts.specs.Notes.{joined, joined_line, pieces_in}
use Rattle.drafts.specs.Texts.{prose_piece}
use Rattle.drafts.specs.Laws.{HelpsAreWhole, letters, piece_letters}
use Rattle.drafts.proofs.KeptLetters.{each_line, one_more}
use Rattle.drafts.proofs.Trims.{is_nothing, trimmed}

pub letters_append : (xs ys : List ℕ) → IsUtf8 xs → letters (xs ++ ys) ≡ letters xs ++ letters ys
letters_append xs ys u = ap (filter is_not_whitespace) (chars-append xs ys u) ∙ filter-append is_not_whitespace (chars xs) (chars ys)

byte_utf8 : (b : ℕ) → b < 128 → IsUtf8 (b ∷ [])
byte_utf8 b ascii = IsUtf8-from_ascii (b ∷ []) (IsAscii-cons b [] ascii IsAscii-nil)

-- a newline is no letter
after_newline : (text : List ℕ) → letters (10 ∷ text) ≡ letters text
after_newline text =
    letters_append (10 ∷ []) text (byte_utf8 10 (omega arith)) ∙ ap (λ cs. filter is_not_whitespace cs ++ letters text) (chars-IsAscii (10 ∷ []) (IsAscii-cons 10 [] (omega arith) IsAscii-nil))

-- ---- what is joined

below_utf8 : (b : ℕ) → b < 128 → (ls : List (List ℕ)) → All IsUtf8 ls → IsUtf8 (flat_map (joined_line (b ∷ [])) ls)
below_utf8 b ascii [] u = IsUtf8-nil
below_utf8 b ascii (l ∷ ls) u =
    IsUtf8-append (b ∷ trim l) (flat_map (joined_line (b ∷ [])) ls) (IsUtf8-append (b ∷ []) (trim l) (byte_utf8 b ascii) (trimmed l (All-head IsUtf8 l ls u)).utf8)
    (below_utf8 b ascii ls (All-tail IsUtf8 l ls u))

pub joined_utf8 : (b : ℕ) → b < 128 → (ls : List (List ℕ)) → All IsUtf8 ls → IsUtf8 (joined (b ∷ []) ls)
joined_utf8 b ascii [] u = IsUtf8-nil
joined_utf8 b ascii (l ∷ ls) u =
    IsUtf8-append (trim l) (flat_map (joined_line (b ∷ [])) ls) (trimmed l (All-head IsUtf8 l ls u)).utf8 (below_utf8 b ascii ls (All-tail IsUtf8 l ls u))

below_whole : (ls : List (List ℕ)) → All IsUtf8 ls → letters (flat_map (joined_line (codes "\n")) ls) ≡ flat_map letters ls
below_whole [] u = ap (filter is_not_whitespace) chars-nil
below_whole (l ∷ ls) u =
    let own = trimmed l (All-head IsUtf8 l ls u) in
    let rest = flat_map (joined_line (codes "\n")) ls in
    after_newline (trim l ++ rest) ∙ letters_append (trim l) rest own.utf8
    ∙ one_more (letters (trim l)) (letters l) (letters rest) (flat_map letters ls) own.whole (below_whole ls (All-tail IsUtf8 l ls u))

joined_whole : (ls : List (List ℕ)) → All IsUtf8 ls → letters (joined (codes "\n") ls) ≡ flat_map letters ls
joined_whole [] u = ap (filter is_not_whitespace) chars-nil
joined_whole (l ∷ ls) u =
    let own = trimmed l (All-head IsUtf8 l ls u) in
    let rest = flat_map (joined_line (codes "\n")) ls in
    letters_append (trim l) rest own.utf8
    ∙ one_more (letters (trim l)) (letters l) (letters rest) (flat_map letters ls) own.whole (below_whole ls (All-tail IsUtf8 l ls u))

-- ---- what is split

abbrev is_newline : ℕ → Bool
is_newline b = b == 10

-- parts of a text, in UTF-8 and with all its letters
record ArePartsOf (text : List ℕ) (parts : List (List ℕ)) : Type 0 where
  utf8 : All IsUtf8 parts
  whole : flat_map letters parts ≡ letters text

only_part : (text : List ℕ) → IsUtf8 text → ArePartsOf text (text ∷ [])
only_part text u = record { utf8 = All-cons IsUtf8 text [] u (All-nil IsUtf8); whole = append-nil (letters text) }

-- before a newline, and after it
one_part : (text : List ℕ) (k : ℕ) (parts : List (List ℕ)) → IsUtf8 text → k < length text → get_or text k 0 ≡ 10 → text ≡ take k text ++ (get_or text k 0 ∷ drop (k + 1) text) → (IsUtf8 (drop (k + 1) text) → ArePartsOf (drop (k + 1) text) parts) → ArePartsOf text (take k text ∷ parts)
one_part text k parts u within here split more =
    let front : IsUtf8 (take k text) = IsUtf8-take text k u (IsCharBoundary-before_ascii text k within (omega (arith, here))) in
    let rest = more (IsUtf8-drop text (k + 1) u (IsCharBoundary-after_ascii text k u within (omega (arith, here)))) in
    record {
      utf8 = All-cons IsUtf8 (take k text) parts front rest.utf8;
      whole =
          ap (λ ls. letters (take k text) ++ ls) (rest.whole ∙ sym (after_newline (drop (k + 1) text))) ∙ sym (letters_append (take k text) (10 ∷ drop (k + 1) text) front)
          ∙ ap (λ b. letters (take k text ++ (b ∷ drop (k + 1) text))) (sym here) ∙ ap letters (sym split);
    }

parts_whole : (most : ℕ) (text : List ℕ) → length text < most → IsUtf8 text → ArePartsOf text (slice_split is_newline text)
parts_whole zero text fits u = absurd (omega (arith, fits))
parts_whole (suc most) text fits u = by (cases_lt k (length text)) (λ rest smaller v. parts_whole most rest (omega (arith, fits, smaller)) v) where
  k : ℕ
  k = position_or_len is_newline text

  by : (k < length text) ⊎ (length text ≤ k) → ((rest : List ℕ) → length rest < length text → IsUtf8 rest → ArePartsOf rest (slice_split is_newline rest)) → ArePartsOf text (slice_split is_newline text)
  by (inl within) more =
      subst (ArePartsOf text) (sym (slice_split_first is_newline text 0 within))
      (one_part text k (slice_split is_newline (drop (k + 1) text)) u within (eqb-true (get_or text k 0) 10 (passes_at_first is_newline text 0 within)) (split_at_first is_newline text 0 within)
      (more (drop (k + 1) text) (omega (arith, within, length-drop (k + 1) text))))
  by (inr none) more =
      subst (ArePartsOf text) (sym (slice_split_none is_newline text (λ i d below. fails_before_first is_newline text i d (omega (arith, none, below))))) (only_part text u)

pub pieces_whole : (text : List ℕ) → IsUtf8 text → flat_map piece_letters (pieces_in text) ≡ letters text
pieces_whole text u = by (length text == 0) refl where
  by : (t : Bool) → (length text == 0) ≡ t → flat_map piece_letters (cond t [] (map (prose_piece lead.Line) (slice_split is_newline text))) ≡ letters text
  by true e = sym (ap letters (nil_from_length text (is_nothing (length text) e)) ∙ ap (filter is_not_whitespace) chars-nil)
  by false e =
      let parts = parts_whole (length text + 1) text (omega arith) u in
      each_line (prose_piece lead.Line) (λ l v. (trimmed l v).whole) (slice_split is_newline text) parts.utf8 ∙ parts.whole

pub helps_are_whole : HelpsAreWhole
helps_are_whole ls utf8 = pieces_whole (joined (codes "\n") ls) (joined_utf8 10 (omega arith) ls utf8) ∙ joined_whole ls utf8
