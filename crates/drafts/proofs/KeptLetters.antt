-- Pieces of a text have all letters of the lines.
use Rattle.std.proofs.Common.{◌≡◌, ℕ, zero, suc, ◌+◌, ◌≤◌, Bool, true, false, cond, List, [], ◌∷◌, ◌++◌, All, drop, filter, flat_map, map, take, refl, sym, ap, ◌∙◌, arith}
use Rattle.std.specs.Prelude.{chars, min}
use Rattle.std.specs.Char.{is_not_whitespace, is_whitespace}
use Rattle.std.specs.List.{prefix_len}
use Rattle.std.specs.Str.{IsAscii, IsCharBoundary, IsUtf8}
use Rattle.std.proofs.lemmas.Bool.Decides.{nat_tests}
use Rattle.std.proofs.lemmas.List.{take-append-drop}
use Rattle.std.proofs.lemmas.List.Elements.{filter-append, All-head, All-tail}
use Rattle.std.proofs.lemmas.Str.Ascii.{IsAscii-cons}
use Rattle.std.proofs.lemmas.Str.{IsUtf8-drop, IsUtf8-take, chars-append, chars-IsAscii}
use Rattle.help_fronts.specs.Bytes.{is_blank}
use Rattle.toml_pieces.specs.Toml.{Piece}
use Rattle.drafts.specs.Passages.{PassageSaid}
use Rattle.drafts.specs.Texts.{passage_pieces, code_piece, indent_len, is_code, prose_below, prose_pieces, shared_indent, width_of}
use Rattle.drafts.specs.Laws.{letters, piece_letters}
use Rattle.drafts.proofs.Boundaries.{blank_small, within_blanks}
use Rattle.drafts.proofs.Trims.{end_trimmed, left_out, trimmed}

pub one_more : (a b : List ℕ) (rest others : List ℕ) → a ≡ b → rest ≡ others → a ++ rest ≡ b ++ others
one_more a b rest others h g = ap (λ t. t ++ rest) h ∙ ap (λ t. b ++ t) g

-- of pieces that are made line by line
pub each_line : (make : List ℕ → Piece) → ((l : List ℕ) → IsUtf8 l → letters (make l).text ≡ letters l) → (ls : List (List ℕ)) → All IsUtf8 ls → flat_map piece_letters (map make ls) ≡ flat_map letters ls
each_line make keeps [] utf8 = refl
each_line make keeps (l ∷ ls) utf8 =
    one_more (letters (make l).text) (letters l) (flat_map piece_letters (map make ls)) (flat_map letters ls) (keeps l (All-head IsUtf8 l ls utf8)) (each_line make keeps ls (All-tail IsUtf8 l ls utf8))

below_whole : (width : ℕ) (above : List ℕ) (ls : List (List ℕ)) → All IsUtf8 ls → flat_map piece_letters (prose_below width above ls) ≡ flat_map letters ls
below_whole width above [] utf8 = refl
below_whole width above (l ∷ ls) utf8 =
    one_more _ (letters l) (flat_map piece_letters (prose_below width l ls)) (flat_map letters ls) (trimmed l (All-head IsUtf8 l ls utf8)).whole (below_whole width l ls (All-tail IsUtf8 l ls utf8))

prose_whole : (ls : List (List ℕ)) → All IsUtf8 ls → flat_map piece_letters (prose_pieces ls) ≡ flat_map letters ls
prose_whole [] utf8 = refl
prose_whole (l ∷ ls) utf8 =
    one_more _ (letters l) (flat_map piece_letters (prose_below (width_of (l ∷ ls)) l ls)) (flat_map letters ls) (trimmed l (All-head IsUtf8 l ls utf8)).whole
    (below_whole (width_of (l ∷ ls)) l ls (All-tail IsUtf8 l ls utf8))

white : (b : ℕ) → is_blank b ≡ true → is_whitespace b ≡ true
white b h = grind (arith, nat_tests)

-- ASCII without letters
abbrev IsWhite : (text : List ℕ) → Type 0
IsWhite text = IsAscii text × (filter is_not_whitespace text ≡ [])

one_blank : (b : ℕ) (bs : List ℕ) (n : ℕ) (t : Bool) → is_blank b ≡ t → suc n ≤ cond t (1 + prefix_len is_blank bs) 0 → (n ≤ prefix_len is_blank bs → IsWhite (take n bs)) → IsWhite (b ∷ take n bs)
one_blank b bs n true e h more = let rest = more (omega (arith, h)) in (IsAscii-cons b (take n bs) (blank_small b e) rest.0, left_out b (take n bs) (white b e) rest.1)
one_blank b bs n false e h more = absurd (omega (arith, h))

blank_front : (n : ℕ) (line : List ℕ) → n ≤ prefix_len is_blank line → IsWhite (take n line)
blank_front zero line h = (λ i. omega arith, refl)
blank_front (suc n) [] h = absurd (omega (arith, h))
blank_front (suc n) (b ∷ bs) h = one_blank b bs n (is_blank b) refl h (blank_front n bs)

front_whole : (n : ℕ) (line : List ℕ) → n ≤ prefix_len is_blank line → IsUtf8 line → IsCharBoundary line n → letters (drop n line) ≡ letters line
front_whole n line h utf8 cut =
    let front : List ℕ = take n line in
    sym (ap letters (sym (take-append-drop n line)) ∙ ap (filter is_not_whitespace) (chars-append front (drop n line) (IsUtf8-take line n utf8 cut)) ∙ filter-append is_not_whitespace (chars front) (chars (drop n line))
    ∙ ap (λ cs. filter is_not_whitespace cs ++ letters (drop n line)) (chars-IsAscii front (blank_front n line h).0) ∙ ap (λ cs. cs ++ letters (drop n line)) (blank_front n line h).1)

code_whole : (indent : ℕ) (line : List ℕ) → IsUtf8 line → letters (code_piece indent line).text ≡ letters line
code_whole indent line utf8 =
    let n : ℕ = min indent (indent_len line) in
    let cut : IsCharBoundary line n = within_blanks line indent (indent_len line) refl utf8 in
    (end_trimmed (drop n line) (IsUtf8-drop line n utf8 cut)).whole ∙ front_whole n line (omega arith) utf8 cut

pub texts_are_whole : (p : PassageSaid) → All IsUtf8 p.lines → flat_map piece_letters (passage_pieces p) ≡ flat_map letters p.lines
texts_are_whole p utf8 = by (is_code p.kind) where
  by : (t : Bool) → flat_map piece_letters (cond t (map (code_piece (shared_indent p.lines)) p.lines) (prose_pieces p.lines)) ≡ flat_map letters p.lines
  by true = each_line (code_piece (shared_indent p.lines)) (code_whole (shared_indent p.lines)) p.lines utf8
  by false = prose_whole p.lines utf8
