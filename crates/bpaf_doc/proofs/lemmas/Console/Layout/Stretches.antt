-- What the text of a page shows of its stretches, and what it is without its blank end.
use Rattle.std.specs.Prelude.{◌&&◌, ◌++◌, ◌==◌, ◌∷◌, ◌≡◌, ◌≢◌, ◌⊎◌}
use Rattle.bpaf_doc.proofs.lemmas.Console.Words.{common_steps, is_whitespace, is_not_whitespace, append-nil, nil_from_length, same_from_push, chars-append, encodes-chars, chars-encodes, scalars-chars, encodes-append, IsUtf8-append, IsUtf8-nil, IsUtf8-from_ascii, nat_tests, and_parts, eqb-true, or_parts, ink, has_some, IsLine, Event, Stretch, Gap, Placed, Passed, Place, event_bytes, stretch_bytes, is_newline, sym, subst, ap, arith, inl, inr, ◌∙◌, append_assoc, ℕ, true, false, List, [], length, filter, refl, IsUtf8}
use Rattle.std.specs.Str.{trim_end, drop_trailing_whitespace, chars, encode_utf8_all}
use Rattle.std.proofs.Math.Utf8.{scalars, scalar}
use Rattle.bpaf_doc.proofs.lemmas.Console.Layout.Back.{whole_trim, by_cases, by_test, by_trimmed}
use Rattle.bpaf_doc.proofs.lemmas.Console.Layout.State.{has_text, ends_line, ends_blank, trimmed, IsLegible}
use Rattle.bpaf_doc.proofs.lemmas.Console.Layout.Blank.{text_back, text_back_cons}

-- ---- trimming

-- the characters without the white space at their end
white : (ds : List ℕ) → has_some (filter is_not_whitespace ds) ≡ false → drop_trailing_whitespace ds ≡ []
white [] h = refl
white (d ∷ ds) h = grind (arith, white ds)

dropped_white : (cs ds : List ℕ) → has_some (filter is_not_whitespace ds) ≡ false → drop_trailing_whitespace (cs ++ ds) ≡ drop_trailing_whitespace cs
dropped_white [] ds h = white ds h
dropped_white (c ∷ cs) ds h = let ih : drop_trailing_whitespace (cs ++ ds) ≡ drop_trailing_whitespace cs = dropped_white cs ds h in rw ih refl

dropped_some : (cs ds : List ℕ) → has_some (filter is_not_whitespace ds) ≡ true → drop_trailing_whitespace (cs ++ ds) ≡ cs ++ drop_trailing_whitespace ds
dropped_some [] ds h = refl
dropped_some (c ∷ cs) ds h = grind (arith, common_steps, dropped_some cs ds h, whole_trim, nat_tests)

pub trim_white : (front back : List ℕ) → IsUtf8 front → has_some (ink back) ≡ false → trim_end (front ++ back) ≡ trim_end front
unfolding trim_end
trim_white front back u h = grind (arith, chars-append, dropped_white)

pub trim_some : (front back : List ℕ) → IsUtf8 front → has_some (ink back) ≡ true → trim_end (front ++ back) ≡ front ++ trim_end back
unfolding trim_end
trim_some front back u h = grind (arith, chars-append, dropped_some, encodes-append, encodes-chars)

-- what is dropped is a front
kept_front : (cs : List ℕ) → (rest : List ℕ) × (cs ≡ drop_trailing_whitespace cs ++ rest)
kept_front [] = ([], refl)
kept_front (c ∷ cs) =
    by_test (λ ys. (rest : List ℕ) × (c ∷ cs ≡ ys ++ rest)) (is_whitespace c && (length (drop_trailing_whitespace cs) == 0)) [] (c ∷ drop_trailing_whitespace cs) (λ t. (c ∷ cs, refl))
    (λ t. ((kept_front cs).0, ap (λ xs. c ∷ xs) (kept_front cs).1))

twice_chars : (cs : List ℕ) → drop_trailing_whitespace (drop_trailing_whitespace cs) ≡ drop_trailing_whitespace cs
twice_chars [] = refl
twice_chars (c ∷ cs) = elim (by_cases (is_whitespace c && (length (drop_trailing_whitespace cs) == 0))) [ inl t ↦ rw t refl | inr t ↦ rw t (rw (twice_chars cs) (rw t refl)) ]

scalars_front : (cs ds : List ℕ) → scalars (cs ++ ds) ≡ true → scalars cs ≡ true
scalars_front [] ds h = refl
scalars_front (c ∷ cs) ds h = grind (arith, scalars_front cs ds, scalar, scalars)

kept_scalars : (text : List ℕ) → IsUtf8 text → scalars (drop_trailing_whitespace (chars text)) ≡ true
kept_scalars text u =
    let front : (rest : List ℕ) × (chars text ≡ drop_trailing_whitespace (chars text) ++ rest) = kept_front (chars text) in
    scalars_front (drop_trailing_whitespace (chars text)) front.0 (subst (λ cs. scalars cs ≡ true) front.1 (scalars-chars text u))

-- a text without its blank end is a text
pub trim_utf8 : (text : List ℕ) → IsUtf8 text → IsUtf8 (trim_end text)
unfolding trim_end
trim_utf8 text u = (drop_trailing_whitespace (chars text), (kept_scalars text u, refl))

pub trim_twice : (text : List ℕ) → IsUtf8 text → trim_end (trim_end text) ≡ trim_end text
unfolding trim_end
trim_twice text u = grind (arith, chars-encodes, kept_scalars, twice_chars)

-- a text without its blank end begins the text
pub trim_front : (text : List ℕ) → IsUtf8 text → (rest : List ℕ) × (text ≡ trim_end text ++ rest)
unfolding trim_end
trim_front text u =
    let front : (rest : List ℕ) × (chars text ≡ drop_trailing_whitespace (chars text) ++ rest) = kept_front (chars text) in
    (encode_utf8_all front.0, sym (encodes-chars text u) ∙ ap encode_utf8_all front.1 ∙ encodes-append (drop_trailing_whitespace (chars text)) front.0)

line_front : (front rest : List ℕ) → IsLine (front ++ rest) → IsLine front
line_front [] rest h = refl
line_front (b ∷ front) rest h = grind (arith, line_front front rest)

pub trim_line : (text : List ℕ) → IsUtf8 text → IsLine text → IsLine (trim_end text)
trim_line text u l = let front : (rest : List ℕ) × (text ≡ trim_end text ++ rest) = trim_front text u in line_front (trim_end text) front.0 (subst IsLine front.1 l)

-- ---- the text of a page

shown_utf8 : (e : Place) → IsUtf8 e.bytes → (e.shown ≡ e.bytes) ⊎ (e.shown ≡ trim_end e.bytes) → IsUtf8 e.shown
shown_utf8 e u (inl s) = subst IsUtf8 (sym s) u
shown_utf8 e u (inr s) = subst IsUtf8 (sym s) (trim_utf8 e.bytes u)

pub text_utf8 : (r : List Stretch) → IsLegible r → IsUtf8 (text_back r)
text_utf8 [] h = IsUtf8-nil
text_utf8 (Gap b ∷ r) h =
    subst IsUtf8 (sym (text_back_cons (Gap b) r)) (IsUtf8-append (text_back r) (b ∷ []) (text_utf8 r h.1) (grind (arith, IsUtf8-from_ascii)))
text_utf8 (Placed e ∷ r) h = subst IsUtf8 (sym (text_back_cons (Placed e) r)) (IsUtf8-append (text_back r) e.shown (text_utf8 r h.1) (shown_utf8 e h.0.0 h.0.2))
text_utf8 (Passed event ∷ r) h =
    subst IsUtf8 (sym (text_back_cons (Passed event) r)) (IsUtf8-append (text_back r) (event_bytes event) (text_utf8 r h) (grind (arith, IsUtf8-nil, IsUtf8-from_ascii)))

-- ---- where the text ends

snoc_some : (xs : List ℕ) (ys : List ℕ) → has_some ys ≡ true → xs ++ ys ≢ []
snoc_some [] ys h = λ none. let no : false ≡ true = ap has_some (sym none) ∙ h in absurd cc
snoc_some (x ∷ xs) ys h = λ none. absurd cc

-- a page without bytes has an empty text, and only such a page
pub no_text : (r : List Stretch) → has_text r ≡ false → text_back r ≡ []
no_text [] h = refl
no_text (x ∷ r) h = grind (arith, no_text r, or_parts, text_back_cons)

pub some_text : (r : List Stretch) → has_text r ≡ true → text_back r ≢ []
some_text [] h = λ e. absurd cc
some_text (x ∷ r) h = grind (arith, some_text r, snoc_some, text_back_cons, append-nil)

-- a list of some bytes ends in one of them
record LastByte (xs : List ℕ) : Type 0 where
  front : List ℕ
  last : ℕ
  is : xs ≡ front ++ last ∷ []

last_byte : (xs : List ℕ) → has_some xs ≡ true → LastByte xs
last_byte [] h = absurd cc
last_byte (x ∷ []) h = record { front = []; last = x; is = refl }
last_byte (x ∷ y ∷ xs) h = let rest : LastByte (y ∷ xs) = last_byte (y ∷ xs) refl in record { front = x ∷ rest.front; last = rest.last; is = ap (λ ys. x ∷ ys) rest.is }

line_end_lem : (front : List ℕ) → IsLine (front ++ 10 ∷ []) → ⊥
line_end_lem [] h = cc
line_end_lem (b ∷ front) h = grind (arith, line_end_lem front)

ends_in : (r : List Stretch) (x : Stretch) (front : List ℕ) → has_some (stretch_bytes x) ≡ true → text_back (x ∷ r) ≡ front ++ 10 ∷ [] → (back : List ℕ) × (stretch_bytes x ≡ back ++ 10 ∷ [])
ends_in r x front s e =
    let last : LastByte (stretch_bytes x) = last_byte (stretch_bytes x) s in
    let whole : (text_back r ++ last.front) ++ last.last ∷ [] ≡ front ++ 10 ∷ [] =
    append_assoc (text_back r) last.front (last.last ∷ []) ∙ ap (λ t. text_back r ++ t) (sym last.is) ∙ sym (text_back_cons x r) ∙ e in
    (last.front, last.is ∙ ap (λ (b : ℕ). last.front ++ b ∷ []) (same_from_push (text_back r ++ last.front) front last.last 10 whole).1)

-- no place and no event ends in a newline
no_end : (r : List Stretch) (x : Stretch) (front : List ℕ) → IsLegible (x ∷ r) → is_newline x ≡ false → has_some (stretch_bytes x) ≡ true → text_back (x ∷ r) ≡ front ++ 10 ∷ [] → ⊥
no_end r (Gap b) front h n s e = grind (arith, text_back_cons, same_from_push, nat_tests)
no_end r (Placed p) front h n s e =
    let found : (back : List ℕ) × (p.shown ≡ back ++ 10 ∷ []) = ends_in r (Placed p) front s e in line_end_lem found.0 (subst IsLine found.1 (grind (arith, trim_line, h.0.0, h.0.1, h.0.2)))
no_end r (Passed event) front h n s e = line_end_lem (ends_in r (Passed event) front s e).0 (subst IsLine (ends_in r (Passed event) front s e).1 (grind arith))

-- a text that ends in a newline is one of a page that does
pub text_ends_line : (r : List Stretch) (front : List ℕ) → IsLegible r → text_back r ≡ front ++ 10 ∷ [] → ends_line r ≡ true
text_ends_line [] front h e = absurd (snoc_some front (10 ∷ []) refl (sym e))
text_ends_line (x ∷ r) front h e = grind (arith, text_ends_line r, no_end r x front h, text_back_cons, text_back, append-nil, by_cases)

pub text_ends_blank : (r : List Stretch) (front : List ℕ) → IsLegible r → text_back r ≡ (front ++ 10 ∷ []) ++ 10 ∷ [] → ends_blank r ≡ true
text_ends_blank [] front h e = absurd (snoc_some (front ++ 10 ∷ []) (10 ∷ []) refl (sym e))
text_ends_blank (x ∷ r) front h e = grind (arith, text_ends_blank r, text_back_cons, same_from_push, text_ends_line, no_end, text_back, append-nil, by_cases)

-- ---- the trimmed page

gap_plain : (b : ℕ) → (b ≡ 32) ⊎ (b ≡ 10) → has_some (ink (b ∷ [])) ≡ false
unfolding chars
gap_plain b h = grind arith

backquote_ink : has_some (ink (96 ∷ [])) ≡ true
unfolding chars
backquote_ink = refl

event_trim : (event : Event) → has_some (event_bytes event) ≡ true → trim_end (event_bytes event) ≡ event_bytes event
unfolding chars trim_end lib.Utf8.encode
event_trim event h = grind arith

plain_trim : (text : List ℕ) → has_some (ink text) ≡ false → trim_end text ≡ []
unfolding trim_end
plain_trim text h = ap encode_utf8_all (white (chars text) h)

no_ink_nil : has_some (ink []) ≡ false
unfolding chars
no_ink_nil = refl

kept_ink : (cs : List ℕ) → filter is_not_whitespace (drop_trailing_whitespace cs) ≡ filter is_not_whitespace cs
kept_ink [] = refl
kept_ink (c ∷ cs) = grind (arith, by_cases, and_parts, nil_from_length, eqb-true, kept_ink cs)

pub trim_ink : (text : List ℕ) → IsUtf8 text → ink (trim_end text) ≡ ink text
unfolding trim_end
trim_ink text u = ap (λ cs. filter is_not_whitespace cs) (chars-encodes (drop_trailing_whitespace (chars text)) (kept_scalars text u)) ∙ kept_ink (chars text)

pub trim_text : (r : List Stretch) → IsLegible r → trim_end (text_back r) ≡ text_back (trimmed r)
trim_text [] h = plain_trim [] no_ink_nil
trim_text (x ∷ r) h =
    grind (arith, trim_text r, text_back_cons, trim_white, text_utf8, gap_plain, trim_some, trim_ink, trim_twice, plain_trim, no_ink_nil, text_back, append-nil, event_trim)

pub legible_trimmed : (r : List Stretch) → IsLegible r → IsLegible (trimmed r)
legible_trimmed = by_trimmed (λ r t. IsLegible r → IsLegible t) (λ h. h) (λ b r t ih h. ih h.1) (λ e r i h. ((h.0.0, h.0.1, inr refl), h.1)) (λ e r t i ih h. ih h.1) (λ event r i h. h) (λ event r t i ih h. ih h)
