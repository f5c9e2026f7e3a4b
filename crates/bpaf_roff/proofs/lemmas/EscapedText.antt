-- Pieces of text are escaped to text.
use Rattle.std.specs.Prelude.{◌≡◌, ℕ, true, List, [], ◌∷◌, ◌++◌, ◌<◌, ◌≤◌, map, IsUtf8, IsAscii, suc, refl}
use Rattle.std.specs.List.{AllByRecursion}
use Rattle.std.specs.Char.{IsScalar}
use Rattle.std.proofs.Common.{inl, inr, ap, append_assoc, arith}
use Rattle.std.proofs.lemmas.List.{append-nil, map-append}
use Rattle.std.proofs.lemmas.Bool.{and_parts, ne_eqb, le-ltb, cases_lt}
use lib.Utf8.{encode, encodes, scalar, scalars}
use Rattle.std.proofs.lemmas.Str.{IsUtf8-append, IsUtf8-nil, IsUtf8-from_ascii, IsUtf8-encode, encode_ascii}
use Rattle.bpaf_roff.specs.Pieces.{Piece}
use Rattle.bpaf_roff.specs.Escaping.{newline_as_blank, guard, special_text, spaces_text, apostrophe_text, byte_text, Sign, Byte, breaks, signs, signs_of, sign_text, text_after, escaped}
use Rattle.bpaf_roff.specs.Roff.{rendering}
use Rattle.bpaf_roff.specs.declared.escape.Apostrophes.{Apostrophes}
use Rattle.bpaf_roff.specs.declared.escape.Escape.{Escape}

-- signs are written one part after another
pub text_after-append : (q : Apostrophes) (before : List ℕ) (xs ys : List Sign) → text_after q before (xs ++ ys) ≡ text_after q before xs ++ text_after q (before ++ text_after q before xs) ys
text_after-append q before [] ys = rw (append-nil before) refl
text_after-append q before (x ∷ xs) ys = rw (text_after-append q (before ++ sign_text q before x) xs ys, append_assoc (sign_text q before x) (text_after q (before ++ sign_text q before x) xs), append_assoc before (sign_text q before x)) refl

-- each byte is ASCII
abbrev Low : List ℕ → Type 0
Low bytes = AllByRecursion (λ b. b < 128) bytes

-- no byte is ASCII
abbrev pub High : List ℕ → Type 0
High bytes = AllByRecursion (λ b. 128 ≤ b) bytes

Low-append : (s t : List ℕ) → Low s → Low t → Low (s ++ t)
Low-append [] t h k = k
Low-append (b ∷ s) t h k = (h.0, Low-append s t h.1 k)

Low-IsAscii : (bytes : List ℕ) → Low bytes → IsAscii bytes
Low-IsAscii (b ∷ bytes) h (suc i) = Low-IsAscii bytes h.1 i
Low-IsAscii x h y = grind arith

low_apostrophe : (q : Apostrophes) → Low (apostrophe_text q)
low_apostrophe q = grind arith

low_special : (q : Apostrophes) (b : ℕ) → b < 128 → Low (special_text q b)
low_special q b h = grind (arith, low_apostrophe)

low_spaces : (b : ℕ) → b < 128 → Low (spaces_text b)
low_spaces b h = grind arith

low_guard : (before : List ℕ) (b : ℕ) → Low (guard before b)
low_guard before b = grind arith

low_blank : (b : ℕ) → b < 128 → newline_as_blank b < 128
low_blank b h = grind arith

low_byte : (q : Apostrophes) (before : List ℕ) (label : Escape) (b : ℕ) → b < 128 → Low (byte_text q before label b)
low_byte q before label b h4 = grind (arith, low_spaces, Low-append, low_guard, low_special, low_blank)

high_byte : (q : Apostrophes) (before : List ℕ) (label : Escape) (b : ℕ) → 128 ≤ b → byte_text q before label b ≡ b ∷ []
high_byte q before label b h4 = grind (arith, ne_eqb)

high_text : (q : Apostrophes) (label : Escape) (bytes before : List ℕ) → High bytes → text_after q before (map (Byte label) bytes) ≡ bytes
high_text q label [] before h = refl
high_text q label (b ∷ bytes) before h = rw (high_byte q before label b h.0) (ap (λ ys. b ∷ ys) (high_text q label bytes (before ++ b ∷ []) h.1))

pub high_encode : (c : ℕ) → 128 ≤ c → High (encode c)
unfolding encode
high_encode c h = grind (arith, le-ltb)

-- what a character is written as
char_text : (q : Apostrophes) (label : Escape) (c : ℕ) → IsScalar c → (before : List ℕ) → IsUtf8 (text_after q before (map (Byte label) (encode c)))
char_text q label c h before = elim (cases_lt c 128) [ inl low ↦ rw (encode_ascii c low, append-nil (byte_text q before label c)) (IsUtf8-from_ascii _ (Low-IsAscii _ (low_byte q before label c low))) | inr high ↦ rw (high_text q label (encode c) before (high_encode c high)) (IsUtf8-encode c h) ]

chars_text : (q : Apostrophes) (label : Escape) (cs : List ℕ) → scalars cs ≡ true → (before : List ℕ) → IsUtf8 (text_after q before (map (Byte label) (encodes cs)))
chars_text q label [] h before = IsUtf8-nil
chars_text q label (c ∷ cs) h before = let parts = and_parts (scalar c) (scalars cs) h in rw (map-append (Byte label) (encode c) (encodes cs), text_after-append q before (map (Byte label) (encode c)) (map (Byte label) (encodes cs))) (IsUtf8-append (text_after q before (map (Byte label) (encode c))) _ (char_text q label c parts.0 before) (chars_text q label cs parts.1 (before ++ text_after q before (map (Byte label) (encode c)))))

break_text : (q : Apostrophes) (label : Escape) (before : List ℕ) → IsUtf8 (text_after q before (breaks label))
break_text q label before = grind (arith, IsUtf8-from_ascii, Low-IsAscii, IsUtf8-nil)

pub piece_text : (q : Apostrophes) (piece : Piece Escape) (before : List ℕ) → IsUtf8 piece.text → IsUtf8 (text_after q before (signs_of piece))
piece_text q piece before h = rw (text_after-append q before (breaks piece.label) (map (Byte piece.label) piece.text)) (IsUtf8-append _ _ (break_text q piece.label before) (rw (← h.1.1) (chars_text q piece.label h.0 h.1.0 (before ++ text_after q before (breaks piece.label)))))

-- Pieces of text are escaped to text.
pub pieces_text : (q : Apostrophes) (pieces : List (Piece Escape)) → AllByRecursion (λ p. IsUtf8 p.text) pieces → (before : List ℕ) → IsUtf8 (text_after q before (signs pieces))
pieces_text q [] h before = IsUtf8-nil
pieces_text q (p ∷ pieces) h before = rw (text_after-append q before (signs_of p) (signs pieces)) (IsUtf8-append _ _ (piece_text q p before h.0) (pieces_text q pieces h.1 (before ++ text_after q before (signs_of p))))

pub signs-append : (ps qs : List (Piece Escape)) → signs (ps ++ qs) ≡ signs ps ++ signs qs
signs-append [] qs = refl
signs-append (p ∷ ps) qs = rw (signs-append ps qs, append_assoc (signs_of p)) refl

-- more pieces are written after the bytes before
pub renderings_go_on : (q : Apostrophes) (ps qs : List (Piece Escape)) → rendering q (ps ++ qs) ≡ rendering q ps ++ text_after q (escaped q ps) (signs qs)
renderings_go_on q ps qs = grind (arith, signs-append, text_after-append, append_assoc)
