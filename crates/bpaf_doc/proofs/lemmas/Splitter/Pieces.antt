-- A text as its chunks cut it: what each chunk stands for, with gaps before and after it.
use Rattle.std.specs.Prelude.{◌++◌, ◌<◌, ◌∷◌, ◌≡◌, ◌⊎◌}
use Rattle.bpaf_doc.proofs.lemmas.Splitter.Words.{IsScalar, list_all, sym, ◌∙◌, ap, subst, inl, inr, arith, lit<, get_or, ℕ, true, false, IsTrue, List, [], codes, refl, length, append-nil, get_or_at, take_at, drop_at, length-append, IsUtf8-nil, IsUtf8-append, IsUtf8-encode, encode_ascii, IsUtf8-take, IsUtf8-drop, IsCharBoundary-before_ascii, IsCharBoundary-after_ascii, Chunk, Raw, Paragraph, LineBreak, Form, Spells, nothing, code_line, fence, before_code, paragraph, line_break, newline, blank, word, opening, later, closing, closing_paragraph, is_word_byte, code_weight, fence_weight, columns, has_some, IsLine, IsLineEnd, is_ordinary, IsPastNewline, IsGap, StandsFor, is_gap_byte, nat_tests}
use Rattle.std.specs.Str.{IsUtf8, chars}
use Rattle.unicode_width.specs.Width.{str_width, step, past_emoji}
use Rattle.bpaf_doc.proofs.lemmas.Splitter.Spelling.{and_left, and_right, starts_front}

-- ---- UTF-8 at a cut

-- what follows an ASCII character
utf8_after : (b : ℕ) (rest : List ℕ) → b < 128 → IsUtf8 (b ∷ rest) → IsUtf8 rest
utf8_after b rest small u = IsUtf8-drop (b ∷ rest) 1 u (IsCharBoundary-after_ascii (b ∷ rest) 0 u (omega arith) small)

-- a newline, a blank or the end
abbrev pub IsEnd : List ℕ → Type 0
IsEnd [] = Unit {0}
IsEnd (b ∷ rest) = b < 128

-- a front that ends there, and the rest
pub utf8_cut : (front rest : List ℕ) → IsEnd rest → IsUtf8 (front ++ rest) → IsUtf8 front × IsUtf8 rest
utf8_cut front [] e u = (subst (λ text. IsUtf8 text) (append-nil front) u, IsUtf8-nil)
utf8_cut front (b ∷ rest) e u =
    let small : get_or (front ++ b ∷ rest) (length front) 0 < 128 = rw (get_or_at front b rest 0 (length front) refl) e in
    let cut = IsCharBoundary-before_ascii (front ++ b ∷ rest) (length front) (omega (arith, length-append front (b ∷ rest))) small in (
      subst (λ text. IsUtf8 text) (take_at front (b ∷ rest) (length front) refl) (IsUtf8-take (front ++ b ∷ rest) (length front) u cut),
      subst (λ text. IsUtf8 text) (drop_at front (b ∷ rest) (length front) refl) (IsUtf8-drop (front ++ b ∷ rest) (length front) u cut),
    )

-- ---- what stands in the text

-- an ASCII character by itself
pub utf8_alone : (b : ℕ) → b < 128 → IsScalar b → IsUtf8 (b ∷ [])
utf8_alone b small s = subst (λ t. IsUtf8 t) (encode_ascii b small) (IsUtf8-encode b s)

-- a gap in a UTF-8 text is UTF-8, and so is what follows it
utf8_gap : (gap rest : List ℕ) → IsGap gap → IsUtf8 (gap ++ rest) → IsUtf8 gap × IsUtf8 rest
utf8_gap [] rest g u = (IsUtf8-nil, u)
utf8_gap (b ∷ gap) rest g u =
    let is : (b ≡ 10) ⊎ (b ≡ 32) = grind (arith, nat_tests, (and_left (is_gap_byte b) (list_all is_gap_byte gap) g)) in
    let more : IsUtf8 gap × IsUtf8 rest = utf8_gap gap rest (and_right (is_gap_byte b) (list_all is_gap_byte gap) g) (utf8_after b (gap ++ rest) (ascii b is) u) in
    (IsUtf8-append (b ∷ []) gap (grind (arith, utf8_alone, lit<)) more.0, more.1) where
      ascii : (b : ℕ) → (b ≡ 10) ⊎ (b ≡ 32) → b < 128
      ascii b h = grind arith

pub IsUtf8-blank : IsUtf8 (codes " ")
IsUtf8-blank = utf8_alone 32 (lit< tt) refl

-- ---- the pieces

-- a Raw chunk weighs its columns, unless it is a line of code, and has some bytes
abbrev pub IsGood : Chunk → Type 0
IsGood (Raw bytes weight) = IsLine bytes × (weight < 1_000_000 → weight ≡ columns bytes) × (IsTrue (is_ordinary (Raw bytes weight)) → weight ≡ columns bytes) × (IsTrue (is_ordinary (Raw bytes weight)) → has_some bytes ≡ true)
IsGood Paragraph = Unit {0}
IsGood LineBreak = Unit {0}

-- a word is in one line
pub word_line : (bytes : List ℕ) → IsTrue (list_all is_word_byte bytes) → IsLine bytes
word_line [] w = refl
word_line (b ∷ bytes) w = grind (arith, word_line bytes, and_left, and_right)

blank_columns : columns (codes " ") ≡ 1
unfolding chars str_width step past_emoji
blank_columns = refl

blank_good : IsGood (Raw (codes " ") 1)
blank_good = (refl, λ l. sym blank_columns, λ o. sym blank_columns, λ o. refl)

code_good : (line : List ℕ) → IsLine line → IsGood (Raw line code_weight)
code_good line l = (l, λ small. absurd (omega arith), λ o. absurd (let no : false ≡ true = o in cc), λ o. absurd (let no : false ≡ true = o in cc))

fence_good : (line : List ℕ) → IsLine line → IsGood (Raw line fence_weight)
fence_good line l = (l, λ small. absurd (omega arith), λ o. absurd (let no : false ≡ true = o in cc), λ o. absurd (let no : false ≡ true = o in cc))

pub data Pieces : List Chunk → List ℕ → Type 0 where
  none : {chunks : List Chunk} {text : List ℕ} → chunks ≡ [] → text ≡ [] → Pieces chunks text
  piece : {chunks : List Chunk} {text : List ℕ} (gap there after rest : List ℕ) (chunk : Chunk) (others : List Chunk) → chunks ≡ chunk ∷ others
      → text ≡ gap ++ (there ++ (after ++ rest)) → IsGap gap → IsGap after → StandsFor chunk there → IsGood chunk
      → (IsUtf8 text → IsUtf8 there × IsUtf8 rest) → Pieces others rest → Pieces chunks text

-- a newline that a line of a fence takes with it
newline_taken : (rest next : List ℕ) → IsPastNewline rest next → (after : List ℕ) × (rest ≡ after ++ next) × IsGap after × (IsUtf8 rest → IsUtf8 next)
newline_taken rest next (inl e) = (codes "\n", e, refl, λ u. utf8_after 10 next (lit< tt) (subst (λ text. IsUtf8 text) e u))
newline_taken rest next (inr (e, f)) = ([], e ∙ sym f, refl, λ u. subst (λ text. IsUtf8 text) (e ∙ sym f) u)

fence_line : {chunks : List Chunk} {text : List ℕ} (line rest next : List ℕ) (others : List Chunk) → chunks ≡ Raw line fence_weight ∷ others
    → text ≡ line ++ rest → IsLine line → IsPastNewline rest next → Pieces others next → Pieces chunks text
fence_line {chunks} {text} line rest next others ec et l p s = at (newline_taken rest next p) where
  at : (after : List ℕ) × (rest ≡ after ++ next) × IsGap after × (IsUtf8 rest → IsUtf8 next) → Pieces chunks text
  at (after, e, g, u) =
      piece [] line after next (Raw line fence_weight) others ec (et ∙ ap (λ t. line ++ t) e) refl g (inl refl) (fence_good line l)
      (λ v. let w = utf8_cut line rest (grind arith) (subst (λ t. IsUtf8 t) et v) in (w.0, u w.1)) s

-- a chunk that stands for an ASCII text, and no gap
ascii_piece : {chunks : List Chunk} {text : List ℕ} (there rest : List ℕ) (chunk : Chunk) (others : List Chunk) → chunks ≡ chunk ∷ others → text ≡ there ++ rest
    → IsTrue (list_all is_gap_byte there) → StandsFor chunk there → IsGood chunk → Pieces others rest → Pieces chunks text
ascii_piece {chunks} {text} there rest chunk others ec et g t l s =
    piece [] there [] rest chunk others ec et refl refl t l (λ u. utf8_gap there rest g (subst (λ t. IsUtf8 t) et u)) s

pub pieces : {form : Form} {chunks : List Chunk} {text : List ℕ} → Spells form chunks text → Pieces chunks text
pieces (nothing ec et) = none ec et
pieces (code_line line rest others ec et l r s) =
    piece (codes "\n    ") line [] rest (Raw line _) others ec et refl refl (inl refl) (code_good line l)
    (λ u. utf8_cut line rest (grind arith) (utf8_gap (codes "\n    ") (line ++ rest) refl (subst (λ t. IsUtf8 t) et u)).1) (pieces s)
pieces (fence rest others ec et t s) = ascii_piece (codes "\n\n") rest Paragraph others ec et refl (inl refl) tt (pieces s)
pieces (before_code rest others ec et t s) = ascii_piece (codes "\n") rest Paragraph others ec et refl (inr refl) tt (pieces s)
pieces (paragraph rest others ec et f g s) = ascii_piece (codes "\n\n") rest Paragraph others ec et refl (inl refl) tt (pieces s)
pieces (line_break rest others ec et f s) = ascii_piece (codes "\n ") rest LineBreak others ec et refl refl tt (pieces s)
pieces (newline rest others ec et f g s) = ascii_piece (codes "\n") rest (Raw (codes " ") 1) others ec et refl (inr (refl, refl, refl)) blank_good (pieces s)
pieces (blank rest others ec et s) = ascii_piece (codes " ") rest (Raw (codes " ") 1) others ec et refl (inl refl) blank_good (pieces s)
pieces (word bytes rest others ec et w r s) =
    piece [] bytes [] rest (Raw bytes _) others ec et refl refl (inl refl) (word_line bytes w.1, λ l. refl, λ o. refl, λ o. grind arith)
    (λ u. utf8_cut bytes rest (grind arith) (subst (λ t. IsUtf8 t) et u)) (pieces s)
pieces (opening line rest next others ec et some l p s) = fence_line line rest next others ec et l p (pieces s)
pieces (later line rest next others ec et some l f p s) = fence_line line rest next others ec et l p (pieces s)
pieces (closing line rest next others ec et l t f p s) = fence_line line rest next others ec et l p (pieces s)
pieces (closing_paragraph line rest others ec et l t f s) =
    piece [] line [] rest (Raw line _) others ec et refl refl (inl refl) (fence_good line l)
    (λ u. utf8_cut line rest (grind arith) (subst (λ t. IsUtf8 t) et u)) (pieces s) where
      two : IsLineEnd rest
      two = subst (λ t. IsLineEnd t) (sym (starts_front (codes "\n\n") rest f)) refl
