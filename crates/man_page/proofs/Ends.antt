-- The last byte of a line, whether a word begins after it, and whether a sentence ends with it.
use Rattle.std.proofs.Common.{◌≡◌, ℕ, ◌-◌, ◌+◌, ◌<◌, Bool, true, false, ◌&&◌, ◌||◌, suc, List, [], ◌∷◌, ◌++◌, length, get_or, map, drop, refl, ap, ◌∙◌, arith}
use Rattle.std.specs.Prelude.{◌==◌, codes, flat_map}
use Rattle.std.proofs.lemmas.Bool.{ne_eqb}
use Rattle.page_model.specs.Content.{Piece}
use Rattle.man_page.specs.Exact.{begins_word, ends_sentence, is_blank, is_closing, is_stop, piece_bytes}
use Rattle.man_page.specs.Reader.{last_of}
use Rattle.man_page.proofs.Parts.{drop_next}

after : (b : ℕ) (bytes : List ℕ) → last_of b bytes ≡ get_or (b ∷ bytes) (length bytes) 0
after b [] = refl
after b (c ∷ bytes) = after c bytes

pub last_read : (line : List ℕ) → 0 < length line → last_of 0 line ≡ get_or line (length line - 1) 0
last_read [] h = absurd (omega arith)
last_read (b ∷ line) h = let e : suc (length line) - 1 ≡ length line = omega arith in rw e (after b line)

pub no_last : (byte : ℕ) → 0 < byte → (0 == byte) ≡ false
no_last byte h = ne_eqb 0 byte (λ e. absurd (omega arith))

-- ---- words

pub word_begins : (front : Bool) (text : List ℕ) → (length text == 0) ≡ false → begins_word front text ≡ is_blank (get_or text (length text - 1) 0)
word_begins front [] h = cc
word_begins front (b ∷ text) h = let e : suc (length text) - 1 ≡ length text = omega arith in rw e (ap is_blank (after b text))

pub no_word_begins : (front : Bool) (text : List ℕ) → (length text == 0) ≡ true → begins_word front text ≡ front
no_word_begins front [] h = refl
no_word_begins front (b ∷ text) h = let some : (suc (length text) == 0) ≡ false = ne_eqb (suc (length text)) 0 (λ e. absurd (omega arith)) in cc

-- ---- sentences

pub sentence_next : (ended : Bool) (bytes : List ℕ) (i : ℕ) → i < length bytes → ends_sentence ended (drop i bytes) ≡ ends_sentence (is_stop (get_or bytes i 0) || (ended && is_closing (get_or bytes i 0))) (drop (i + 1) bytes)
sentence_next ended bytes i h = ap (ends_sentence ended) (drop_next bytes i 0 h)

sentence_after : (ended : Bool) (a b : List ℕ) → ends_sentence ended (a ++ b) ≡ ends_sentence (ends_sentence ended a) b
sentence_after ended [] b = refl
sentence_after ended (c ∷ a) b = sentence_after (is_stop c || (ended && is_closing c)) a b

and_false : (x : Bool) → (x && false) ≡ false
and_false true = refl
and_false false = refl

and_true : (x : Bool) → (x && true) ≡ x
and_true true = refl
and_true false = refl

pub page_ends_sentence : (ended : Bool) (name section : List ℕ) → ends_sentence ended (name ++ (codes "(" ++ (section ++ codes ")"))) ≡ ends_sentence false section
page_ends_sentence ended name section =
    sentence_after ended name (codes "(" ++ (section ++ codes ")"))
    ∙ ap (λ (x : Bool). ends_sentence x (section ++ codes ")")) (and_false (ends_sentence ended name))
    ∙ sentence_after false section (codes ")")
    ∙ and_true (ends_sentence false section)

pub sentence_of_pieces : {X : Type 0} (ended : Bool) (section : List ℕ) (see : X → Piece) (pieces : List X) (i : ℕ) (d : X) → i < length pieces
    → ends_sentence ended (flat_map (piece_bytes section) (map see (drop i pieces))) ≡ ends_sentence (ends_sentence ended (piece_bytes section (see (get_or pieces i d)))) (flat_map (piece_bytes section) (map see (drop (i + 1) pieces)))
sentence_of_pieces ended section see pieces i d h =
    ap (λ xs. ends_sentence ended (flat_map (piece_bytes section) (map see xs))) (drop_next pieces i d h)
    ∙ sentence_after ended (piece_bytes section (see (get_or pieces i d))) (flat_map (piece_bytes section) (map see (drop (i + 1) pieces)))
