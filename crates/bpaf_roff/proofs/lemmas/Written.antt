-- What a loop over bytes, one over the blocks of a piece, and one over pieces have written so far.
use Rattle.std.proofs.Common.{◌≡◌, ◌+◌, ◌<◌, ◌∷◌, [], ◌++◌, ◌∙◌, List, ℕ, Bool, length, map, take, get_or, ap, sym, append_assoc, refl, arith}
use Rattle.std.proofs.lemmas.List.{take_more, map-append, append-nil}
use Rattle.std.specs.List.{AllByRecursion}
use Rattle.std.specs.Str.{IsUtf8}
use Rattle.std.proofs.lemmas.Str.{IsUtf8-append}
use Rattle.bpaf_roff.specs.Pieces.{Piece}
use Rattle.bpaf_roff.specs.Escaping.{is_line_start, Sign, Byte, byte_text, signs_of, text_after, escaped}
use Rattle.bpaf_roff.specs.Roff.{text_of, with_piece, with_written, preamble_for}
use Rattle.bpaf_roff.specs.Steps.Output.{written}
use Rattle.bpaf_roff.specs.declared.escape.Apostrophes.{Apostrophes}
use Rattle.bpaf_roff.specs.declared.escape.Escape.{Escape}
use Rattle.bpaf_roff.proofs.lemmas.EscapedText.{text_after-append, piece_text, renderings_go_on}
use Rattle.bpaf_roff.proofs.lemmas.LineStarts.{text_after-push, text_after-written, is_line_start-after, signs-push}

module _ (q : Apostrophes) (label : Escape) (before bytes : List ℕ) where
  -- the first bytes of these
  abbrev pub front : ℕ → List Sign
  front i = map (Byte label) (take i bytes)

  -- what they are written as
  abbrev pub front_text : ℕ → List ℕ
  front_text i = text_after q before (front i)

  front_more : (i : ℕ) → i < length bytes → front (i + 1) ≡ front i ++ Byte label (get_or bytes i 0) ∷ []
  front_more i lt = ap (map (Byte label)) (take_more bytes i 0 lt) ∙ map-append (Byte label) (take i bytes) (get_or bytes i 0 ∷ [])

  pub front_text_more : (i : ℕ) → i < length bytes → front_text (i + 1) ≡ front_text i ++ byte_text q (before ++ front_text i) label (get_or bytes i 0)
  front_text_more i lt = ap (text_after q before) (front_more i lt) ∙ text_after-push q before (front i) (Byte label (get_or bytes i 0))

-- Signs that are written after others: of what stands before them it only counts whether it ends a line.
module _ (q : Apostrophes) (before : List ℕ) (xs ys : List Sign) (y : Bool) (e : y ≡ is_line_start (before ++ text_after q before xs)) where
  text_on : text_after q before xs ++ text_after q (written y) ys ≡ text_after q before (xs ++ ys)
  text_on = ap (λ t. text_after q before xs ++ t) (sym (text_after-written q ys (before ++ text_after q before xs) y e)) ∙ sym (text_after-append q before xs ys)

  pub line_start_on : is_line_start (written y ++ text_after q (written y) ys) ≡ is_line_start (before ++ text_after q before (xs ++ ys))
  line_start_on = grind (arith, is_line_start-after, append_assoc, text_on)

  pub items_on : (out new all : List ℕ) → new ≡ out ++ text_after q before xs → out ++ text_after q before (xs ++ ys) ≡ all → new ++ text_after q (written y) ys ≡ all
  items_on out new all is so_far = grind (arith, append_assoc, text_on)

-- the signs of a block and of what comes after it
pub block_signs : (label : Escape) (rest block after : List ℕ) → rest ≡ block ++ after → map (Byte label) rest ≡ map (Byte label) block ++ map (Byte label) after
block_signs label rest block after e = ap (map (Byte label)) e ∙ map-append (Byte label) block after

module _ (q : Apostrophes) (ps : List (Piece Escape)) (p : Piece Escape) (x : Bool) (e : x ≡ is_line_start (escaped q ps)) where
  escaped_push : escaped q (ps ++ p ∷ []) ≡ escaped q ps ++ text_after q (written x) (signs_of p)
  escaped_push = grind (arith, signs-push, text_after-append, text_after-written)

  pub piece_items_more : (old now new : List ℕ) → now ≡ old ++ escaped q ps → new ≡ now ++ text_after q (written x) (signs_of p) → new ≡ old ++ escaped q (ps ++ p ∷ [])
  piece_items_more old now new was is = grind (arith, append_assoc, escaped_push)

  pub piece_line_start_more : is_line_start (written x ++ text_after q (written x) (signs_of p)) ≡ is_line_start (escaped q (ps ++ p ∷ []))
  piece_line_start_more = sym (ap is_line_start escaped_push ∙ is_line_start-after (escaped q ps) (text_after q (written x) (signs_of p)) x e)

pub AllByRecursion-push : {X : Type 0} (P : X → Type 0) (xs : List X) (x : X) → AllByRecursion P xs → P x → AllByRecursion P (xs ++ x ∷ [])
AllByRecursion-push P [] x all here = (here, tt)
AllByRecursion-push P (y ∷ xs) x all here = (all.0, AllByRecursion-push P xs x all.1 here)

-- A piece after a text, where it is known whether the text ends a line.
module _ (q : Apostrophes) (old new : List ℕ) (p : Piece Escape) (x : Bool) (e : x ≡ is_line_start old) (is : new ≡ old ++ text_after q (written x) (signs_of p)) where
  pub piece_on : new ≡ old ++ text_after q old (signs_of p)
  piece_on = is ∙ ap (λ t. old ++ t) (sym (text_after-written q (signs_of p) old x e))

  pub piece_line_start : (y : Bool) → y ≡ is_line_start (written x ++ text_after q (written x) (signs_of p)) → y ≡ is_line_start new
  piece_line_start y h = h ∙ sym (is_line_start-after old (text_after q (written x) (signs_of p)) x e) ∙ ap is_line_start (sym is)

  pub piece_utf8 : IsUtf8 old → IsUtf8 p.text → IsUtf8 new
  piece_utf8 h k = rw is (IsUtf8-append old (text_after q (written x) (signs_of p)) h (piece_text q p (written x) k))

-- ---- a text that is continued

after_preamble : (q : Apostrophes) (t : List ℕ) → is_line_start t ≡ is_line_start (preamble_for q ++ t)
after_preamble q t = grind (arith, is_line_start-after)

one_written : (q : Apostrophes) (ps : List (Piece Escape)) (p : Piece Escape) → with_piece (text_of q ps) p ≡ text_of q (ps ++ p ∷ [])
unfolding with_piece
one_written q ps p = grind (arith, text_after-written, after_preamble, append-nil, renderings_go_on)

-- Pieces that are written after the text of others come to the text of all.
pub written_on : (q : Apostrophes) (ps more : List (Piece Escape)) → with_written (text_of q ps) more ≡ text_of q (ps ++ more)
written_on q ps [] = rw (append-nil ps) refl
written_on q ps (p ∷ more) = rw (one_written q ps p, written_on q (ps ++ p ∷ []) more, append_assoc ps (p ∷ []) more) refl
