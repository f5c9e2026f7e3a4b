-- What was written is taken off again.
use Rattle.std.specs.Prelude.{◌++◌, ◌+◌, ◌-◌, ◌∷◌, ◌≡◌, ◌≤◌}
use Rattle.bpaf_doc.proofs.lemmas.Buffer.Words.{ℕ, List, [], length, take, drop, sym, refl, ap, ◌∙◌, arith, length-append, length-drop, length-take, append_assoc, append-nil, subst, IsUtf8, drop-take, drop_all, length-take-le, take-take, take_at, All-head, All-tail, Style, Kind, PartEnd, AreEnds, IsEnd, MayTake, part_with, parts_from, with_last_end, Grows, Reached, IsCheckpointOf, Part, Text, Start, End, HasUtf8Texts, document_bytes, part_bytes, Write, with_text, with_write, with_writes}

-- a part now is the part before, or a text that became longer
IsLonger : Part → Part → Type 0
IsLonger (Text bytes style) now = (more : List ℕ) × (now ≡ Text (bytes ++ more) style)
IsLonger (Start b) now = now ≡ Start b
IsLonger (End b) now = now ≡ End b

-- the last part before may have become longer, and others may stand after it
abbrev Extends : List Part → List Part → Type 0
Extends [] now = Unit {0}
Extends (p ∷ ps) [] = ⊥
Extends (p ∷ []) (q ∷ qs) = IsLonger p q
Extends (p ∷ p' ∷ ps) (q ∷ qs) = (q ≡ p) × Extends (p' ∷ ps) qs

IsLonger-refl : (p : Part) → IsLonger p p
unfolding IsLonger
IsLonger-refl p = grind (arith, append-nil)

Extends-refl : (ps : List Part) → Extends ps ps
Extends-refl (p ∷ p' ∷ ps) = (refl, Extends-refl (p' ∷ ps))
Extends-refl x = grind (arith, IsLonger-refl)

Extends-append : (ps qs rs : List Part) → Extends ps qs → Extends ps (qs ++ rs)
Extends-append (p ∷ p' ∷ ps) (q ∷ qs) rs h = (h.0, Extends-append (p' ∷ ps) qs rs h.1)
Extends-append x y rs h = grind arith

-- a longer part stays longer as a text joins it
longer_still : (p : Part) (before bytes : List ℕ) (style : Style) → IsLonger p (Text before style) → IsLonger p (Text (before ++ bytes) style)
unfolding IsLonger
longer_still p before bytes style h = grind (arith, append_assoc)

Extends-with_text : (ps qs : List Part) (bytes : List ℕ) (style : Style) → Extends ps qs → Extends ps (with_text qs bytes style)
Extends-with_text (p ∷ []) (q ∷ []) bytes style h = grind (arith, longer_still)
Extends-with_text (p ∷ p' ∷ ps) (q ∷ r ∷ qs) bytes style h = (h.0, Extends-with_text (p' ∷ ps) (r ∷ qs) bytes style h.1)
Extends-with_text ps qs bytes style h = grind arith

Extends-with_writes : (ps qs : List Part) (ws : List Write) → Extends ps qs → Extends ps (with_writes qs ws)
Extends-with_writes ps qs [] h = h
Extends-with_writes ps qs (w ∷ ws) h =
    Extends-with_writes ps (with_write qs w) ws (grind (arith, Extends-with_text, Extends-append))

Extends-Grows : (ps qs : List Part) → Grows ps qs → Extends ps qs
Extends-Grows ps qs (ws, is) = subst (λ rs. Extends ps rs) (sym is) (Extends-with_writes ps ps ws (Extends-refl ps))

-- ---- the ends of a document that grew, cut back to those before

-- what a longer part is cut back to
module _ (k : Kind) (n : ℕ) (rest : List ℕ) where
  pub IsCutBack : Part → Type 0
  IsCutBack p = (length (part_bytes p) ≤ n) × (part_with k (take (length (part_bytes p)) rest) ≡ p) × (take (length (part_bytes p)) rest ≡ part_bytes p) × MayTake k (length (part_bytes p))

front_is : (n : ℕ) (rest bytes more : List ℕ) → take n rest ≡ bytes ++ more → (length bytes ≤ n) × (take (length bytes) rest ≡ bytes)
front_is n rest bytes more is = grind (arith, length-append bytes more, length-take n rest, take-take (length bytes) n rest, take_at bytes more (length bytes) refl)

cut_back : (k : Kind) (n : ℕ) (rest : List ℕ) (p : Part) → IsLonger p (part_with k (take n rest)) → IsCutBack k n rest p
unfolding IsLonger IsCutBack
cut_back k n rest (Text bytes style) (more, is) = grind (arith, front_is n rest bytes more)
cut_back s n rest t is = grind arith

-- the ends and the payload cut back to a document, of which `last` is the end
pub record IsCut (start last : ℕ) (es : List PartEnd) (rest : List ℕ) (ps : List Part) : Type 0 where
  pub within : last - start ≤ length rest
  pub shows : parts_from start (with_last_end (take (length ps) es) last) (take (last - start) rest) ≡ ps
  pub are : AreEnds start (with_last_end (take (length ps) es) last) (take (last - start) rest)

cut_last : (start last : ℕ) (e : PartEnd) (es : List PartEnd) (rest : List ℕ) (p : Part) → last ≡ start + length (document_bytes (p ∷ []))
    → IsEnd start e rest → IsUtf8 (part_bytes p) → IsCutBack e.kind (e.end - start) rest p → IsCut start last (e ∷ es) rest (p ∷ [])
unfolding IsCutBack
cut_last start last e es rest p at is utf8 cut = grind (arith, length-append, take-take, length-take-le, drop_all)

cut_next : (start last : ℕ) (e f : PartEnd) (es : List PartEnd) (rest : List ℕ) (p q : Part) (ps : List Part) → last ≡ start + length (document_bytes (p ∷ q ∷ ps))
    → IsEnd start e rest → part_with e.kind (take (e.end - start) rest) ≡ p → IsCut e.end last (f ∷ es) (drop (e.end - start) rest) (q ∷ ps) → IsCut start last (e ∷ f ∷ es) rest (p ∷ q ∷ ps)
cut_next start last e f es rest p q ps at is shown cut =
    let n = e.end - start in
    let back = last - e.end in
    let bytes : length (part_bytes p) ≡ n = grind (arith, length-take-le) in
    let width : last - start ≡ n + back = omega (arith, at, bytes, is.not_below, length-append (part_bytes p) (document_bytes (q ∷ ps))) in
    let left : length (drop n rest) ≡ length rest - n = length-drop n rest in
    let front : take n (take (n + back) rest) ≡ take n rest = take-take n (n + back) rest (omega arith) in
    let after : drop n (take (n + back) rest) ≡ take back (drop n rest) = drop-take n back rest in
    record {
      within = omega (arith, width, cut.within, is.within);
      shows = rw (width, front, after) (ap (λ x. x ∷ parts_from e.end (with_last_end (take (length (q ∷ ps)) (f ∷ es)) last) (take back (drop n rest))) shown ∙ ap (λ xs. p ∷ xs) cut.shows);
      are = rw (width, after) (
        record {
          not_below = is.not_below;
          within = omega (arith, length-take-le (n + back) rest (omega (arith, left, cut.within, is.within)));
          utf8 = rw front is.utf8;
          taken = is.taken;
        },
        cut.are,
      );
    }

cut_all : (ps : List Part) (start last : ℕ) (es : List PartEnd) (rest : List ℕ) → last ≡ start + length (document_bytes ps)
    → AreEnds start es rest → HasUtf8Texts ps → Extends ps (parts_from start es rest) → IsCut start last es rest ps
cut_all (p ∷ []) start last (e ∷ es) rest at are utf8 h =
    cut_last start last e es rest p at are.0 (All-head (λ part. IsUtf8 (part_bytes part)) p [] utf8) (cut_back e.kind (e.end - start) rest p h)
cut_all (p ∷ q ∷ ps) start last (e ∷ f ∷ es) rest at are utf8 h =
    let n = e.end - start in
    let bytes : length (part_bytes p) ≡ n = grind (arith, length-take-le) in
    cut_next start last e f es rest p q ps at are.0 h.0
    (cut_all (q ∷ ps) e.end last (f ∷ es) (drop n rest) (omega (arith, at, bytes, are.0.not_below, length-append (part_bytes p) (document_bytes (q ∷ ps)))) are.1
    (All-tail (λ part. IsUtf8 (part_bytes part)) p (q ∷ ps) utf8) h.1)
cut_all ps start last es rest at are utf8 h = grind arith

-- a document that only grew since the checkpoint, cut back
pub is_cut : (es : List PartEnd) (payload : List ℕ) (before : List Part) (at : Reached) → AreEnds 0 es payload → IsCheckpointOf before at → Grows before (parts_from 0 es payload)
    → IsCut 0 at.bytes es payload before
is_cut es payload before at are was grows =
    cut_all before 0 at.bytes es payload (omega (arith, was.bytes)) are was.utf8 (Extends-Grows before (parts_from 0 es payload) grows)
