-- Facts of lines that are read one by one.
use Rattle.std.proofs.Common.{◌≡◌, ℕ, zero, suc, ◌+◌, ◌<◌, List, [], ◌∷◌, ◌++◌, length, reverse, refl, sym, ap, subst, ◌∙◌, arith, map, drop, Option, Some, None, set, get_or, append_assoc}
use Rattle.std.proofs.lemmas.List.{map-append, append-nil}
use Rattle.std.proofs.lemmas.Grind.{reverse_onto}
use Rattle.help_blocks.specs.declared.shape.Shape.{Shape}
use Rattle.help_blocks.specs.declared.place.Kind.{Kind}
use Rattle.help_blocks.specs.declared.place.Place.{Place}
use Rattle.help_blocks.specs.declared.cut.Block.{Block}
use Rattle.help_blocks.specs.Shapes.{first_shape}
use Rattle.help_blocks.specs.Above.{Line, place_of}
use Rattle.help_blocks.specs.Rules.{begun}
use Rattle.help_blocks.specs.Steps.{after, lengthened, with_line}
use Rattle.help_blocks.specs.Blocks.{Pair, Start, FollowOn, pairs, read, start_of, started, starts}

-- the last block, with another end
pub set-last : (bs : List Block) (k : ℕ) (b : Block) (e : ℕ) → length bs ≡ k + 1 → get_or bs k b ≡ b → set bs k (record b { end = e }) ≡ lengthened bs e
set-last [] k b e l h = absurd (omega arith)
set-last (x ∷ []) zero b e l h = ap (λ (y : Block). record y { end = e } ∷ []) (sym h)
set-last (x ∷ []) (suc k) b e l h = absurd (omega arith)
set-last (x ∷ y ∷ bs) zero b e l h = absurd (omega arith)
set-last (x ∷ y ∷ bs) (suc k) b e l h = ap (λ (t : List Block). x ∷ t) (set-last (y ∷ bs) k b e (omega arith) h)

pub starts-lengthened : (bs : List Block) (e : ℕ) → map start_of (lengthened bs e) ≡ map start_of bs
starts-lengthened [] e = refl
starts-lengthened (b ∷ []) e = refl
starts-lengthened (b ∷ c ∷ bs) e = ap (λ (t : List Start). start_of b ∷ t) (starts-lengthened (c ∷ bs) e)

-- the first lines of blocks with a line more
pub starts-with_line : (bs : List Block) (n : ℕ) (k : Option Kind) → map start_of (with_line bs n k) ≡ map start_of bs ++ started n k
starts-with_line bs n (Some k) = map-append start_of bs _
starts-with_line bs n None = starts-lengthened bs (n + 1) ∙ sym (append-nil (map start_of bs))

-- blocks up to one line, with this line in the last of them
pub follow-lengthened : (first n : ℕ) (b : Block) (bs : List Block) → FollowOn first (b ∷ bs) n → FollowOn first (lengthened (b ∷ bs) (n + 1)) (n + 1)
follow-lengthened first n b [] h = (h.0, omega (arith, h.1, h.2), refl)
follow-lengthened first n b (c ∷ bs) h = (h.0, h.1, follow-lengthened b.end n c bs h.2)

-- and with this line as a block
pub follow-pushed : (first n : ℕ) (k : Kind) (bs : List Block) → FollowOn first bs n → FollowOn first (with_line bs n (Some k)) (n + 1)
follow-pushed first n k [] h = (sym h, omega arith, refl)
follow-pushed first n k (b ∷ bs) h = (h.0, h.1, follow-pushed b.end n k bs h.2)

pub follow-with_line : (n : ℕ) (bs : List Block) (k : Option Kind) → (0 ≡ n → k ≡ None → ⊥) → FollowOn 0 bs n → FollowOn 0 (with_line bs n k) (n + 1)
follow-with_line n bs (Some k) some h = follow-pushed 0 n k bs h
follow-with_line n [] None some h = absurd (some h refl)
follow-with_line n (b ∷ bs) None some h = follow-lengthened 0 n b bs h

-- what has been read, the last line first
pub record IsRead (all rest : List Pair) (place : Place) (blocks : List Block) (number : ℕ) : Type 0 where
  pub seen : List Pair
  pub whole : reverse all ≡ reverse rest ++ seen
  pub place_is : place ≡ place_of (read seen)
  pub number_is : number ≡ length (read seen)
  pub starts_are : map start_of blocks ≡ starts (read seen)
  pub follow : FollowOn 0 blocks number

pub read-none : (all : List Pair) (place : Place) (blocks : List Block) → place ≡ place_of [] → blocks ≡ [] → IsRead all all place blocks 0
read-none all place blocks p e = record {
  seen = [];
  whole = sym (append-nil (reverse all));
  place_is = p;
  number_is = refl;
  starts_are = ap (λ (bs : List Block). map start_of bs) e;
  follow = let P : List Block → Type 0 = λ bs. FollowOn 0 bs 0 in subst P (sym e) refl;
}

-- a line that is below no other begins a block
pub some-begun : (seen : List Pair) (s t : Shape) → 0 ≡ length (read seen) → begun (place_of (read seen)) s t ≡ None → ⊥
some-begun [] s t l h = cc
some-begun (p ∷ ps) s t l h = omega arith

place-after : (s : Shape) (k : Option Kind) (above : List Line) → place_of (record { shape = s; begun = k } ∷ above) ≡ after (place_of above) s k
place-after s k above = refl

same-starts : (xs ys : List Start) (n m : ℕ) (k j : Option Kind) → xs ≡ ys → n ≡ m → k ≡ j → xs ++ started n k ≡ ys ++ started m j
same-starts xs ys n m k j x y z = cc

reverse-more : (p : Pair) (ps seen : List Pair) → reverse (p ∷ ps) ++ seen ≡ reverse ps ++ (p ∷ seen)
reverse-more p ps seen = ap (λ (t : List Pair). t ++ seen) (reverse_onto ps p []) ∙ append_assoc (reverse ps) (p ∷ []) seen

read-more : (all below : List Pair) (p : Pair) (place : Place) (blocks : List Block) (n : ℕ) → IsRead all (p ∷ below) place blocks n
    → IsRead all below (after place p.here (begun place p.here p.next)) (with_line blocks n (begun place p.here p.next)) (n + 1)
read-more all below p place blocks n r =
    let same : begun place p.here p.next ≡ begun (place_of (read r.seen)) p.here p.next = ap (λ (q : Place). begun q p.here p.next) r.place_is in
    record {
      seen = p ∷ r.seen;
      whole = r.whole ∙ reverse-more p below r.seen;
      place_is = ap (λ (q : Place). after q p.here (begun q p.here p.next)) r.place_is ∙ sym (place-after p.here (begun (place_of (read r.seen)) p.here p.next) (read r.seen));
      number_is = omega (arith, r.number_is);
      starts_are = starts-with_line blocks n (begun place p.here p.next) ∙ same-starts _ _ _ _ _ _ r.starts_are r.number_is same;
      follow = follow-with_line n blocks (begun place p.here p.next) (λ z e. some-begun r.seen p.here p.next (z ∙ r.number_is) (sym same ∙ e)) r.follow;
    }

abbrev pair : Shape → Shape → Pair
pair s t = record { here = s; next = t }

pairs-more : (lines below : List (List ℕ)) (line : List ℕ) (s t : Shape) → lines ≡ line ∷ below → s ≡ first_shape lines → t ≡ first_shape below → pairs lines ≡ pair s t ∷ pairs below
pairs-more lines below line s t e h k =
    ap pairs e ∙ ap (λ (x : Shape). pair x (first_shape below) ∷ pairs below) (sym (h ∙ ap first_shape e)) ∙ ap (λ (y : Shape). pair s y ∷ pairs below) (sym k)

along : (all rest more : List Pair) (place : Place) (blocks : List Block) (n : ℕ) → rest ≡ more → IsRead all rest place blocks n → IsRead all more place blocks n
along all rest more place blocks n e r = let P : List Pair → Type 0 = λ ps. IsRead all ps place blocks n in subst P e r

along-result : (all rest : List Pair) (place place' : Place) (blocks blocks' : List Block) (n : ℕ) → place' ≡ place → blocks' ≡ blocks → IsRead all rest place blocks n → IsRead all rest place' blocks' n
along-result all rest place place' blocks blocks' n e f r =
    let P : Place → Type 0 = λ q. IsRead all rest q blocks n in
    let Q : List Block → Type 0 = λ bs. IsRead all rest place' bs n in
    subst Q (sym f) (subst P (sym e) r)

same-after : (place place' : Place) (s t : Shape) (k : Option Kind) → k ≡ begun place s t → place' ≡ after place s k → place' ≡ after place s (begun place s t)
same-after place place' s t k e h = h ∙ ap (λ (j : Option Kind). after place s j) e

same-line : (bs bs' : List Block) (n : ℕ) (k j : Option Kind) → k ≡ j → bs' ≡ with_line bs n k → bs' ≡ with_line bs n j
same-line bs bs' n k j e h = h ∙ ap (λ (i : Option Kind). with_line bs n i) e

-- one more line
pub read-line : (all : List Pair) (lines below : List (List ℕ)) (line : List ℕ) (s t : Shape) (k : Option Kind) (place place' : Place) (blocks blocks' : List Block) (n : ℕ)
    → IsRead all (pairs lines) place blocks n → lines ≡ line ∷ below → s ≡ first_shape lines → t ≡ first_shape below → k ≡ begun place s t → place' ≡ after place s k → blocks' ≡ with_line blocks n k
    → IsRead all (pairs below) place' blocks' (n + 1)
read-line all lines below line s t k place place' blocks blocks' n r e h i j p b =
    along-result all (pairs below) (after place s (begun place s t)) place' (with_line blocks n (begun place s t)) blocks' (n + 1)
    (same-after place place' s t k j p) (same-line blocks blocks' n k (begun place s t) j b)
    (read-more all (pairs below) (pair s t) place blocks n (along all (pairs lines) (pair s t ∷ pairs below) place blocks n (pairs-more lines below line s t e h i) r))

pub read-step : {X : Type 0} (f : X → List ℕ) (all : List Pair) (lines below : List X) (s t : Shape) (k : Option Kind) (place place' : Place) (blocks blocks' : List Block) (n : ℕ)
    → IsRead all (pairs (map f lines)) place blocks n → 0 < length lines → below ≡ drop 1 lines → s ≡ first_shape (map f lines) → t ≡ first_shape (map f below)
    → k ≡ begun place s t → place' ≡ after place s k → blocks' ≡ with_line blocks n k → IsRead all (pairs (map f below)) place' blocks' (n + 1)
read-step f all [] below s t k place place' blocks blocks' n r l e h i j p b = absurd (omega arith)
read-step f all (x ∷ xs) below s t k place place' blocks blocks' n r l e h i j p b =
    read-line all (f x ∷ map f xs) (map f below) (f x) s t k place place' blocks blocks' n r (ap (λ ys. f x ∷ map f ys) (sym e)) h i j p b

-- all lines
pub read-all : {X : Type 0} (f : X → List ℕ) (lines rest : List X) (place : Place) (blocks : List Block) (n : ℕ) → length rest ≡ 0
    → IsRead (pairs (map f lines)) (pairs (map f rest)) place blocks n → map start_of blocks ≡ starts (read (reverse (pairs (map f lines))))
read-all f lines [] place blocks n l r = r.starts_are ∙ ap (λ (ps : List Pair). starts (read ps)) (sym r.whole)
read-all f lines (x ∷ xs) place blocks n l r = absurd (omega arith)

pub follow-to : (a n m : ℕ) (bs : List Block) → n ≡ m → FollowOn a bs n → FollowOn a bs m
follow-to a n m bs e h = let P : ℕ → Type 0 = λ k. FollowOn a bs k in subst P e h
