-- What clones of labels keep of where the texts end, and of the pieces that they show.
use Rattle.std.specs.Prelude.{◌≡◌, ℕ, ◌+◌, ◌<◌, suc, Bool, IsTrue, List, [], ◌∷◌, ◌++◌, take, length, refl}
use Rattle.std.proofs.Common.{ap, sym, ◌∙◌, append_assoc, arith}
use Rattle.std.proofs.lemmas.List.{map-append}
use Rattle.std.proofs.lemmas.List.Elements.{AllZip-push, same_from_all_zip}
use Rattle.std.proofs.Math.Seq.{take-suc}
use Rattle.std.proofs.Math.ListN.{get_or}
use Rattle.std.specs.List.{AllZip}
use Rattle.bpaf_roff.specs.Equality.{IsSamePiece}
use Rattle.bpaf_roff.specs.Pieces.{Piece, Labelled, sum_of, IsCopyOf, AreCopies, IsSumOf, ClonesAreSame}
use Rattle.bpaf_roff.specs.Steps.Labels.{pieces_of, Cuts, shifted, AreClones, EndsInClones}
use Rattle.bpaf_roff.specs.declared.monoid.Label.{Label}
use Rattle.bpaf_roff.proofs.lemmas.Labels.{labelled, pieces_of-append, Cuts-append, pieces_of-shifted, Cuts-shifted}

take-next : {X : Type 0} (xs : List X) (i : ℕ) (x : X) → i < length xs → x ≡ get_or xs i x → take (i + 1) xs ≡ take i xs ++ x ∷ []
take-next xs i x within is = let e : i + 1 ≡ suc i = omega arith in rw e (take-suc xs i x within ∙ ap (λ y. take i xs ++ y ∷ []) (sym is))

module _ {T : Type 0} (clones : T → T → Type 0) where
  EndsInClones-push : (labels more : List (Label T)) (by : ℕ) (new : List (Label T)) (l : Label T) (t : T) → EndsInClones clones labels more by new → clones l.label t
      → EndsInClones clones labels (more ++ l ∷ []) by (new ++ record { end = by + l.end; label = t } ∷ [])
  EndsInClones-push labels more by new l t h c = record {
    copies = h.copies ++ record { end = l.end; label = t } ∷ [];
    are_clones = AllZip-push (λ (l m : Label T). (m.end ≡ l.end) × clones l.label m.label) more h.copies l (record { end = l.end; label = t }) h.are_clones (refl, c);
    labels_then =
        ap (λ xs. xs ++ record { end = by + l.end; label = t } ∷ []) h.labels_then
        ∙ append_assoc labels (shifted by h.copies) (record { end = by + l.end; label = t } ∷ [])
        ∙ ap (λ xs. labels ++ xs) (sym (map-append (λ (l : Label T). record l { end = by + l.end }) h.copies (record { end = l.end; label = t } ∷ [])));
  }

  -- and after the next one of a list
  pub EndsInClones-next : (labels more : List (Label T)) (by i : ℕ) (old new : List (Label T)) (l : Label T) (t : T) → EndsInClones clones labels (take i more) by old
      → i < length more → l ≡ get_or more i l → clones l.label t → new ≡ old ++ record { end = by + l.end; label = t } ∷ [] → EndsInClones clones labels (take (i + 1) more) by new
  EndsInClones-next labels more by i old new l t h within is c e =
      rw (e, take-next more i l within is) (EndsInClones-push labels (take i more) by old l t h c)

  -- the cuts are the same
  pub Cuts-clones : (ls ms : List (Label T)) (at : ℕ) (p : List ℕ) → AreClones clones ls ms → Cuts ls at p → Cuts ms at p
  Cuts-clones [] ms at p all c = grind arith
  Cuts-clones (l ∷ ls) ms at p all c = grind (arith, Cuts-clones ls)

  -- and the pieces are copies
  pub AreCopies-pieces : (ls ms : List (Label T)) (at : ℕ) (p : List ℕ) → AreClones clones ls ms → AreCopies clones (pieces_of ls at p) (pieces_of ms at p)
  AreCopies-pieces [] ms at p all = grind arith
  AreCopies-pieces (l ∷ ls) ms at p all = grind (arith, AreCopies-pieces ls)

  -- where a clone is always the same value, copies are what they are copies of
  AreCopies-same : ClonesAreSame clones → (ps qs : List (Piece T)) → AreCopies clones ps qs → qs ≡ ps
  AreCopies-same same ps qs = λ all. same_from_all_zip (IsCopyOf clones) ps qs all (λ p q c. ap (λ t. record { label = q.label; text = t }) c.0 ∙ ap (λ l. record { label = l; text = p.text }) (same p.label q.label c.1))

  pub IsSumOf-same : ClonesAreSame clones → (left right sum : Labelled T) → IsSumOf clones left right sum → sum ≡ sum_of left right
  IsSumOf-same same left right sum h = h.is_sum ∙ ap (λ ps. record left { pieces = left.pieces ++ ps }) (AreCopies-same same right.pieces h.copies h.are_copies)

  -- a payload and the one of the clones after it
  pub sum_shown : (squash : Bool) (ls ms new : List (Label T)) (by : ℕ) (p q : List ℕ) (right : Labelled T) → Cuts ls 0 p → Cuts ms 0 q → by ≡ length p → right.pieces ≡ pieces_of ms 0 q
      → EndsInClones clones ls ms by new → IsSumOf clones (labelled squash (pieces_of ls 0 p)) right (labelled squash (pieces_of new 0 (p ++ q)))
  sum_shown squash ls ms new by p q right mine theirs place is h = grind (arith, AreCopies-pieces ms h.copies 0 q h.are_clones, pieces_of-append ls (shifted by h.copies) 0 (by + 0) p q mine, pieces_of-shifted by h.copies 0 q)

  pub sum_cut : (ls ms new : List (Label T)) (by : ℕ) (p q : List ℕ) → Cuts ls 0 p → Cuts ms 0 q → by ≡ length p → EndsInClones clones ls ms by new → Cuts new 0 (p ++ q)
  sum_cut ls ms new by p q mine theirs place h = grind (arith, Cuts-append ls (shifted by h.copies) 0 (by + 0) p q mine, Cuts-shifted by h.copies 0 q, Cuts-clones ms h.copies 0 q h.are_clones theirs)

-- copies are equal to what they are copies of, where clones are
pub equal_copies : {T : Type 0} (clones : T → T → Type 0) (eq : T → T → Bool) → ((x y : T) → clones x y → IsTrue (eq x y)) → (ps qs : List (Piece T)) → AreCopies clones ps qs → AllZip (IsSamePiece eq) ps qs
equal_copies clones eq equal [] qs all = grind arith
equal_copies clones eq equal (p ∷ ps) qs all = grind (arith, equal, equal_copies clones eq equal ps)

pub ruleset clone_lemmas = (EndsInClones-next)
