-- What equality of monoids says.
use Rattle.std.specs.Prelude.{◌≡◌, ◌↔◌, Bool, true, false, List, [], ◌∷◌, IsTrue, nat_eq, refl}
use Rattle.std.specs.Bool.{beq}
use Rattle.std.specs.List.{AllZip}
use Rattle.std.specs.Cmp.{IsEquivalence}
use Rattle.std.specs.Cmp.Lexicographic.{pointwise, bytes_decides}
use Rattle.std.proofs.Common.{sym, ap, subst, ◌∙◌, arith}
use Rattle.bpaf_roff.specs.Pieces.{Piece, Labelled, no_pieces, sum_of}
use Rattle.bpaf_roff.specs.Equality.{IsSamePiece, piece_eq, labelled_eq}
use Rattle.bpaf_roff.specs.Steps.Order.{labelled_equiv}
use Rattle.std.proofs.lemmas.Bool.{and_from, and_parts}
use Rattle.std.proofs.lemmas.List.Elements.{same_from_all_zip}
use Rattle.bpaf_roff.proofs.lemmas.Sums.{sum_of-none_right}

beq_tells : (x y : Bool) → (beq x y ≡ true → x ≡ y) × (x ≡ y → beq x y ≡ true)
beq_tells x y = grind arith

module _ {L : Type 0} (eq : L → L → Bool) where
  piece_eq_tells : (p r : Piece L) → IsTrue (piece_eq eq p r) ↔ IsSamePiece eq p r
  piece_eq_tells p r = (
    λ h. let parts = and_parts (eq p.label r.label) (pointwise nat_eq p.text r.text) h in (parts.0, (bytes_decides p.text r.text).0 parts.1),
    λ s. and_from (eq p.label r.label) (pointwise nat_eq p.text r.text) s.0 ((bytes_decides p.text r.text).1 s.1),
  )

  pieces_eq_tells : (ps rs : List (Piece L)) → (IsTrue (pointwise (piece_eq eq) ps rs) → AllZip (IsSamePiece eq) ps rs) × (AllZip (IsSamePiece eq) ps rs → IsTrue (pointwise (piece_eq eq) ps rs))
  pieces_eq_tells [] [] = (λ _. tt, λ _. refl)
  pieces_eq_tells [] (r ∷ rs) = (λ h. absurd cc, λ h. absurd h)
  pieces_eq_tells (p ∷ ps) [] = (λ h. absurd cc, λ h. absurd h)
  pieces_eq_tells (p ∷ ps) (r ∷ rs) = (
    λ h. let parts = and_parts (piece_eq eq p r) (pointwise (piece_eq eq) ps rs) h in ((piece_eq_tells p r).0 parts.0, (pieces_eq_tells ps rs).0 parts.1),
    λ h. and_from (piece_eq eq p r) (pointwise (piece_eq eq) ps rs) ((piece_eq_tells p r).1 h.0) ((pieces_eq_tells ps rs).1 h.1),
  )

  pub labelled_eq_tells : (m n : Labelled L) → IsTrue (labelled_eq eq m n) ↔ ((m.squash ≡ n.squash) × AllZip (IsSamePiece eq) m.pieces n.pieces)
  labelled_eq_tells m n = (
    λ h. let parts = and_parts (beq m.squash n.squash) (pointwise (piece_eq eq) m.pieces n.pieces) h in ((beq_tells m.squash n.squash).0 parts.0, (pieces_eq_tells m.pieces n.pieces).0 parts.1),
    λ s. and_from (beq m.squash n.squash) (pointwise (piece_eq eq) m.pieces n.pieces) ((beq_tells m.squash n.squash).1 s.0) ((pieces_eq_tells m.pieces n.pieces).1 s.1),
  )

  module _ (exact : (x y : L) → IsTrue (eq x y) ↔ (x ≡ y)) where
    same_piece : (p r : Piece L) → IsSamePiece eq p r → p ≡ r
    same_piece p r s = ap (λ l. record p { label = l }) ((exact p.label r.label).0 s.0) ∙ ap (λ t. record r { text = t }) s.1

    own_piece : (p : Piece L) → IsSamePiece eq p p
    own_piece p = ((exact p.label p.label).1 refl, refl)

    same_pieces : (ps rs : List (Piece L)) → AllZip (IsSamePiece eq) ps rs → ps ≡ rs
    same_pieces ps rs h = sym (same_from_all_zip (IsSamePiece eq) ps rs h (λ p r s. sym (same_piece p r s)))

    own_pieces : (ps : List (Piece L)) → AllZip (IsSamePiece eq) ps ps
    own_pieces [] = tt
    own_pieces (p ∷ ps) = (own_piece p, own_pieces ps)

    pub labelled_eq_exact : (m n : Labelled L) → IsTrue (labelled_eq eq m n) ↔ (m ≡ n)
    labelled_eq_exact m n = (
      λ h. let same = (labelled_eq_tells m n).0 h in ap (λ b. record m { squash = b }) same.0 ∙ ap (λ ps. record n { pieces = ps }) (same_pieces m.pieces n.pieces same.1),
      λ e. rw e ((labelled_eq_tells n n).1 (refl, own_pieces n.pieces)),
    )

module _ {L : Type 0} {eq : L → L → Bool} (laws : IsEquivalence eq) where
  pub right_equal : (m : Labelled L) → IsTrue (labelled_eq eq (sum_of m no_pieces) m)
  right_equal m = subst (λ n. IsTrue (labelled_eq eq n m)) (sym (sum_of-none_right m)) ((labelled_equiv laws).refl m)

  -- each piece is equal to itself
  own : (m : Labelled L) → AllZip (IsSamePiece eq) m.pieces m.pieces
  own m = ((labelled_eq_tells eq m m).0 ((labelled_equiv laws).refl m)).1

  pub left_equal : (m : Labelled L) → IsTrue (labelled_eq eq (sum_of no_pieces m) m) ↔ (m.squash ≡ false)
  left_equal m = (λ h. sym ((labelled_eq_tells eq (sum_of no_pieces m) m).0 h).0, λ e. (labelled_eq_tells eq (sum_of no_pieces m) m).1 (sym e, own m))
