-- The laws of the equality of monoids, which its implementation cites.
use Rattle.std.specs.Prelude.{Bool}
use Rattle.std.specs.Cmp.{IsPartialEquivalence, IsEquivalence, partial_equiv_from_equiv, on_per, and_per, bool_eq_equiv}
use Rattle.std.specs.Cmp.Lexicographic.{lists_per}
use Rattle.std.proofs.lemmas.Cmp.{on_equiv, and_equiv, lists_equiv, nat_list_eq_equiv}
use Rattle.bpaf_roff.specs.Pieces.{Piece, Labelled}
use Rattle.bpaf_roff.specs.Equality.{labelled_eq}

module _ {L : Type 0} where
  pub labelled_per : {eq : L → L → Bool} → IsPartialEquivalence eq → IsPartialEquivalence (labelled_eq eq)
  labelled_per per =
      and_per (on_per (λ (m : Labelled L). m.squash) (partial_equiv_from_equiv bool_eq_equiv))
      (on_per (λ (m : Labelled L). m.pieces)
      (lists_per (and_per (on_per (λ (p : Piece L). p.label) per)
      (on_per (λ (p : Piece L). p.text) (partial_equiv_from_equiv nat_list_eq_equiv)))))

  pub labelled_equiv : {eq : L → L → Bool} → IsEquivalence eq → IsEquivalence (labelled_eq eq)
  labelled_equiv equiv =
      and_equiv (on_equiv (λ (m : Labelled L). m.squash) bool_eq_equiv)
      (on_equiv (λ (m : Labelled L). m.pieces)
      (lists_equiv (and_equiv (on_equiv (λ (p : Piece L). p.label) equiv)
      (on_equiv (λ (p : Piece L). p.text) nat_list_eq_equiv))))
