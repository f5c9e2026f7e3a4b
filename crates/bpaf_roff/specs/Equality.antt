-- When two monoids are equal: the same pieces, and the same setting.
use Rattle.std.specs.Prelude.{◌≡◌, IsTrue, Bool, nat_eq}
use Rattle.std.specs.Bool.{beq}
use Rattle.std.specs.Ordering.{on, eq_of_both}
use Rattle.std.specs.Cmp.Lexicographic.{pointwise}
use Rattle.bpaf_roff.specs.Pieces.{Piece, Labelled}

module _ {L : Type 0} where
  -- the labels are equal, and the texts are the same
  abbrev pub IsSamePiece : (L → L → Bool) → Piece L → Piece L → Type 0
  IsSamePiece eq p q = IsTrue (eq p.label q.label) × (p.text ≡ q.text)

  -- the same as a test
  abbrev pub piece_eq : (L → L → Bool) → Piece L → Piece L → Bool
  piece_eq eq = eq_of_both (on (λ (p : Piece L). p.label) eq) (on (λ (p : Piece L). p.text) (pointwise nat_eq))

  -- as many pieces, each equal to the one in its place, and the same setting
  abbrev pub labelled_eq : (L → L → Bool) → Labelled L → Labelled L → Bool
  labelled_eq eq =
      eq_of_both (on (λ (m : Labelled L). m.squash) beq) (on (λ (m : Labelled L). m.pieces) (pointwise (piece_eq eq)))
