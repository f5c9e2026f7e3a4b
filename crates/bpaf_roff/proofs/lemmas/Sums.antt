-- The laws of sums.
use Rattle.std.proofs.Common.{ap, append_assoc, append-nil, ◌≡◌, refl, Bool, List, ℕ, [], ◌∷◌, ◌++◌}
use Rattle.bpaf_roff.specs.Pieces.{Labelled, no_pieces, sum_of, with_text, with_texts}

pub sum_of_assoc : {L : Type 0} (a b c : Labelled L) → sum_of (sum_of a b) c ≡ sum_of a (sum_of b c)
sum_of_assoc a b c = ap (λ ps. record a { pieces = ps }) (append_assoc a.pieces b.pieces c.pieces)

-- adding nothing on the right changes nothing
pub sum_of-none_right : {L : Type 0} (a : Labelled L) → sum_of a no_pieces ≡ a
sum_of-none_right a = ap (λ ps. record a { pieces = ps }) (append-nil a.pieces)

-- texts appended in two steps
pub texts_follow : {L : Type 0} (eq : L → L → Bool) (m : Labelled L) (some more : List (L × List ℕ)) → with_texts eq m (some ++ more) ≡ with_texts eq (with_texts eq m some) more
texts_follow eq m [] more = refl
texts_follow eq m (x ∷ some) more = texts_follow eq (with_text eq m x.0 x.1) some more
