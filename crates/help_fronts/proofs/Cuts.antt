-- The first piece of a text, and the pieces of what stands after it.
use Rattle.std.proofs.Common.{◌≡◌, ℕ, suc, ◌+◌, ◌<◌, ◌≤◌, Bool, true, false, cond, List, [], ◌∷◌, length, drop, take, get_or, refl, sym, ap, ◌∙◌, subst, arith, one-add, ◌⊎◌, inl, inr}
use Rattle.std.specs.List.{onto_first}
use Rattle.std.proofs.lemmas.Bool.Decides.{nat_tests}
use Rattle.std.specs.Str.{IsCharBoundary}
use Rattle.std.proofs.lemmas.Str.{IsCharBoundary-end, IsCharBoundary-before_ascii}
use Rattle.std.proofs.lemmas.Bool.{cases_lt}
use Rattle.help_fronts.specs.Pieces.{deeper, is_cut, onto_pieces, pieces, pieces_after, rest_len}

pub rest_within : (depth before : ℕ) (bs : List ℕ) → rest_len depth before bs ≤ length bs
rest_within depth before [] = omega arith
rest_within depth before (b ∷ bs) = by (is_cut depth before b) (rest_within (deeper depth b) b bs) where
  by : (t : Bool) → rest_len (deeper depth b) b bs ≤ length bs → cond t 0 (1 + rest_len (deeper depth b) b bs) ≤ suc (length bs)
  by true h = omega arith
  by false h = omega arith

cut_ascii : (depth before b : ℕ) → is_cut depth before b ≡ true → b < 128
cut_ascii depth before b h = grind (arith, nat_tests)

cut_outside : (depth before b : ℕ) → is_cut depth before b ≡ true → depth ≡ 0
cut_outside depth before b h = grind (arith, nat_tests)

rest_ascii : (depth before : ℕ) (bs : List ℕ) → rest_len depth before bs < length bs → get_or bs (rest_len depth before bs) 0 < 128
rest_ascii depth before [] h = absurd (omega arith)
rest_ascii depth before (b ∷ bs) h = by (is_cut depth before b) refl (rest_ascii (deeper depth b) b bs) h where
  by : (t : Bool) → is_cut depth before b ≡ t → (rest_len (deeper depth b) b bs < length bs → get_or bs (rest_len (deeper depth b) b bs) 0 < 128) → cond t 0 (1 + rest_len (deeper depth b) b bs) < suc (length bs)
      → get_or (b ∷ bs) (cond t 0 (1 + rest_len (deeper depth b) b bs)) 0 < 128
  by true e below l = cut_ascii depth before b e
  by false e below l = subst (λ m. get_or (b ∷ bs) m 0 < 128) (sym (one-add (rest_len (deeper depth b) b bs))) (below (omega arith))

pub piece_ends : (text bs : List ℕ) (b depth before n : ℕ) → text ≡ b ∷ bs → n ≡ rest_len depth before bs → IsCharBoundary text (1 + n)
piece_ends text bs b depth before n e h =
    subst (λ m. IsCharBoundary text (1 + m)) (sym h) (subst (λ t. IsCharBoundary t (1 + rest_len depth before bs)) (sym e) (subst (IsCharBoundary (b ∷ bs)) (sym (one-add (rest_len depth before bs))) (by (cases_lt (rest_len depth before bs) (length bs))))) where
      by : (rest_len depth before bs < length bs) ⊎ (length bs ≤ rest_len depth before bs) → IsCharBoundary (b ∷ bs) (suc (rest_len depth before bs))
      by (inl l) = IsCharBoundary-before_ascii (b ∷ bs) (suc (rest_len depth before bs)) (omega arith) (rest_ascii depth before bs l)
      by (inr g) = let within = rest_within depth before bs in let e : suc (rest_len depth before bs) ≡ suc (length bs) = omega arith in subst (IsCharBoundary (b ∷ bs)) (sym e) (IsCharBoundary-end (b ∷ bs))

cut : (depth before : ℕ) (bs : List ℕ) → pieces_after depth before bs ≡ take (rest_len depth before bs) bs ∷ pieces (drop (rest_len depth before bs) bs)
cut depth before [] = refl
cut depth before (b ∷ bs) = by (is_cut depth before b) refl (cut (deeper depth b) b bs) where
  by : (t : Bool) → is_cut depth before b ≡ t → pieces_after (deeper depth b) b bs ≡ take (rest_len (deeper depth b) b bs) bs ∷ pieces (drop (rest_len (deeper depth b) b bs) bs)
      → onto_pieces t b (pieces_after (deeper depth b) b bs) ≡ take (cond t 0 (1 + rest_len (deeper depth b) b bs)) (b ∷ bs) ∷ pieces (drop (cond t 0 (1 + rest_len (deeper depth b) b bs)) (b ∷ bs))
  by true e below = ap (λ d. [] ∷ onto_first b (pieces_after (deeper d b) b bs)) (cut_outside depth before b e)
  by false e below = ap (onto_first b) below ∙ sym (ap (λ m. take m (b ∷ bs) ∷ pieces (drop m (b ∷ bs))) (one-add (rest_len (deeper depth b) b bs)))

pub first_cut : (text bs : List ℕ) (b n : ℕ) → text ≡ b ∷ bs → n ≡ rest_len (deeper 0 b) b bs → pieces text ≡ take (1 + n) text ∷ pieces (drop (1 + n) text)
first_cut text bs b n e h =
    ap pieces e ∙ ap (onto_first b) (cut (deeper 0 b) b bs) ∙ sym (ap (λ m. take m (b ∷ bs) ∷ pieces (drop m (b ∷ bs))) (ap (λ m. 1 + m) h ∙ one-add (rest_len (deeper 0 b) b bs)))
    ∙ sym (ap (λ t. take (1 + n) t ∷ pieces (drop (1 + n) t)) e)
