-- Where the value ends that a text begins with.
use Rattle.std.proofs.Common.{◌≡◌, ℕ, suc, zero, ◌+◌, ◌<◌, ◌≤◌, Bool, true, false, cond, List, [], ◌∷◌, length, length-take, take, get_or, refl, sym, subst, arith, one-add, ◌⊎◌, inl, inr, nat_lt}
use Rattle.std.proofs.lemmas.Bool.Decides.{nat_tests}
use Rattle.std.specs.Str.{IsCharBoundary, IsUtf8}
use Rattle.std.proofs.lemmas.Str.{IsCharBoundary-end, IsCharBoundary-start, IsCharBoundary-before_ascii}
use Rattle.std.proofs.lemmas.Bool.{cases_lt}
use Rattle.help_fronts.specs.Pieces.{deeper}
use Rattle.help_fronts.specs.Usages.{ends_value, len_of_value, value_len}

pub value_within : (depth before : ℕ) (bs : List ℕ) → value_len depth before bs ≤ length bs
value_within depth before [] = omega arith
value_within depth before (b ∷ bs) = by (ends_value depth before b) (value_within (deeper depth b) b bs) where
  by : (t : Bool) → value_len (deeper depth b) b bs ≤ length bs → cond t 0 (1 + value_len (deeper depth b) b bs) ≤ suc (length bs)
  by true h = omega arith
  by false h = omega arith

end_ascii : (depth before b : ℕ) → ends_value depth before b ≡ true → b < 128
end_ascii depth before b h = grind (arith, nat_tests)

-- in the first bytes of a text
value_ascii : (depth before n : ℕ) (bs : List ℕ) → value_len depth before (take n bs) < n → value_len depth before (take n bs) < length bs → get_or bs (value_len depth before (take n bs)) 0 < 128
value_ascii depth before n [] l h = absurd (omega arith)
value_ascii depth before zero (b ∷ bs) l h = absurd (omega arith)
value_ascii depth before (suc n) (b ∷ bs) l h = by (ends_value depth before b) refl (value_ascii (deeper depth b) b n bs) l h where
  rest : ℕ
  rest = value_len (deeper depth b) b (take n bs)

  by : (t : Bool) → ends_value depth before b ≡ t → (rest < n → rest < length bs → get_or bs rest 0 < 128)
      → cond t 0 (1 + rest) < suc n → cond t 0 (1 + rest) < suc (length bs) → get_or (b ∷ bs) (cond t 0 (1 + rest)) 0 < 128
  by true e below l h = end_ascii depth before b e
  by false e below l h = subst (λ m. get_or (b ∷ bs) m 0 < 128) (sym (one-add rest)) (below (omega arith) (omega arith))

pub value_ends : (text : List ℕ) → IsUtf8 text → IsCharBoundary text (len_of_value text)
value_ends text utf8 = by (nat_lt 200 len) refl where
  len : ℕ
  len = value_len 0 32 (take 201 text)

  small : nat_lt 200 len ≡ false → len < 201
  small e = grind (arith, nat_tests)

  by : (t : Bool) → nat_lt 200 len ≡ t → IsCharBoundary text (cond t 0 len)
  by true e = IsCharBoundary-start text utf8
  by false e = inside (cases_lt len (length text)) where
    inside : (len < length text) ⊎ (length text ≤ len) → IsCharBoundary text len
    inside (inl l) = IsCharBoundary-before_ascii text len (omega arith) (value_ascii 0 32 201 text (small e) l)
    inside (inr g) = let within = value_within 0 32 (take 201 text) in let end : len ≡ length text = omega (arith, length-take 201 text) in subst (IsCharBoundary text) (sym end) (IsCharBoundary-end text)
