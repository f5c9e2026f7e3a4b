-- The first newline of a text.
use Rattle.std.specs.Prelude.{◌<◌, ◌∷◌, ◌≡◌}
use Rattle.bpaf_doc.proofs.lemmas.Buffer.Words.{ℕ, Bool, true, false, List, [], length, refl, arith, Option, Some, None, MatchOption, Bor, list_any, position_or_len, IsSplitLine, is_newline}
use Rattle.std.proofs.lemmas.Str.Pattern.{IsSplitOnceResult, split_once_first}

module _ (p : ℕ → Bool) where
  -- none passes where the search ran to the end
  none_passes : (xs : List ℕ) → position_or_len p xs ≡ length xs → list_any p xs ≡ false
  none_passes [] is = refl
  none_passes (x ∷ xs) is = grind (arith, none_passes xs)

  -- and some where it stopped before
  some_passes : (xs : List ℕ) → position_or_len p xs < length xs → list_any p xs ≡ true
  some_passes [] is = absurd (omega arith)
  some_passes (x ∷ xs) is = grind (arith, some_passes xs)

pub split_line-from : (text : List ℕ) (r : Option (Bor (List ℕ) × Bor (List ℕ))) → IsSplitOnceResult 10 text r
    → MatchOption r (list_any is_newline text ≡ false) (λ lines. IsSplitLine text lines.0.now lines.1.now)
split_line-from text None h = none_passes is_newline text (split_once_first 10 text None h (omega arith))
split_line-from text (Some lines) h = grind (arith, split_once_first 10 text (Some lines) h (omega arith), some_passes is_newline text)
