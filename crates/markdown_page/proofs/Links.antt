-- The bytes of addresses.
use Rattle.std.proofs.Common.{◌≡◌, ◌<◌, ℕ, arith, true, ◌||◌, inl, inr}
use Rattle.std.specs.Prelude.{◌==◌}
use Rattle.std.proofs.lemmas.Bool.{eqb-true}
use Rattle.markdown_page.specs.Bytes.{is_word}
use Rattle.markdown_page.specs.Kept.{is_unreserved}
use Rattle.markdown_page.proofs.Bools.{or_cases, word_range}

at_most : (b c : ℕ) → c < 128 → (b == c) ≡ true → b < 128
at_most b c h e = let is : b ≡ c = eqb-true b c e in omega arith

pub unreserved_small : (b : ℕ) → is_unreserved b ≡ true → b < 128
unreserved_small b h = elim (or_cases (is_word b) (b == 45 || b == 46 || b == 95 || b == 126) h) [
  | inl w ↦ let r = word_range b w in omega arith
  | inr e ↦ elim (or_cases (b == 45 || b == 46 || b == 95) (b == 126) e) [
    | inr x ↦ at_most b 126 (omega arith) x
    | inl y ↦ elim (or_cases (b == 45 || b == 46) (b == 95) y) [
      | inr x ↦ at_most b 95 (omega arith) x
      | inl z ↦ elim (or_cases (b == 45) (b == 46) z) [ inl x ↦ at_most b 45 (omega arith) x | inr x ↦ at_most b 46 (omega arith) x ]
    ]
  ]
]
