-- Tests and lists.
use Rattle.std.proofs.Common.{◌≡◌, ◌≤◌, arith, ℕ, Bool, true, false, not, ◌&&◌, ◌||◌, List, [], ◌∷◌, ◌++◌, ◌⊎◌, inl, inr, refl, ◌∙◌}
use Rattle.std.specs.List.{list_all}
use Rattle.std.specs.Prelude.{nat_le}
use Rattle.std.proofs.lemmas.Bool.{and_parts, and_from, leb-true}
use Rattle.markdown_page.specs.Bytes.{is_digit, is_letter, is_word}
use Rattle.std.proofs.lemmas.List.Folds.{list_all-append}

pub bool_cases : (b : Bool) → (b ≡ true) ⊎ (b ≡ false)
bool_cases true = inl refl
bool_cases false = inr refl

pub not_true : (x : Bool) → not x ≡ true → x ≡ false
not_true true h = cc
not_true false h = refl

pub not_false : (x : Bool) → x ≡ false → not x ≡ true
not_false true h = cc
not_false false h = refl

pub or_false : (x y : Bool) → (x || y) ≡ false → (x ≡ false) × (y ≡ false)
or_false true y h = cc
or_false false y h = (refl, h)

pub or_from : (x y : Bool) → x ≡ false → y ≡ false → (x || y) ≡ false
or_from true y h g = cc
or_from false y h g = g

pub and_right : (x y : Bool) → y ≡ false → (x && y) ≡ false
and_right true y h = h
and_right false y h = refl

pub all_both : (p : ℕ → Bool) (a b : List ℕ) → list_all p a ≡ true → list_all p b ≡ true → list_all p (a ++ b) ≡ true
all_both p a b h g = list_all-append p a b ∙ and_from (list_all p a) (list_all p b) h g

pub weaker : {X : Type 0} (p q : X → Bool) → ((x : X) → p x ≡ true → q x ≡ true) → (xs : List X) → list_all p xs ≡ true → list_all q xs ≡ true
weaker p q implies [] h = refl
weaker p q implies (x ∷ xs) h =
    let parts = and_parts (p x) (list_all p xs) h in
    and_from (q x) (list_all q xs) (implies x parts.0) (weaker p q implies xs parts.1)

pub or_cases : (x y : Bool) → (x || y) ≡ true → (x ≡ true) ⊎ (y ≡ true)
or_cases true y h = inl refl
or_cases false y h = inr h

-- ---- letters and digits

range : (a b c : ℕ) → (nat_le a c && nat_le c b) ≡ true → (a ≤ c) × (c ≤ b)
range a b c h = let both = and_parts (nat_le a c) (nat_le c b) h in (leb-true a c both.0, leb-true c b both.1)

pub digit_range : (c : ℕ) → is_digit c ≡ true → (48 ≤ c) × (c ≤ 57)
digit_range c h = range 48 57 c h

letter_range : (c : ℕ) → is_letter c ≡ true → (48 ≤ c) × (c ≤ 122)
letter_range c h = elim (or_cases (nat_le 65 c && nat_le c 90) (nat_le 97 c && nat_le c 122) h) [
  | inl e ↦ let r = range 65 90 c e in (omega arith, omega arith)
  | inr e ↦ let r = range 97 122 c e in (omega arith, omega arith)
]

pub word_range : (c : ℕ) → is_word c ≡ true → (48 ≤ c) × (c ≤ 122)
word_range c h = elim (or_cases (is_letter c) (is_digit c) h) [
  | inl e ↦ letter_range c e
  | inr e ↦ let r = digit_range c e in (omega arith, omega arith)
]
