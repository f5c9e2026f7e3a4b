-- Lists of what opens and closes: how many of those that were open before it a list closes.
use Rattle.std.proofs.lemmas.Grind.{common_steps}
use Rattle.std.specs.List.{list_all}
use Rattle.std.proofs.Common.{◌∙◌, inl, inr, arith, ◌≡◌, ℕ, zero, suc, ◌+◌, ◌-◌, Bool, true, false, List, [], ◌∷◌, refl, map, count_by, nat_le, if◌then◌else◌, ◌⊎◌}
use Rattle.std.proofs.lemmas.List.Folds.{list_all-map}
use Rattle.std.proofs.lemmas.Bool.{cases_Bool}
use Rattle.std.proofs.lemmas.Bool.Decides.{nat_tests}
use Rattle.bpaf_doc.specs.Shown.{fronts, stays_open}
use Rattle.bpaf_doc.proofs.lemmas.Lists.Counting.{one_if, count_by-cons}

pub list_all-ext : {A : Type 0} (p q : A → Bool) → ((x : A) → p x ≡ q x) → (xs : List A) → list_all p xs ≡ list_all q xs
list_all-ext p q same [] = refl
list_all-ext p q same (x ∷ xs) = rw (same x, list_all-ext p q same xs) refl

-- how many entries of a stack that stands before it are gone after the list, at its lowest
abbrev pub closed : {A : Type 0} → (A → Bool) → (A → Bool) → List A → ℕ
closed opens closes [] = 0
closed opens closes (x ∷ xs) = if closes x then closed opens closes xs + 1 else (if opens x then closed opens closes xs - 1 else closed opens closes xs)

module _ {A : Type 0} (opens closes : A → Bool) (apart : (x : A) → closes x ≡ true → opens x ≡ false) where
  -- a front closes no more than it opens, and this many more
  abbrev is_within : ℕ → List A → Bool
  is_within more front = nat_le (count_by closes front) (count_by opens front + more)

  abbrev stays_by : ℕ → List A → Bool
  stays_by more xs = list_all (is_within more) (fronts xs)

  none_within : (more : ℕ) → is_within more [] ≡ true
  none_within more = grind (arith, nat_tests)

  -- what one more in front does to the test
  step : (more less : ℕ) (x : A) (xs : List A) → one_if (closes x) + less ≡ one_if (opens x) + more → stays_by more (x ∷ xs) ≡ stays_by less xs
  step more less x xs e = grind (arith, none_within, list_all-map, list_all-ext, count_by-cons, nat_tests)

  none_left : (x : A) (xs : List A) → closes x ≡ true → opens x ≡ false → stays_by 0 (x ∷ xs) ≡ false
  none_left x xs c o = rw (none_within 0, at xs) refl where
    first : is_within 0 (x ∷ []) ≡ false
    first = rw (count_by-cons closes x [], count_by-cons opens x [], c, o) refl

    at : (xs : List A) → list_all (is_within 0) (map (λ front. x ∷ front) (fronts xs)) ≡ false
    at [] = rw first refl
    at (y ∷ ys) = rw first refl

  pub stays_by_is : (more : ℕ) (xs : List A) → stays_by more xs ≡ nat_le (closed opens closes xs) more
  stays_by_is more [] = rw (none_within more) (grind (arith, nat_tests))
  stays_by_is more (x ∷ xs) = at more (cases_Bool (closes x)) (cases_Bool (opens x)) (λ k. stays_by_is k xs) where
    at : (more : ℕ) → (closes x ≡ true) ⊎ (closes x ≡ false) → (opens x ≡ true) ⊎ (opens x ≡ false) → ((k : ℕ) → stays_by k xs ≡ nat_le (closed opens closes xs) k)
        → stays_by more (x ∷ xs) ≡ nat_le (closed opens closes (x ∷ xs)) more
    at zero (inl c) o ih = none_left x xs c (apart x c) ∙ rw c (grind (arith, nat_tests))
    at (suc more) (inl c) o ih = step (suc more) more x xs (rw (c, apart x c) (omega arith)) ∙ ih more ∙ rw c (grind (arith, nat_tests))
    at more (inr c) (inl o) ih = step more (1 + more) x xs (rw (c, o) (omega arith)) ∙ ih (1 + more) ∙ rw (c, o) (grind (arith, nat_tests))
    at more (inr c) (inr o) ih = step more more x xs (rw (c, o) refl) ∙ ih more ∙ rw (c, o) refl

  pub stays_open_is : (xs : List A) → stays_open opens closes xs ≡ nat_le (closed opens closes xs) 0
  stays_open_is xs = grind (arith, common_steps, list_all-ext, nat_tests, stays_by_is 0 xs)
