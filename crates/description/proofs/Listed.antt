-- The values of a list, one after another.
use Rattle.std.proofs.Common.{◌≡◌, ◌≢◌, ℕ, zero, suc, ◌+◌, ◌<◌, ◌≤◌, ◌==◌, ◌&&◌, Bool, true, false, List, [], ◌∷◌, ◌++◌, length, drop, take, Option, Some, None, Bor, MatchOption, refl, sym, ap, ◌∙◌, arith, inl, inr}
use Rattle.std.specs.Prelude.{codes}
use Rattle.std.specs.Str.Pattern.{FindsText, LacksTextAt}
use Rattle.std.proofs.lemmas.Bool.{and_parts, false≢true}
use Rattle.std.proofs.lemmas.Bool.Decides.{eqb_tells}
use Rattle.description.specs.Values.{begins_blank, cut, listed_values, on_first}

abbrev is_empty : List ℕ → Bool
is_empty [] = true
is_empty (b ∷ bs) = false

abbrev separator : List ℕ
separator = codes ", "

pub are_same : (a b : ℕ) → (a == b) ≡ true → a ≡ b
are_same a b h = elim (eqb_tells a b) [ inl p ↦ p.1 | inr p ↦ absurd (false≢true (sym p.0 ∙ h)) ]

blank_is : (bs : List ℕ) → begins_blank bs ≡ true → bs ≡ 32 ∷ drop 1 bs
blank_is [] h = absurd (false≢true h)
blank_is (b ∷ bs) h = ap (λ c. c ∷ bs) (are_same b 32 h)

cut_is : (b : ℕ) (bs : List ℕ) → (b == 44 && begins_blank bs) ≡ true → b ∷ bs ≡ separator ++ drop 1 bs
cut_is b bs h =
    let both = and_parts (b == 44) (begins_blank bs) h in
    ap (λ c. c ∷ bs) (are_same b 44 both.0) ∙ ap (λ cs. 44 ∷ cs) (blank_is bs both.1)

not_cut : (b : ℕ) (bs : List ℕ) → ((rest : List ℕ) → b ∷ bs ≢ separator ++ rest) → (b == 44 && begins_blank bs) ≡ false
not_cut b bs lacks = by (b == 44 && begins_blank bs) refl where
  by : (t : Bool) → (b == 44 && begins_blank bs) ≡ t → t ≡ false
  by true h = absurd (lacks (drop 1 bs) (cut_is b bs h))
  by false h = refl

first_gone : (ws : List (List ℕ)) → on_first (drop 1) (on_first (λ w. 32 ∷ w) ws) ≡ ws
first_gone [] = refl
first_gone (w ∷ ws) = refl

values_cut : (rest : List ℕ) → listed_values (separator ++ rest) ≡ [] ∷ listed_values rest
unfolding listed_values
values_cut rest = ap (λ ws. [] ∷ ws) (first_gone (listed_values rest))

values_on : (b : ℕ) (bs w : List ℕ) (ws : List (List ℕ)) → ((rest : List ℕ) → b ∷ bs ≢ separator ++ rest) → listed_values bs ≡ w ∷ ws → listed_values (b ∷ bs) ≡ (b ∷ w) ∷ ws
unfolding listed_values
values_on b bs w ws lacks h = ap (λ t. cut t b (listed_values bs)) (not_cut b bs lacks) ∙ ap (on_first (λ u. b ∷ u)) h

values_none : (bs : List ℕ) → ((i : ℕ) → i ≤ length bs → LacksTextAt separator bs i) → listed_values bs ≡ bs ∷ []
unfolding listed_values
values_none [] lacks = refl
values_none (b ∷ bs) lacks = values_on b bs bs [] (lacks 0 (omega arith)) (values_none bs (λ i h. lacks (suc i) (omega arith)))

values_at : (bs : List ℕ) (i : ℕ) (rest : List ℕ) → ((k : ℕ) → k < i → LacksTextAt separator bs k) → drop i bs ≡ separator ++ rest → listed_values bs ≡ take i bs ∷ listed_values rest
values_at bs zero rest lacks at = ap listed_values at ∙ values_cut rest
values_at [] (suc i) rest lacks at = absurd (false≢true (sym (ap is_empty at)))
values_at (b ∷ bs) (suc i) rest lacks at =
    values_on b bs (take i bs) (listed_values rest) (lacks 0 (omega arith)) (values_at bs i rest (λ k h. lacks (suc k) (omega arith)) at)

pub split_listed : (bs : List ℕ) (r : Option (Bor (List ℕ) × Bor (List ℕ)))
    → MatchOption r (FindsText separator bs None) (λ x. (i : ℕ) × (j : ℕ) × FindsText separator bs (Some (i, j)) × (x.0.now ≡ take i bs) × (x.1.now ≡ drop j bs) × (i ≤ j) × (length x.0.now ≡ i) × (length x.1.now + j ≡ length bs))
    → MatchOption r (listed_values bs ≡ bs ∷ []) (λ p. listed_values bs ≡ p.0.now ∷ listed_values p.1.now)
split_listed bs None h = values_none bs h
split_listed bs (Some x) h = values_at bs h.0 (drop h.1 bs) h.2.0 h.2.1.split ∙ ap (λ w. w ∷ listed_values (drop h.1 bs)) (sym h.3) ∙ ap (λ w. x.0.now ∷ listed_values w) (sym h.4)
