-- The ways to write a syntax, one after another.
use Rattle.std.proofs.Common.{◌≡◌, ℕ, suc, ◌+◌, ◌<◌, ◌≤◌, ◌==◌, Bool, true, false, ◌&&◌, ◌||◌, List, [], ◌∷◌, ◌++◌, map, length, drop, take, get_or, refl, sym, ap, ◌∙◌, append_assoc, append-nil, add-zero, arith, inl, inr, true≢false, Option, nat_lt, MatchOption, is_some}
use Rattle.std.specs.List.{count_by, onto_first, slice_index}
use Rattle.std.proofs.lemmas.Bool.Decides.{eqb_tells, nat_tests}
use Rattle.std.proofs.lemmas.Bool.{false≢true}
use Rattle.std.proofs.lemmas.List.{drop_all, drop_more, take_all, take_more}
use Rattle.std.proofs.lemmas.List.Sums.{count_by_more_no, count_by_more_yes}
use Rattle.std.specs.Int.{from_bool}
use Rattle.description_usage.specs.Margins.{without_margins}
use Rattle.description_usage.specs.Syntax.{has_bar, is_bracket, is_closing, is_opening, is_outside, onto_parts, parts, parts_after, ways}
use Rattle.description_usage.proofs.Stretches.{count_more}

-- ---- bytes before those of the first part

-- a list that is not empty
abbrev pub HasFirst : {X : Type 0} → List X → Type 0
HasFirst {X} xs = (x : X) × (rest : List X) × (xs ≡ x ∷ rest)

-- some bytes before those of the first part
abbrev pub onto_front : List ℕ → List (List ℕ) → List (List ℕ)
onto_front [] ps = ps
onto_front (b ∷ bs) ps = onto_first b (onto_front bs ps)

pub onto_push : (xs : List ℕ) (b : ℕ) (ps : List (List ℕ)) → onto_front (xs ++ b ∷ []) ps ≡ onto_front xs (onto_first b ps)
onto_push [] b ps = refl
onto_push (x ∷ xs) b ps = ap (onto_first x) (onto_push xs b ps)

pub onto_new : (xs : List ℕ) (ps : List (List ℕ)) → onto_front xs ([] ∷ ps) ≡ xs ∷ ps
onto_new [] ps = refl
onto_new (x ∷ xs) ps = ap (onto_first x) (onto_new xs ps)

-- ---- after a place outside brackets, what stands before it does not matter

same_sums : (k a b : ℕ) → (k + a == k + b) ≡ (a == b)
same_sums k a b = grind (arith, eqb_tells)

pub are_same : (a b : ℕ) → (a == b) ≡ true → a ≡ b
are_same a b h = elim (eqb_tells a b) [ inl p ↦ p.1 | inr p ↦ absurd (false≢true (sym p.0 ∙ h)) ]

outside_after : (xs ys : List ℕ) → is_outside xs ≡ true → is_outside (xs ++ ys) ≡ is_outside ys
outside_after xs ys h = grind (arith, count_more, are_same, same_sums)

parts_alike : (mark : ℕ) (xs ys bs : List ℕ) → is_outside xs ≡ true → parts_after mark (xs ++ ys) bs ≡ parts_after mark ys bs
parts_alike mark xs ys [] h = refl
parts_alike mark xs ys (b ∷ bs) h = grind (arith, parts_alike mark xs (ys ++ b ∷ []) bs h, outside_after, append_assoc)

parts_fresh : (mark : ℕ) (xs bs : List ℕ) → is_outside xs ≡ true → parts_after mark xs bs ≡ parts mark bs
parts_fresh mark xs bs h = sym (ap (λ zs. parts_after mark zs bs) (append-nil xs)) ∙ parts_alike mark xs [] bs h

either_false : (a b : Bool) → (a || b) ≡ false → (a ≡ false) × (b ≡ false)
either_false a b h2 = grind (arith, true≢false)

none_counted : (p : ℕ → Bool) (b : ℕ) → p b ≡ false → count_by p (b ∷ []) ≡ 0
none_counted p b h = count_by_more_no p (b ∷ []) 0 0 (omega arith) h

-- a byte that is not a bracket leaves a place outside brackets
outside_still : (xs : List ℕ) (b : ℕ) → is_bracket b ≡ false → is_outside xs ≡ true → is_outside (xs ++ b ∷ []) ≡ true
outside_still xs b n h = grind (arith, either_false, outside_after, none_counted)

-- ---- the first place where a byte stands outside brackets

-- what was passed, and what is left
abbrev pub CutSoFar : (mark : ℕ) → List ℕ → ℕ → Type 0
CutSoFar mark bs i = onto_front (take i bs) (parts_after mark (take i bs) (drop i bs)) ≡ parts mark bs

pub none_passed : (mark : ℕ) (bs : List ℕ) → CutSoFar mark bs 0
none_passed mark bs = refl

module _ (mark : ℕ) (bs : List ℕ) (i b : ℕ) (within : i < length bs) (at : b ≡ get_or bs i 0) (so_far : CutSoFar mark bs i) where
  next : drop i bs ≡ b ∷ drop (i + 1) bs
  next = drop_more bs i 0 within ∙ ap (λ x. x ∷ drop (i + 1) bs) (sym at)

  taken : take (i + 1) bs ≡ take i bs ++ b ∷ []
  taken = take_more bs i 0 within ∙ ap (λ x. take i bs ++ x ∷ []) (sym at)

  here : onto_front (take i bs) (onto_parts (b == mark && is_outside (take i bs)) b (parts_after mark (take i bs ++ b ∷ []) (drop (i + 1) bs))) ≡ parts mark bs
  here = sym (ap (λ us. onto_front (take i bs) (parts_after mark (take i bs) us)) next) ∙ so_far

  pub cut_here : is_bracket mark ≡ false → (b == mark) ≡ true → is_outside (take i bs) ≡ true → parts mark bs ≡ take i bs ∷ parts mark (drop (i + 1) bs)
  cut_here n e h = grind (arith, are_same, here, onto_new, parts_fresh, outside_still)

  pub cut_later : (b == mark && is_outside (take i bs)) ≡ false → CutSoFar mark bs (i + 1)
  cut_later h = grind (arith, taken, onto_push, here)

pub never_cut : (mark : ℕ) (bs : List ℕ) (i : ℕ) → length bs ≤ i → CutSoFar mark bs i → parts mark bs ≡ bs ∷ []
never_cut mark bs i h s = grind (arith, drop_all, onto_new, take_all)

-- ---- ways

pub way_first : (text way after : List ℕ) → parts 44 text ≡ way ∷ parts 44 after → ways text ≡ without_margins way ∷ ways after
way_first text way after e = ap (map without_margins) e

pub way_alone : (text : List ℕ) → parts 44 text ≡ text ∷ [] → ways text ≡ without_margins text ∷ []
way_alone text e = ap (map without_margins) e

more_than_one : (n : ℕ) → nat_lt 1 (suc (suc n)) ≡ true
more_than_one n = grind (arith, nat_tests)

parts_some : (mark : ℕ) (xs bs : List ℕ) → HasFirst (parts_after mark xs bs)
parts_some mark xs [] = ([], [], refl)
parts_some mark xs (b ∷ bs) = by (b == mark && is_outside xs) (parts_after mark (xs ++ b ∷ []) bs) where
  by : (t : Bool) (ps : List (List ℕ)) → HasFirst (onto_parts t b ps)
  by true ps = ([], ps, refl)
  by false [] = (b ∷ [], [], refl)
  by false (p ∷ ps) = (b ∷ p, ps, refl)

pub bar_there : (way lead after : List ℕ) → parts 124 way ≡ lead ∷ parts 124 after → has_bar way ≡ true
bar_there way lead after e =
    let some = parts_some 124 [] after in ap (λ ps. nat_lt 1 (length ps)) (e ∙ ap (λ ps. lead ∷ ps) some.2) ∙ more_than_one (length some.1)

pub no_bar : (way : List ℕ) → parts 124 way ≡ way ∷ [] → has_bar way ≡ false
no_bar way e = ap (λ ps. nat_lt 1 (length ps)) e

-- ---- brackets, counted

pub count_step : (p : ℕ → Bool) (bs : List ℕ) (i b : ℕ) → i < length bs → b ≡ get_or bs i 0 → count_by p (take (i + 1) bs) ≡ count_by p (take i bs) + from_bool (p b)
count_step p bs i b h at = grind (arith, count_by_more_yes, count_by_more_no, add-zero)

-- what a test of the counts says of a place
pub where_outside : (bs : List ℕ) (i : ℕ) (is_mark : Bool) (opened closed : ℕ) (r t : Bool) → opened ≡ count_by is_opening (take i bs) → closed ≡ count_by is_closing (take i bs) → r ≡ (is_mark && opened == closed) → r ≡ t → (is_mark && is_outside (take i bs)) ≡ t
where_outside bs i is_mark opened closed r t o c e h = sym (ap (λ n. is_mark && n == closed) o ∙ ap (λ n. is_mark && count_by is_opening (take i bs) == n) c) ∙ sym e ∙ h

pub bar_is : (r : Option ℕ) (way bytes : List ℕ) → bytes ≡ way → MatchOption r (parts 124 bytes ≡ bytes ∷ []) (λ at. (at < length bytes) × (slice_index bytes at ≡ 124) × (parts 124 bytes ≡ take at bytes ∷ parts 124 (drop (at + 1) bytes))) → is_some r ≡ has_bar way
bar_is r way bytes h3 h4 = grind (arith, no_bar, bar_there)
