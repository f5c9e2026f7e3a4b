-- Lists in which nothing stands twice.
use Rattle.std.proofs.Common.{◌≡◌, ℕ, Bool, true, not, List, [], ◌∷◌, ◌++◌, bytes_eq, refl, sym, ap, ◌∙◌, inl, inr, ⊎_elim}
use Rattle.std.specs.List.{list_all}
use Rattle.std.proofs.lemmas.Bool.{and_from, and_parts, cases_Bool, false≢true, or_cases, or_left, or_right, true≢false}
use Rattle.std.proofs.lemmas.Slice.Eq.{bytes_eq-Decides}
use Rattle.html_page.specs.Laws.{are_distinct, is_among}
use Rattle.html_page.proofs.Among.{Among, Each, among_either}

abbrev pub Distinct : {X : Type 0} → List X → Type 0
Distinct [] = Unit {0}
Distinct (x ∷ xs) = (Among xs x → ⊥) × Distinct xs

-- nothing is among both
abbrev pub Apart : {X : Type 0} → (xs ys : List X) → Type 0
Apart {X} xs ys = (x : X) → Among xs x → Among ys x → ⊥

pub distinct_append : {X : Type 0} (xs ys : List X) → Distinct xs → Distinct ys → Apart xs ys → Distinct (xs ++ ys)
distinct_append [] ys h k apart = k
distinct_append (x ∷ xs) ys h k apart = (λ a. ⊎_elim h.0 (apart x (inl refl)) (among_either xs ys x a), distinct_append xs ys h.1 k (λ y a b. apart y (inr a) b))

-- ---- as a test

pub among_test : (x : List ℕ) (xs : List (List ℕ)) → is_among xs x ≡ true → Among xs x
among_test x [] h = absurd (false≢true h)
among_test x (y ∷ ys) h = ⊎_elim (λ e. inl ((bytes_eq-Decides x y).0 e)) (λ e. inr (among_test x ys e)) (or_cases (bytes_eq x y) (is_among ys x) h)

pub test_among : (x : List ℕ) (xs : List (List ℕ)) → Among xs x → is_among xs x ≡ true
test_among x [] h = absurd h
test_among x (y ∷ ys) (inl e) = or_left (bytes_eq x y) (is_among ys x) ((bytes_eq-Decides x y).1 e)
test_among x (y ∷ ys) (inr h) = or_right (bytes_eq x y) (is_among ys x) (test_among x ys h)

pub distinct_test : (xs : List (List ℕ)) → are_distinct xs ≡ true → Distinct xs
distinct_test [] h = tt
distinct_test (x ∷ xs) h =
    let parts = and_parts (not (is_among xs x)) (are_distinct xs) h in
    (λ a. true≢false (sym parts.0 ∙ ap not (test_among x xs a)), distinct_test xs parts.1)

pub test_distinct : (xs : List (List ℕ)) → Distinct xs → are_distinct xs ≡ true
test_distinct [] h = refl
test_distinct (x ∷ xs) h = and_from (not (is_among xs x)) (are_distinct xs) (⊎_elim (λ e. absurd (h.0 (among_test x xs e))) (λ e. ap not e) (cases_Bool (is_among xs x))) (test_distinct xs h.1)

-- ---- as a test of each

pub each_test : {X : Type 0} (p : X → Bool) (xs : List X) → list_all p xs ≡ true → Each (λ x. p x ≡ true) xs
each_test p [] h = tt
each_test p (x ∷ xs) h = let parts = and_parts (p x) (list_all p xs) h in (parts.0, each_test p xs parts.1)

pub test_each : {X : Type 0} (p : X → Bool) (xs : List X) → Each (λ x. p x ≡ true) xs → list_all p xs ≡ true
test_each p [] h = refl
test_each p (x ∷ xs) h = and_from (p x) (list_all p xs) h.0 (test_each p xs h.1)
