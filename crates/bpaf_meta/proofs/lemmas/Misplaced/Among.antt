-- Elements of lists, by recursion.
use Rattle.std.proofs.Common.{◌≡◌, List, [], ◌∷◌, ◌++◌, ◌⊎◌, inl, inr, refl, sym, ap, subst, map}
use Rattle.std.specs.Prelude.{flat_map, Contains, All}
use Rattle.std.proofs.lemmas.List.Elements.{Contains-push, Contains-append_left, Contains-append_right, All-nil, All-cons}

abbrev pub Among : {X : Type 0} → X → List X → Type 0
Among x [] = ⊥
Among x (y ∷ ys) = (y ≡ x) ⊎ Among x ys

pub among_left : {X : Type 0} (x : X) (xs ys : List X) → Among x xs → Among x (xs ++ ys)
among_left x [] ys a = absurd a
among_left x (z ∷ xs) ys (inl e) = inl e
among_left x (z ∷ xs) ys (inr a) = inr (among_left x xs ys a)

pub among_right : {X : Type 0} (x : X) (xs ys : List X) → Among x ys → Among x (xs ++ ys)
among_right x [] ys a = a
among_right x (z ∷ xs) ys a = inr (among_right x xs ys a)

pub among_cases : {X : Type 0} (x : X) (xs ys : List X) → Among x (xs ++ ys) → Among x xs ⊎ Among x ys
among_cases x [] ys a = inr a
among_cases x (z ∷ xs) ys (inl e) = inl (inl e)
among_cases x (z ∷ xs) ys (inr a) = elim (among_cases x xs ys a) [ inl b ↦ inl (inr b) | inr b ↦ inr b ]

pub among_map : {X Y : Type 0} (f : X → Y) (y : Y) (xs : List X) → Among y (map f xs) → (x : X) × Among x xs × (f x ≡ y)
among_map f y [] a = absurd a
among_map f y (x ∷ xs) (inl e) = (x, inl refl, e)
among_map f y (x ∷ xs) (inr a) = let r = among_map f y xs a in (r.0, inr r.1, r.2)

pub in_map : {X Y : Type 0} (f : X → Y) (x : X) (xs : List X) → Among x xs → Among (f x) (map f xs)
in_map f x [] a = a
in_map f x (z ∷ xs) (inl e) = inl (ap f e)
in_map f x (z ∷ xs) (inr a) = inr (in_map f x xs a)

pub among_flat : {X Y : Type 0} (f : X → List Y) (y : Y) (xs : List X) → Among y (flat_map f xs) → (x : X) × Among x xs × Among y (f x)
among_flat f y [] a = absurd a
among_flat f y (x ∷ xs) a = elim (among_cases y (f x) (flat_map f xs) a) [
  | inl b ↦ (x, inl refl, b)
  | inr b ↦ let r = among_flat f y xs b in (r.0, inr r.1, r.2)
]

pub in_flat : {X Y : Type 0} (f : X → List Y) (x : X) (y : Y) (xs : List X) → Among x xs → Among y (f x) → Among y (flat_map f xs)
in_flat f x y [] a b = absurd a
in_flat f x y (z ∷ xs) (inl e) b = among_left y (f z) (flat_map f xs) (subst (λ w. Among y (f w)) (sym e) b)
in_flat f x y (z ∷ xs) (inr a) b = among_right y (f z) (flat_map f xs) (in_flat f x y xs a b)

pub none_among : {X : Type 0} (xs : List X) → ((x : X) → ¬ Among x xs) → xs ≡ []
none_among [] f = refl
none_among (x ∷ xs) f = absurd (f x (inl refl))

pub contains : {X : Type 0} (x : X) (xs : List X) → Among x xs → Contains xs x
contains x [] a = absurd a
contains x (y ∷ xs) (inl e) = subst (λ z. Contains (y ∷ xs) z) e (Contains-append_left (y ∷ []) xs y (Contains-push [] y))
contains x (y ∷ xs) (inr a) = Contains-append_right (y ∷ []) xs x (contains x xs a)

pub all_among : {X : Type 0} (P : X → Type 0) (xs : List X) → ((x : X) → Among x xs → P x) → All P xs
all_among P [] f = All-nil P
all_among P (x ∷ xs) f = All-cons P x xs (f x (inl refl)) (all_among P xs (λ y a. f y (inr a)))
