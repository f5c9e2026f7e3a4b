-- What the positional check finds: the first of some faults, each with its number.
use Rattle.std.proofs.Common.{◌≡◌, ℕ, ◌+◌, ◌<◌, ◌≤◌, Bool, List, ◌++◌, inl, inr, refl, sym, subst, arith, ◌↔◌}
use Rattle.bpaf_meta.specs.Meta.Misplaced.{Numbered}
use Rattle.bpaf_meta.specs.Meta.Steps.Walk.{Check, fine, wrong, then_check}
use Rattle.bpaf_meta.proofs.lemmas.Misplaced.Among.{Among, among_left, among_right, among_cases}

-- the same items are in both lists
abbrev pub Same : List Numbered → List Numbered → Type 0
Same xs ys = (x : Numbered) → Among x xs ↔ Among x ys

-- the numbers of the items are k from n on
abbrev pub AreFrom : (n k : ℕ) → List Numbered → Type 0
AreFrom n k xs = (x : Numbered) → Among x xs → (n ≤ x.0) × (x.0 < n + k)

pub from_then : (n k j l : ℕ) (xs ys zs : List Numbered) → l ≡ k + j → Same zs (xs ++ ys) → AreFrom n k xs → AreFrom (n + k) j ys → AreFrom n l zs
from_then n k j l xs ys zs e s f g x a = grind (arith, among_cases x xs ys ((s x).0 a))

-- the check's answer: no fault, and the mark; or the first of the faults
abbrev pub Finds : List Numbered → (mark : Bool) → Check → Type 0
Finds xs m (fine b) = (b ≡ m) × ((x : Numbered) → ¬ Among x xs)
Finds xs m (wrong l) = (k : ℕ) × Among (k, l) xs × ((x : Numbered) → Among x xs → k ≤ x.0)

pub finds_same : (xs ys : List Numbered) (m p : Bool) (c : Check) → Same ys xs → m ≡ p → Finds xs m c → Finds ys p c
finds_same xs ys m p c h5 h6 h7 = grind arith

-- one check after another, where the numbers of the second are greater
pub finds_then : (n k j : ℕ) (xs ys : List Numbered) (p m : Bool) (c : Check) (f : Bool → Check) → AreFrom n k xs → AreFrom (n + k) j ys → Finds xs p c → Finds ys m (f p) → Finds (xs ++ ys) m (then_check c f)
finds_then n k j xs ys p m (fine b) f below above r s =
    let later : Same (xs ++ ys) ys = λ x. ((λ a. elim (among_cases x xs ys a) [ inl h ↦ absurd (r.1 x h) | inr h ↦ h ]), among_right x xs ys) in
    finds_same ys (xs ++ ys) m m (f b) later refl (subst (λ d. Finds ys m (f d)) (sym r.0) s)
finds_then n k j xs ys p m (wrong l) f below above r s =
    let here = below (r.0, l) r.1 in
    (r.0, among_left (r.0, l) xs ys r.1, λ x a. elim (among_cases x xs ys a) [ inl h ↦ r.2 x h | inr h ↦ let later = above x h in omega (arith, here.1, later.0) ])
