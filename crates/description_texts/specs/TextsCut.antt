-- A list that is cut into parts from its front on: a part is a first element with some of those after it.
use Rattle.std.specs.Prelude.{ℕ, zero, suc, List, [], ◌∷◌, ◌++◌, take}

-- What is said of the parts, one after another. The first elements are left out: they belong to the part before.
abbrev pub cut_after : {X Y : Type 0} → (X → List X → ℕ) → (X → List X → List Y) → ℕ → List X → List Y
cut_after more said n [] = []
cut_after more said (suc n) (x ∷ xs) = cut_after more said n xs
cut_after more said zero (x ∷ xs) = said x (take (more x xs) xs) ++ cut_after more said (more x xs) xs

-- `more` is how many elements after a first one belong to it, `said` what is said of it and of these
abbrev pub cut : {X Y : Type 0} → (more : X → List X → ℕ) → (said : X → List X → List Y) → List X → List Y
cut more said xs = cut_after more said 0 xs
