-- The values in a text such as `never, auto, always`, with a comma and a blank between two.
use Rattle.std.specs.Prelude.{ℕ, List, [], ◌∷◌, ◌==◌, ◌&&◌, drop, Bool, true, false}

abbrev pub begins_blank : List ℕ → Bool
begins_blank [] = false
begins_blank (b ∷ bs) = b == 32

abbrev pub on_first : (List ℕ → List ℕ) → List (List ℕ) → List (List ℕ)
on_first f [] = []
on_first f (w ∷ ws) = f w ∷ ws

-- a comma before a blank ends a value, and the blank is left out
abbrev pub cut : (ends : Bool) → ℕ → List (List ℕ) → List (List ℕ)
cut true b ws = [] ∷ on_first (drop 1) ws
cut false b ws = on_first (λ w. b ∷ w) ws

unfoldable pub listed_values : List ℕ → List (List ℕ)
listed_values [] = [] ∷ []
listed_values (b ∷ bs) = cut (b == 44 && begins_blank bs) b (listed_values bs)
