-- The texts that a `Names` keeps, each as its bytes. Their order says nothing.
use Rattle.std.specs.Prelude.{◌≡◌, ℕ, List, Contains, AllPairs, ◌⊎◌, ◌≢◌, ◌↔◌}

-- a text is kept after exactly if it was kept before, or is this one
abbrev pub KeepsAlso : List ℕ → List (List ℕ) → List (List ℕ) → Type 0
KeepsAlso text before after = (t : List ℕ) → Contains after t ↔ (Contains before t ⊎ (t ≡ text))

-- a text is kept after exactly if it was kept before
abbrev pub KeepsTheSame : List (List ℕ) → List (List ℕ) → Type 0
KeepsTheSame before after = (t : List ℕ) → Contains after t ↔ Contains before t

-- no text stands twice
abbrev pub EachOnce : List (List ℕ) → Type 0
EachOnce texts = AllPairs (λ a b. a ≢ b) texts
