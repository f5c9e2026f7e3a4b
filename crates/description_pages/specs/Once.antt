-- The first of the items with one key.
use Rattle.std.specs.Prelude.{◌≡◌, List, [], ◌∷◌, ◌++◌, Bool, if◌then◌else◌}
use Rattle.std.specs.List.{list_any}

-- an item after some others, if it is not the same as any of these
abbrev pub if_new : {X : Type 0} → (same : X → X → Bool) → (before : List X) → X → List X
if_new same before x = if list_any (same x) before then [] else x ∷ []

abbrev pub new_after : {X : Type 0} → (same : X → X → Bool) → (before : List X) → List X → List X
new_after same before [] = []
new_after same before (x ∷ xs) = if_new same before x ++ new_after same (before ++ x ∷ []) xs

abbrev pub each_once : {X : Type 0} → (same : X → X → Bool) → List X → List X
each_once same xs = new_after same [] xs

-- a table finds a key among these where it is one of those before
abbrev pub HasSeen : {K : Type 0} → (same : K → K → Bool) → (keys before : List K) → Type 0
HasSeen {K} same keys before = (k : K) → list_any (same k) keys ≡ list_any (same k) before
