-- The values in a text, as an array has them.
use Rattle.std.specs.Prelude.{ℕ, List, [], ◌∷◌, Bool, true, false, if◌then◌else◌}
use Rattle.std.specs.List.{list_any}
use Rattle.description.specs.Values.{listed_values}

abbrev pub is_empty : List ℕ → Bool
is_empty [] = true
is_empty (b ∷ bs) = false

-- No value is empty: a text that would list an empty one is one value.
unfoldable pub written_values : List ℕ → List (List ℕ)
written_values text = if list_any is_empty (listed_values text) then text ∷ [] else listed_values text
