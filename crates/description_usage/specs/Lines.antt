-- Lines one after another.
use Rattle.std.specs.Prelude.{ℕ, List, [], ◌∷◌, ◌++◌, flat_map}
use Rattle.page_model.specs.Content.{words, Line}

-- one line of some, with a text between two
abbrev pub joined : (between : List ℕ) → List Line → Line
joined between [] = []
joined between (line ∷ lines) = line ++ flat_map (λ other. words between ∷ other) lines
