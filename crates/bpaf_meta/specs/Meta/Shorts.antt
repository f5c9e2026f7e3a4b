-- The short names of a tree that a user can write together, as `-abc`.
use Rattle.std.specs.Prelude.{◌≡◌, ℕ, false, List, [], ◌++◌}
use Rattle.std.specs.List.{flat_map}
use Rattle.bpaf_meta.specs.Content.{Tree, Leaf, flag, argument}
use Rattle.bpaf_meta.specs.Meta.Misplaced.{items_in}

abbrev pub shorts_of_flag : Leaf → List ℕ
shorts_of_flag (flag n s e h) = s
shorts_of_flag l = []

abbrev pub shorts_of_argument : Leaf → List ℕ
shorts_of_argument (argument n s m e h) = s
shorts_of_argument l = []

-- the `shorts` of the flags, and of the arguments, in tree order: also those in commands' own trees, none inside a Strict
abbrev pub flag_shorts : Tree → List ℕ
flag_shorts t = flat_map shorts_of_flag (items_in false t)

abbrev pub argument_shorts : Tree → List ℕ
argument_shorts t = flat_map shorts_of_argument (items_in false t)

-- the second list begins with the first
abbrev pub IsFront : List ℕ → List ℕ → Type 0
IsFront xs ys = (more : List ℕ) × (ys ≡ xs ++ more)
