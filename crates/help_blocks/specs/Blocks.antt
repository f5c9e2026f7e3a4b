-- The blocks of a help text.
use Rattle.std.specs.Prelude.{◌≡◌, ℕ, ◌<◌, List, [], ◌∷◌, ◌++◌, length, Option, Some, None, reverse}
use Rattle.help_blocks.specs.declared.shape.Shape.{Shape}
use Rattle.help_blocks.specs.declared.place.Kind.{Kind}
use Rattle.help_blocks.specs.declared.cut.Block.{Block}
use Rattle.help_blocks.specs.Shapes.{first_shape}
use Rattle.help_blocks.specs.Above.{Line, place_of}
use Rattle.help_blocks.specs.Rules.{begun}

-- a line and the one below it
pub record Pair : Type 0 where
  pub here : Shape
  pub next : Shape

abbrev pub pairs : (lines : List (List ℕ)) → List Pair
pairs [] = []
pairs (l ∷ ls) = record { here = first_shape (l ∷ ls); next = first_shape ls } ∷ pairs ls

abbrev pub with_pair : Pair → (above : List Line) → List Line
with_pair p above = record { shape = p.here; begun = begun (place_of above) p.here p.next } ∷ above

-- the lines that are read, the last one first: each begins what it begins below those above it
abbrev pub read : (last_first : List Pair) → List Line
read [] = []
read (p ∷ ps) = with_pair p (read ps)

abbrev pub lines_of : (lines : List (List ℕ)) → List Line
lines_of lines = read (reverse (pairs lines))

pub record Start : Type 0 where
  pub line : ℕ
  pub kind : Kind

abbrev pub started : (line : ℕ) → Option Kind → List Start
started n None = []
started n (Some k) = record { line = n; kind = k } ∷ []

-- the lines that begin a block, with its kind, in order
abbrev pub starts : (last_first : List Line) → List Start
starts [] = []
starts (l ∷ ls) = starts ls ++ started (length ls) l.begun

abbrev pub start_of : Block → Start
start_of b = record { line = b.first; kind = b.kind }

-- blocks from one line up to the start of another, each after the one before it, none of them empty
abbrev pub FollowOn : (first : ℕ) → List Block → (end : ℕ) → Type 0
FollowOn first [] end = first ≡ end
FollowOn first (b ∷ bs) end = (b.first ≡ first) × (b.first < b.end) × FollowOn b.end bs end
