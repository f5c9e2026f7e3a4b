-- What pieces are written as.
use Rattle.std.specs.Prelude.{◌≡◌, ℕ, true, false, List, ◌++◌, flat_map}
use Rattle.web_page.specs.Exact.{escaped}
use Rattle.web_page.specs.declared.output.Piece.{Piece}
use Rattle.web_page.specs.declared.output.Piece.TheVariants.{Plain, Text, Value}

abbrev pub piece_text : Piece → List ℕ
piece_text (Plain text) = text.now
piece_text (Text text) = escaped false text.now
piece_text (Value text) = escaped true text.now

abbrev pub pieces_text : List Piece → List ℕ
pieces_text pieces = flat_map piece_text pieces

-- nothing is taken away
abbrev pub Extends : List ℕ → List ℕ → Type 0
Extends old new = (more : List ℕ) × (new ≡ old ++ more)
