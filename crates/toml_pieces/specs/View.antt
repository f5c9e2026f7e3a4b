-- What values of the code say.
use Rattle.std.specs.Prelude.{ℕ, List, Option}
use Rattle.std.specs.Option.{option_map}
use denote.Ref.{Bor}
use Rattle.toml_pieces.specs.declared.toml.Piece.{Piece}
use Rattle.toml_pieces.specs.Toml as toml

abbrev pub piece_said : Piece → toml.Piece
piece_said p = record { lead = p.lead; text = p.text.now }

abbrev pub text_of : Option (Bor (List ℕ)) → Option (List ℕ)
text_of o = option_map (λ text. text.now) o
