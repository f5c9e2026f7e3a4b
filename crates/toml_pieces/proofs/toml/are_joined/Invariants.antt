use Rattle.std.proofs.Common.{◌≡◌, drop, map}
use Rattle.std.specs.List.{list_all}
use Rattle.toml_pieces.specs.Toml.{is_joined}
use Rattle.toml_pieces.specs.View.{piece_said}
use Rattle.toml_pieces.proofs.toml.are_joined.Given as goal

abbrev pub invariant-loop-piece : goal.invariant-loop-piece
invariant-loop-piece l = record {
  same : list_all (λ q. is_joined q.lead) (map piece_said (drop l.piece-index l.pieces)) ≡ list_all (λ q. is_joined q.lead) (map piece_said l.pieces);
}
