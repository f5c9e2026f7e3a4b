use Rattle.std.proofs.Common.{◌≡◌, ◌++◌, drop, flat_map, map, string_bytes}
use Rattle.toml_pieces.specs.Toml.{line_piece}
use Rattle.toml_pieces.specs.View.{piece_said}
use Rattle.toml_pieces.proofs.toml.push_many_text.Given as goal

abbrev pub invariant-loop-piece : goal.invariant-loop-piece
invariant-loop-piece g l = record {
  so_far : string_bytes l.out ++ flat_map line_piece (map piece_said (drop l.piece-index l.pieces)) ≡ string_bytes l.initial.out ++ flat_map line_piece (map piece_said l.pieces);
}
