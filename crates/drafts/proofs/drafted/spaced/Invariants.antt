use Rattle.std.proofs.Common.{◌≡◌, ◌++◌, drop, flat_map, map}
use Rattle.toml_pieces.specs.View.{piece_said}
use Rattle.drafts.specs.Drafts.{spaced}
use Rattle.drafts.specs.View.{placed_said}
use Rattle.drafts.proofs.drafted.spaced.Given as goal

abbrev pub invariant-loop-one : goal.invariant-loop-one
invariant-loop-one g l = record {
  so_far : map piece_said l.pieces.items ++ flat_map (spaced l.text) (map placed_said (drop l.one-index l.placed)) ≡ flat_map (spaced l.text) (map placed_said l.placed);
}
