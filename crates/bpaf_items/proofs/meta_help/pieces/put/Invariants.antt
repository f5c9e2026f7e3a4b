use Rattle.std.specs.Prelude.{◌≡◌, ◌≤◌}
use Rattle.bpaf_items.proofs.Words.{length, take, flat_map, with_writes, piece_writes}
use Rattle.bpaf_items.proofs.meta_help.pieces.put.Given as goal

abbrev pub invariant-loop-piece : goal.invariant-loop-piece
invariant-loop-piece g l = record {
  in_range : l.piece-index ≤ length l.pieces;
  written : l.doc ≡ with_writes l.fn.doc (flat_map piece_writes (take l.piece-index l.pieces));
}
