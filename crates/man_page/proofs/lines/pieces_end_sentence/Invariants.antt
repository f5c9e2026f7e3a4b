use Rattle.std.proofs.Common.{◌≡◌, false, drop}
use Rattle.std.specs.Prelude.{flat_map}
use Rattle.page_model.specs.View.{line_of}
use Rattle.man_page.specs.Exact.{ends_sentence, piece_bytes}
use Rattle.man_page.proofs.lines.pieces_end_sentence.Given as goal

abbrev pub invariant-loop-piece : goal.invariant-loop-piece
invariant-loop-piece l = ends_sentence false (flat_map (piece_bytes l.section) (line_of l.pieces)) ≡ ends_sentence l.is_end (flat_map (piece_bytes l.section) (line_of (drop l.piece-index l.pieces)))
