use Rattle.std.proofs.Common.{Bool, ◌+◌, ◌∙◌, ap, arith, drop, sym}
use Rattle.std.specs.Prelude.{flat_map}
use Rattle.page_model.specs.View.{line_of, piece_of}
use Rattle.man_page.specs.Exact.{ends_sentence, piece_bytes}
use Rattle.man_page.proofs.Ends.{sentence_of_pieces}
use Rattle.man_page.proofs.lines.pieces_end_sentence.Goals as goal

pub loop-piece-preserved : goal.loop-piece-preserved
loop-piece-preserved c =
    let section = c.args.section.now in
    let pieces = c.args.pieces.now in
    let at = c.loop-piece.piece-index in
    c.loop-piece.invariant
    ∙ sentence_of_pieces c.loop-piece.is_end section piece_of pieces at _ (omega arith)
    ∙ ap (λ (x : Bool). ends_sentence x (flat_map (piece_bytes section) (line_of (drop (at + 1) pieces)))) (sym c.piece_ends_sentence-is_end.ensures)
