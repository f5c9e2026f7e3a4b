use Rattle.std.proofs.Common.{◌≡◌, drop}
use Rattle.page_model.specs.View.{line_of}
use Rattle.description_texts.specs.TextsInside.{nothing, with_pieces}
use Rattle.description_texts.specs.TextsView.{draft_of}
use Rattle.description_texts.proofs.texts.pieces.gathered.Given as goal

abbrev pub invariant-loop-piece : goal.invariant-loop-piece
invariant-loop-piece l =
    with_pieces (draft_of l.pieces) (line_of (drop l.piece-index l.line)) ≡ with_pieces nothing (line_of l.line)
