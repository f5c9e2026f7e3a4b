use Rattle.std.proofs.Common.{◌≡◌, ◌++◌, true, drop, string_bytes}
use Rattle.page_model.specs.View.{line_of}
use Rattle.man_page.specs.Exact.{pieces_from}
use Rattle.man_page.proofs.lines.push_pieces.Given as goal

-- what is written, and what the remaining pieces come to, make up the whole
abbrev pub invariant-loop-piece : goal.invariant-loop-piece
invariant-loop-piece g l =
    string_bytes l.line ++ pieces_from l.manner.role l.manner.is_guarded l.is_at_front l.manner.section.now (line_of (drop l.piece-index l.pieces))
    ≡ string_bytes l.initial.line ++ pieces_from l.manner.role l.manner.is_guarded true l.manner.section.now (line_of l.pieces)
