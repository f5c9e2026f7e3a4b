use Rattle.std.proofs.Common.{◌≡◌, ◌++◌, drop, string_bytes}
use Rattle.page_model.specs.View.{line_of}
use Rattle.markdown_page.specs.Exact.{pieces_text}
use Rattle.markdown_page.proofs.line.push_pieces.Given as goal

-- what is written, and what the remaining pieces come to, make up the whole
abbrev pub invariant-loop-piece : goal.invariant-loop-piece
invariant-loop-piece g l = string_bytes l.line.text ++ pieces_text (string_bytes l.line.span) (line_of (drop l.piece-index l.pieces)) ≡ string_bytes l.initial.line.text ++ pieces_text (string_bytes l.initial.line.span) (line_of l.pieces)
