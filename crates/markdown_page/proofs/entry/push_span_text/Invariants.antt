use Rattle.std.proofs.Common.{◌≡◌, ◌++◌, map, take, string_bytes}
use Rattle.page_model.specs.View.{line_of}
use Rattle.markdown_page.specs.Kept.{line_bytes, shown_byte}
use Rattle.markdown_page.proofs.entry.push_span_text.Given as goal

abbrev pub invariant-loop-piece : goal.invariant-loop-piece
invariant-loop-piece g l = string_bytes l.span ≡ string_bytes l.initial.span ++ map shown_byte (line_bytes (line_of (take l.piece-index l.pieces)))
