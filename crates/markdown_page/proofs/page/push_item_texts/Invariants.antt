use Rattle.std.proofs.Common.{◌≡◌, ◌++◌, take, string_bytes}
use Rattle.page_model.specs.View.{line_of}
use Rattle.markdown_page.specs.Kept.{line_bytes}
use Rattle.markdown_page.proofs.page.push_item_texts.Given as goal

abbrev pub invariant-loop-piece : goal.invariant-loop-piece
invariant-loop-piece g l = string_bytes l.line ≡ string_bytes l.initial.line ++ line_bytes (line_of (take l.piece-index l.pieces))
