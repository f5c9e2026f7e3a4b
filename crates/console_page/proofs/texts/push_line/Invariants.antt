use Rattle.std.proofs.Common.{◌≡◌, ◌++◌, take, string_bytes}
use Rattle.page_model.specs.View.{line_of}
use Rattle.console_page.specs.Texts.{line_text}
use Rattle.console_page.proofs.texts.push_line.Given as goal

abbrev pub invariant-loop-piece : goal.invariant-loop-piece
invariant-loop-piece g l = string_bytes l.out ≡ string_bytes l.initial.out ++ line_text (line_of (take l.piece-index l.pieces))
