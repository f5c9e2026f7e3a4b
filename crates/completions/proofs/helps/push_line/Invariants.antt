use Rattle.std.proofs.Common.{◌≡◌, ◌++◌, take, string_bytes}
use Rattle.page_model.specs.View.{line_of}
use Rattle.completions.specs.Texts.{line_text}
use Rattle.completions.proofs.helps.push_line.Given as goal

abbrev pub invariant-loop-piece : goal.invariant-loop-piece
invariant-loop-piece g l = string_bytes l.text ≡ string_bytes l.fn.text ++ line_text (line_of (take l.piece-index l.line))
