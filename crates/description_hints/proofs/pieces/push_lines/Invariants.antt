use Rattle.std.proofs.Common.{◌≡◌, ◌++◌, map, take}
use Rattle.page_model.specs.View.{line_of}
use Rattle.description_hints.specs.Texts.{pieces_of_lines}
use Rattle.description_hints.proofs.pieces.push_lines.Given as goal

abbrev pub invariant-loop-line : goal.invariant-loop-line
invariant-loop-line g l =
    line_of l.pieces.items ≡ line_of l.fn.pieces.items ++ pieces_of_lines (map (λ line. line_of line.items) (take l.line-index l.lines))
