use Rattle.std.proofs.Common.{◌≡◌, drop}
use Rattle.page_model.specs.View.{line_of}
use Rattle.html_page.specs.Page.{line_events}
use Rattle.html_page.specs.Steps.{said}
use Rattle.html_page.proofs.lines.put_line.Given as goal

abbrev pub invariant-loop-piece : goal.invariant-loop-piece
invariant-loop-piece g l = said l.page (line_events (line_of (drop l.piece-index l.pieces))) ≡ said l.fn.page (line_events (line_of l.pieces))
