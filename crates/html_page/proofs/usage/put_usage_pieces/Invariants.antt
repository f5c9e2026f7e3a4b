use Rattle.std.proofs.Common.{◌≡◌, drop, flat_map}
use Rattle.page_model.specs.View.{line_of}
use Rattle.html_page.specs.Page.{usage_piece}
use Rattle.html_page.specs.Steps.{said}
use Rattle.html_page.proofs.usage.put_usage_pieces.Given as goal

abbrev pub invariant-loop-piece : goal.invariant-loop-piece
invariant-loop-piece g l = said l.page (flat_map usage_piece (line_of (drop l.piece-index l.pieces))) ≡ said l.fn.page (flat_map usage_piece (line_of l.pieces))
