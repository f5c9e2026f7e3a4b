use Rattle.std.proofs.Common.{◌≡◌, map, take}
use Rattle.page_model.specs.View.{line_of}
use Rattle.description_usage.specs.Forms.{restored_piece}
use Rattle.description_usage.proofs.forms.restored_line.Given as goal

abbrev pub invariant-loop-piece : goal.invariant-loop-piece
invariant-loop-piece g l = line_of l.line.items ≡ map restored_piece (line_of (take l.piece-index l.pieces))
