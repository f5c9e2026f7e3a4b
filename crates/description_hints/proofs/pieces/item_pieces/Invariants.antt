use Rattle.std.proofs.Common.{◌≡◌, flat_map, map, take}
use Rattle.page_model.specs.View.{form_of, line_of}
use Rattle.description_hints.specs.Hints.{item_pieces}
use Rattle.description_hints.proofs.pieces.item_pieces.Given as goal

abbrev pub invariant-loop-form : goal.invariant-loop-form
invariant-loop-form l = line_of l.pieces.items ≡ flat_map item_pieces (map form_of (take l.form-index l.forms))
