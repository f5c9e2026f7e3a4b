use Rattle.std.proofs.Common.{◌≡◌, ◌++◌, flat_map, map, take}
use Rattle.page_model.specs.View.{line_of}
use Rattle.description_hints.specs.Texts.{pieces_of_lines}
use Rattle.description_hints.proofs.pieces.push_items.Given as goal

abbrev pub invariant-loop-item : goal.invariant-loop-item
invariant-loop-item g l =
    line_of l.pieces.items ≡ line_of l.fn.pieces.items ++ flat_map pieces_of_lines (map (λ item. map (λ line. line_of line.items) item.items) (take l.item-index l.items))
