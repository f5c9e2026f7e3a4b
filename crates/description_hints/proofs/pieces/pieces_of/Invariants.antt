use Rattle.std.proofs.Common.{◌≡◌, map, take}
use Rattle.page_model.specs.View.{block_of, line_of}
use Rattle.description_hints.specs.Texts.{pieces_of}
use Rattle.description_hints.proofs.pieces.pieces_of.Given as goal

abbrev pub invariant-loop-block : goal.invariant-loop-block
invariant-loop-block l = line_of l.pieces.items ≡ pieces_of (map block_of (take l.block-index l.blocks))
