use Rattle.std.proofs.Common.{◌≡◌, None, flat_map, map, take}
use Rattle.page_model.specs.Permitted.{block_texts, refused_in}
use Rattle.page_model.specs.View.{block_of}
use Rattle.page_model.proofs.permitted.refused_in_blocks.Given as goal

-- what was looked at is permitted
abbrev pub invariant-loop-one : goal.invariant-loop-one
invariant-loop-one g l = refused_in (flat_map block_texts (map block_of (take l.one-index l.blocks))) ≡ None
