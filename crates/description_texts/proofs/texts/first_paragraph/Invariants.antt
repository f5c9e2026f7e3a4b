use Rattle.std.proofs.Common.{◌≡◌, drop, map}
use Rattle.page_model.specs.View.{block_of}
use Rattle.description_texts.specs.Texts.{first_paragraph}
use Rattle.description_texts.proofs.texts.first_paragraph.Given as goal

abbrev pub invariant-loop-block : goal.invariant-loop-block
invariant-loop-block g l = first_paragraph (map block_of (drop l.block-index l.blocks)) ≡ first_paragraph (map block_of l.blocks)
