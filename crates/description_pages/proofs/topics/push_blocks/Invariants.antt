use Rattle.std.proofs.Common.{◌≡◌, map}
use Rattle.std.specs.Prelude.{fold}
use Rattle.page_model.specs.View.{block_of}
use Rattle.description_pages.specs.Topics.{and_block}
use Rattle.description_pages.proofs.topics.push_blocks.Given as goal

abbrev pub invariant-loop-block : goal.invariant-loop-block
invariant-loop-block g l =
    fold and_block (map block_of l.blocks.items) (map block_of l.block-iterator.rest.items)
    ≡ fold and_block (map block_of l.fn.blocks.items) (map block_of l.fn.more.items)
