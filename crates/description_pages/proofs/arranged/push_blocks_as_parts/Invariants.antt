use Rattle.std.proofs.Common.{◌≡◌, ◌++◌, map}
use Rattle.page_model.specs.Content.{block}
use Rattle.page_model.specs.View.{block_of, part_of}
use Rattle.description_pages.proofs.arranged.push_blocks_as_parts.Given as goal

abbrev pub invariant-loop-block : goal.invariant-loop-block
invariant-loop-block l =
    map part_of l.parts.items ++ map block (map block_of l.block-iterator.rest.items)
    ≡ map part_of l.fn.parts.items ++ map block (map block_of l.fn.blocks.items)
