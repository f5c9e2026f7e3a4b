use Rattle.std.proofs.Common.{◌≡◌, ◌++◌, map, take, string_bytes}
use Rattle.std.specs.Prelude.{flat_map}
use Rattle.page_model.specs.View.{block_of}
use Rattle.markdown_page.specs.Exact.{block_text}
use Rattle.markdown_page.proofs.block.push_blocks.Given as goal

abbrev pub invariant-loop-block : goal.invariant-loop-block
invariant-loop-block g l = string_bytes l.writer.page ≡ string_bytes l.initial.writer.page ++ flat_map (block_text 1) (map block_of (take l.block-index l.blocks))
