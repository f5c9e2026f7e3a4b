use Rattle.std.proofs.Common.{◌≡◌, ◌++◌, map, take, string_bytes}
use Rattle.std.specs.Prelude.{flat_map}
use Rattle.page_model.specs.View.{block_of}
use Rattle.console_page.specs.Blocks.{further_block}
use Rattle.console_page.proofs.blocks.push_further_blocks.Given as goal

abbrev pub invariant-loop-block : goal.invariant-loop-block
invariant-loop-block g l = string_bytes l.out ≡ string_bytes l.initial.out ++ flat_map (further_block l.width) (map block_of (take l.block-index l.blocks))
