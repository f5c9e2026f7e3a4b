use Rattle.std.proofs.Common.{◌≡◌, drop, map}
use Rattle.page_model.specs.View.{block_of}
use Rattle.html_page.specs.Page.{blocks_events}
use Rattle.html_page.specs.Steps.{said}
use Rattle.html_page.proofs.lines.put_blocks.Given as goal

abbrev pub invariant-loop-block : goal.invariant-loop-block
invariant-loop-block g l = said l.page (blocks_events (map block_of (drop l.block-index l.blocks))) ≡ said l.fn.page (blocks_events (map block_of l.blocks))
