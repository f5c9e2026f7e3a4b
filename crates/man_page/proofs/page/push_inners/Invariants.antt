use Rattle.std.proofs.Common.{◌≡◌, ◌++◌, map, take, string_bytes}
use Rattle.std.specs.Prelude.{flat_map}
use Rattle.page_model.specs.View.{block_of}
use Rattle.man_page.specs.Exact.{inner_text}
use Rattle.man_page.proofs.page.push_inners.Given as goal

abbrev pub invariant-loop-block : goal.invariant-loop-block
invariant-loop-block g l = string_bytes l.writer.page ≡ string_bytes l.initial.writer.page ++ flat_map (inner_text l.section) (map block_of (take l.block-index l.blocks))
