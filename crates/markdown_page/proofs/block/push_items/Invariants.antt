use Rattle.std.proofs.Common.{◌≡◌, ◌++◌, map, take, string_bytes}
use Rattle.std.specs.Prelude.{flat_map}
use Rattle.page_model.specs.View.{line_of}
use Rattle.markdown_page.specs.Exact.{item_text}
use Rattle.markdown_page.proofs.block.push_items.Given as goal

abbrev pub invariant-loop-item : goal.invariant-loop-item
invariant-loop-item g l = string_bytes l.writer.page ≡ string_bytes l.initial.writer.page ++ flat_map (item_text l.level) (map (λ item. map (λ line. line_of line.items) item.items) (take l.item-index l.items))
