use Rattle.std.proofs.Common.{◌≡◌, ◌++◌, map, take, string_bytes}
use Rattle.std.specs.Prelude.{flat_map}
use Rattle.page_model.specs.View.{line_of}
use Rattle.console_page.specs.Blocks.{item_text}
use Rattle.console_page.proofs.blocks.push_items.Given as goal

abbrev pub invariant-loop-item : goal.invariant-loop-item
invariant-loop-item g l = string_bytes l.out ≡ string_bytes l.initial.out ++ flat_map (item_text l.width) (map (λ item. map (λ line. line_of line.items) item.items) (take l.item-index l.items))
