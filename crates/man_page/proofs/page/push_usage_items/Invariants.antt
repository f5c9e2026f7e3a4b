use Rattle.std.proofs.Common.{◌≡◌, ◌++◌, map, take, string_bytes}
use Rattle.std.specs.Prelude.{flat_map}
use Rattle.page_model.specs.View.{line_of}
use Rattle.man_page.specs.Exact.{item_text}
use Rattle.man_page.proofs.page.push_usage_items.Given as goal

abbrev pub invariant-loop-item : goal.invariant-loop-item
invariant-loop-item g l = string_bytes l.writer.page ≡ string_bytes l.initial.writer.page ++ flat_map (item_text l.section) (map (λ item. line_of item.items) (take l.item-index l.items))
