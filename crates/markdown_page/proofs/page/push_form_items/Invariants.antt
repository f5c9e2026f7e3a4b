use Rattle.std.proofs.Common.{◌≡◌, ◌++◌, map, take, string_bytes}
use Rattle.std.specs.Prelude.{flat_map}
use Rattle.page_model.specs.View.{line_of}
use Rattle.markdown_page.specs.Kept.{item_bytes}
use Rattle.markdown_page.proofs.page.push_form_items.Given as goal

abbrev pub invariant-loop-item : goal.invariant-loop-item
invariant-loop-item g l = string_bytes l.line ≡ string_bytes l.initial.line ++ flat_map item_bytes (map (λ item. line_of item.items) (take l.item-index l.items))
