use Rattle.std.proofs.Common.{◌≡◌, drop, flat_map, map}
use Rattle.page_model.specs.View.{line_of}
use Rattle.html_page.specs.Page.{usage_item}
use Rattle.html_page.specs.Steps.{said}
use Rattle.html_page.proofs.usage.put_usage_items.Given as goal

abbrev pub invariant-loop-item : goal.invariant-loop-item
invariant-loop-item g l = said l.page (flat_map usage_item (map (λ item. line_of item.items) (drop l.item-index l.items))) ≡ said l.fn.page (flat_map usage_item (map (λ item. line_of item.items) l.items))
