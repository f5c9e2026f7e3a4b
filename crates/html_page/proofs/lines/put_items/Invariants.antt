use Rattle.std.proofs.Common.{◌≡◌, drop, flat_map, map}
use Rattle.page_model.specs.View.{line_of}
use Rattle.html_page.specs.Page.{item_events}
use Rattle.html_page.specs.Steps.{said}
use Rattle.html_page.proofs.lines.put_items.Given as goal

abbrev pub invariant-loop-item : goal.invariant-loop-item
invariant-loop-item g l = said l.page (flat_map item_events (map (λ item. map (λ line. line_of line.items) item.items) (drop l.item-index l.items))) ≡ said l.fn.page (flat_map item_events (map (λ item. map (λ line. line_of line.items) item.items) l.items))
