use Rattle.std.proofs.Common.{◌++◌, ◌∙◌, ap, map, string_bytes, arith}
use Rattle.page_model.specs.View.{line_of}
use Rattle.console_page.specs.Blocks.{item_text}
use Rattle.console_page.proofs.Lists.{seen_step}
use Rattle.console_page.proofs.blocks.push_items.Goals as goal

pub loop-item-preserved : goal.loop-item-preserved
loop-item-preserved g c =
    let before = string_bytes c.loop-item.out in
    seen_step (item_text c.args.width) c.args.items.now (λ item. map (λ line. line_of line.items) item.items) c.loop-item.item-index c.item-item.result (string_bytes c.args.out.now) before (string_bytes c.push_item.new.out) (omega arith) c.loop-item.invariant (c.in_ok-push_item.ensures ∙ ap (λ lines. before ++ item_text c.args.width (map (λ line. line_of line.items) lines)) (c.as_slice.ensures.value ∙ ap (λ item. item.items) c.item-item.is))
