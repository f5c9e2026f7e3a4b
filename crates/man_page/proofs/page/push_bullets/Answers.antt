use Rattle.std.proofs.Common.{◌++◌, ◌∙◌, ap, map, string_bytes, arith}
use Rattle.page_model.specs.View.{line_of}
use Rattle.man_page.specs.Exact.{bullet_text}
use Rattle.man_page.proofs.Lists.{seen_step}
use Rattle.man_page.proofs.page.push_bullets.Goals as goal

pub loop-item-preserved : goal.loop-item-preserved
loop-item-preserved g c =
    let section = c.args.section.now in
    let before = string_bytes c.loop-item.writer.page in
    seen_step (bullet_text section) c.args.items.now (λ item. map (λ line. line_of line.items) item.items) c.loop-item.item-index c.item-item.result (string_bytes c.args.writer.now.page) before (string_bytes c.push_bullet.new.writer.page) (omega arith) c.loop-item.invariant (c.in_ok-push_bullet.ensures ∙ ap (λ lines. before ++ bullet_text section (map (λ line. line_of line.items) lines)) (c.as_slice.ensures.value ∙ ap (λ item. item.items) c.item-item.is))
