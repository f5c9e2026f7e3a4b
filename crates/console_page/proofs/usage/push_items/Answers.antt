use Rattle.std.proofs.Common.{◌+◌, ◌++◌, ◌∙◌, ap, drop, map, string_bytes, arith}
use Rattle.std.specs.Prelude.{flat_map}
use Rattle.page_model.specs.View.{line_of}
use Rattle.console_page.specs.Texts.{line_text}
use Rattle.console_page.specs.Usage.{items_text, pieces}
use Rattle.console_page.specs.Steps.{left_after}
use Rattle.console_page.proofs.Items.{put_step}
use Rattle.console_page.proofs.Lists.{drop_next}
use Rattle.console_page.proofs.usage.push_items.Goals as goal

pub loop-item-preserved : goal.loop-item-preserved
loop-item-preserved g c =
    let room = c.args.hang.room in
    let margin = c.args.hang.margin.now in
    let left = c.loop-item.left in
    let out = string_bytes c.loop-item.out in
    let same = c.as_slice.ensures.value ∙ ap (λ item. item.items) c.item-item.is in
    put_step room margin left c.in_ok-left.left out (string_bytes c.push_line_item.new.out) _
    (flat_map (pieces room) (map line_text (map (λ item. line_of item.items) (drop c.loop-item.item-index c.args.items.now)))) _
    (flat_map (pieces room) (map line_text (map (λ item. line_of item.items) (drop (c.loop-item.item-index + 1) c.args.items.now))))
    (ap (λ items. flat_map (pieces room) (map line_text (map (λ item. line_of item.items) items))) (drop_next c.args.items.now c.loop-item.item-index c.item-item.result (omega arith)))
    (c.in_ok-left.ensures.text ∙ ap (λ item. out ++ items_text room margin left (pieces room (line_text (line_of item)))) same)
    (c.in_ok-left.ensures.left ∙ ap (λ item. left_after room left (pieces room (line_text (line_of item)))) same)
    c.loop-item.invariant
