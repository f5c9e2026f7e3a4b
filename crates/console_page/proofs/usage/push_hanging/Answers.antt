use Rattle.std.proofs.Common.{◌++◌, ◌∙◌, ap, length, map, refl, string_bytes}
use Rattle.std.specs.Prelude.{flat_map}
use Rattle.page_model.specs.View.{line_of}
use Rattle.console_page.specs.Texts.{line_text}
use Rattle.console_page.specs.Usage.{form_margin, items_text, pieces}
use Rattle.console_page.proofs.Items.{hung_step}
use Rattle.console_page.proofs.usage.push_hanging.Goals as goal

pub returns : goal.returns
returns g c =
    let items = map line_text (map (λ item. line_of item.items) c.args.items.now) in
    let width = c.args.width in
    let taken = c.columns_of-taken.result in
    let room = c.saturating_sub.result in
    let shown = c.as_str-indent.result.now in
    hung_step c.push_str-2.result width taken (length shown) room c.args.front.now (string_bytes c.push_margin.new.margin) shown (string_bytes c.args.out.now) (string_bytes c.push_str.new.self) (string_bytes c.push_items.new.out) (string_bytes c.push_str-2.new.self) items
    c.columns_of-taken.ensures
    (c.in_ok-push_margin.ensures ∙ ap (λ x. x ++ form_margin width taken items) c.new-margin.ensures.bytes)
    c.as_str-indent.ensures.value
    refl
    c.saturating_sub.ensures
    c.in_ok-push_str.ensures.bytes
    (c.in_ok-push_items.ensures ∙ ap (λ left. string_bytes c.push_str.new.self ++ items_text room shown left (flat_map (pieces room) items)) c.saturating_sub-2.ensures)
    c.push_str-2.ensures.bytes
