use Rattle.std.proofs.Common.{◌≡◌, ◌+◌, ◌-◌, false, drop, option_map, sym, ap, ◌∙◌, arith}
use Rattle.json.specs.Value as json_view
use Rattle.toml.specs.View.{members_view, view}
use Rattle.description_json.specs.Tables.{items_data, members_data}
use Rattle.description_json.proofs.Trees.{items_before, items_end, items_turn, members_lost, members_none, members_turn}
use Rattle.description_json.proofs.data.+data.Goals as goal

pub items_data-loop-item-preserved : goal.items_data-loop-item-preserved
items_data-loop-item-preserved t c =
    let js = c.deref-item-items.result.now in
    let i = c.loop-item.item-index in
    items_turn js i c.item-item.result (omega arith) c.item-item.is (items_data (json_view.items_view js)) c.loop-item.array.items c.in-Some.data c.loop-item.invariant (rw c.in-Some.is at c.in_ok-data.ensures)
    ∙ ap (λ vs. option_map (items_before vs) (items_data (json_view.items_view (drop (i + 1) js)))) (sym c.in_ok-push.ensures.items)

pub items_data-returns : goal.items_data-returns
items_data-returns t c =
    let js = c.deref-item-items.result.now in
    items_end js c.loop-item.item-index (items_data (json_view.items_view js)) c.loop-item.array.items (omega arith) c.loop-item.invariant
    ∙ ap (λ xs. items_data (json_view.items_view xs)) c.deref-item-items.ensures.value

pub members_data-returns-in_default : goal.members_data-returns-in_default
members_data-returns-in_default t c =
    let ms = c.args.members.now.items in
    let i = c.loop-left.left - 1 in
    let next : i + 1 ≡ c.loop-left.left = omega arith in
    let done = ap (λ k. members_data (json_view.members_view (drop k ms))) next ∙ c.loop-left.invariant.1 in
    sym (members_none ms i c.index-member.result.now (omega arith) c.index-member.ensures (members_view c.loop-left.table.entries) done (rw c.in_default.is at c.in_ok-data.ensures))

pub members_data-returns-then-not-branch : goal.members_data-returns-then-not-branch
members_data-returns-then-not-branch t c =
    let ms = c.args.members.now.items in
    let i = c.loop-left.left - 1 in
    let next : i + 1 ≡ c.loop-left.left = omega arith in
    let done = ap (λ k. members_data (json_view.members_view (drop k ms))) next ∙ c.loop-left.invariant.1 in
    let twice : c.in_ok-put_member.field-0 ≡ false = grind arith in
    let turn = members_turn ms i c.index-member.result.now (omega arith) c.index-member.ensures (members_view c.loop-left.table.entries) done (view c.in-Some.data) (rw c.in-Some.is at c.in_ok-data.ensures) in
    sym (members_lost ms i (turn ∙ rw twice at c.in_ok-put_member.ensures))
