use Rattle.std.proofs.Common.{ap, map, take, [], ◌∷◌, arith}
use Rattle.std.proofs.lemmas.List.{take_more, map-append}
use Rattle.bpaf_meta.specs.View.{tree_of}
use Rattle.bpaf_meta.proofs.lemmas.Views.{view-Command}
use Rattle.bpaf_meta.proofs.+copy.Goals as goal

pub item::Item::clone-returns-in_ok-clone_info-in-Command : goal.item::Item::clone-returns-in_ok-clone_info-in-Command
item::Item::clone-returns-in_ok-clone_info-in-Command g t c =
    let made = view-Command c.in-Command.name c.in-Command.short c.in_ok-clone_help-in-Command.field-0 c.in_ok-clone_boxed-in-Command.field-0 c.in_ok-clone_info-in-Command.field-0 in
    let given = view-Command c.in-Command.name c.in-Command.short c.in-Command.help c.in-Command.meta c.in-Command.info in
    cc (made, given, c.in-Command.is, c.in_ok-clone_help-in-Command.ensures, c.in_ok-clone_boxed-in-Command.ensures, c.in_ok-clone_info-in-Command.ensures)

pub meta::clone_parts-loop-part-preserved : goal.meta::clone_parts-loop-part-preserved
meta::clone_parts-loop-part-preserved g t c =
    let e = ap (map tree_of) (take_more c.deref-part-items.result.now c.loop-part.part-index c.part-item.result (omega arith)) in
    let a = map-append tree_of (take c.loop-part.part-index c.deref-part-items.result.now) (c.part-item.result ∷ []) in
    let b = map-append tree_of c.loop-part.copies.items (c.in_ok-clone.field-0 ∷ []) in
    cc (e, a, b, c.part-item.is, c.in_ok-push.ensures.items, c.in_ok-clone.ensures, c.loop-part.invariant)
