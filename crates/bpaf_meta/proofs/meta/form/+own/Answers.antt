use Rattle.std.proofs.Common.{ap, map, take, [], ◌∷◌, arith}
use Rattle.std.proofs.lemmas.List.{take_more, map-append}
use Rattle.bpaf_meta.specs.View.{tree_of}
use Rattle.bpaf_meta.specs.Meta.Steps.Forms.{form_of}
use Rattle.bpaf_meta.proofs.meta.form.+own.Goals as goal

pub own_parts-loop-part-preserved : goal.own_parts-loop-part-preserved
own_parts-loop-part-preserved g t c =
    let e = ap (map form_of) (take_more c.deref-part-items.result.now c.loop-part.part-index c.part-item.result (omega arith)) in
    let a = map-append form_of (take c.loop-part.part-index c.deref-part-items.result.now) (c.part-item.result ∷ []) in
    let b = map-append tree_of c.loop-part.copies.items (c.in_ok-to_meta.field-0 ∷ []) in
    cc (e, a, b, c.part-item.is, c.in_ok-push.ensures.items, c.in_ok-to_meta.ensures, c.loop-part.invariant)
