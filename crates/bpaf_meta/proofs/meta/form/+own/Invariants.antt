use Rattle.std.proofs.Common.{◌≡◌, take, map}
use Rattle.bpaf_meta.specs.View.{tree_of}
use Rattle.bpaf_meta.specs.Meta.Steps.Forms.{form_of}
use Rattle.bpaf_meta.proofs.meta.form.+own.Given as goal

abbrev pub invariant-own_parts-loop-part : goal.invariant-own_parts-loop-part
invariant-own_parts-loop-part g l = map tree_of l.copies.items ≡ map form_of (take l.part-index l.part-items)
