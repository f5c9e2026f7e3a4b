use Rattle.std.proofs.Common.{◌≡◌, take, map}
use Rattle.bpaf_meta.specs.View.{tree_of}
use Rattle.bpaf_meta.proofs.+copy.Given as goal

abbrev pub invariant-meta::clone_parts-loop-part : goal.invariant-meta::clone_parts-loop-part
invariant-meta::clone_parts-loop-part g l = map tree_of l.copies.items ≡ map tree_of (take l.part-index l.part-items)
