use Rattle.help_differences.specs.View.{name_said}
use Rattle.help_differences.proofs.Merged.{merged_more}
use Rattle.help_differences.proofs.compared.merged.Goals as goal

pub loop-order-preserved : goal.loop-order-preserved
loop-order-preserved g c = record {
  so_far = merged_more name_said _ _ c.loop-order.ours.now c.loop-order.theirs.now c.left-ours.result.now c.left-theirs.result.now c.is_le.result c.is_ge.result _ _ _ c.in-Some.order
      c.loop-order.invariant.so_far c.in-Some.ensures c.found_by.ensures c.in_ok-push_found.ensures c.is_le.ensures c.is_ge.ensures c.left-ours.ensures c.left-theirs.ensures;
}
