use Rattle.std.proofs.Common.{map}
use Rattle.description_hints.specs.View.{warning_said}
use Rattle.description_hints.proofs.Firsts.{first_more, told_more}
use Rattle.description_hints.proofs.helps.push_all_beside.Goals as goal

pub loop-help-preserved : goal.loop-help-preserved
loop-help-preserved c = (
  told_more c.args.helps.now c.loop-help.help-index _ c.loop-help-test.true (map warning_said c.loop-help.found.items) (map warning_said c.push_beside.new.found.items) _ _ c.loop-help.invariant.0 c.in_ok-push_beside.ensures.told (c.loop-help.invariant.1 _),
  first_more c.args.helps.now c.loop-help.help-index _ c.loop-help-test.true c.loop-help.firsts c.push_beside.new.firsts c.loop-help.invariant.1 c.in_ok-push_beside.ensures.kept,
)
