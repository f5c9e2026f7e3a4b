use Rattle.std.proofs.Common.{ap, map, ◌∙◌, ◌++◌}
use Rattle.description.specs.View.{positional_said}
use Rattle.description_usage.specs.Usage.{shown_positionals}
use Rattle.description_usage.proofs.LevelParts.{group_more}
use Rattle.description_usage.proofs.usage.push_group_positionals.Goals as goal

pub loop-group-preserved : goal.loop-group-preserved
loop-group-preserved g c =
    group_more c.args.groups.now c.loop-group.group-index c.group-item.result (map positional_said c.args.shown.now.items) (map positional_said c.loop-group.shown.items) (map positional_said c.push_positionals.new.shown.items) c.group-item.is c.loop-group-test.true
    (c.in_ok-push_positionals.ensures ∙ ap (λ ps. map positional_said c.loop-group.shown.items ++ shown_positionals (map positional_said ps)) c.as_slice.ensures.value) c.loop-group.invariant
