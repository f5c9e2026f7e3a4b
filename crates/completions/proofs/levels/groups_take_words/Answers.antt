use Rattle.std.proofs.Common.{◌+◌, ◌||◌, ap, drop, sym, ◌∙◌}
use Rattle.description.specs.View.{groups_said}
use Rattle.completions.specs.Table.{groups_take_words}
use Rattle.completions.proofs.TakesWords.{rest_there}
use Rattle.completions.proofs.levels.groups_take_words.Goals as goal

pub returns-then-takes_words : goal.returns-then-takes_words
returns-then-takes_words g c =
    let rest = groups_take_words (groups_said (drop (c.loop-group.group-index + 1) c.args.groups.now)) in
    let there = rest_there c.args.groups.now c.loop-group.group-index c.group-item.result c.as_slice.result.now c.as_slice-in-loop-group.result.now c.takes_words.result c.loop-group-test.true c.group-item.is c.as_slice.ensures.value c.as_slice-in-loop-group.ensures.value c.takes_words.ensures in
    sym (sym c.loop-group.invariant ∙ there ∙ ap (λ b. b || rest) c.if-takes_words.true)

pub loop-group-preserved : goal.loop-group-preserved
loop-group-preserved g c =
    let rest = groups_take_words (groups_said (drop (c.loop-group.group-index + 1) c.args.groups.now)) in
    let there = rest_there c.args.groups.now c.loop-group.group-index c.group-item.result c.as_slice.result.now c.as_slice-in-loop-group.result.now c.takes_words.result c.loop-group-test.true c.group-item.is c.as_slice.ensures.value c.as_slice-in-loop-group.ensures.value c.takes_words.ensures in
    sym (there ∙ ap (λ b. b || rest) c.if-takes_words.false) ∙ c.loop-group.invariant
