use Rattle.std.proofs.Common.{◌≡◌, drop}
use Rattle.description.specs.View.{groups_said}
use Rattle.completions.specs.Table.{groups_take_words}
use Rattle.completions.proofs.levels.groups_take_words.Given as goal

abbrev pub invariant-loop-group : goal.invariant-loop-group
invariant-loop-group g l = groups_take_words (groups_said (drop l.group-index l.groups)) ≡ groups_take_words (groups_said l.groups)
