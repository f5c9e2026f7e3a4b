use Rattle.std.proofs.Common.{◌≡◌, ◌++◌, flat_map, map, take}
use Rattle.description.specs.View.{group_said}
use Rattle.description_hints.specs.Names.{group_words}
use Rattle.description_hints.specs.View.{words_said}
use Rattle.description_hints.proofs.level_words.push_groups.Given as goal

abbrev pub invariant-loop-group : goal.invariant-loop-group
invariant-loop-group g l = words_said l.words.items ≡ words_said l.fn.words.items ++ flat_map group_words (map group_said (take l.group-index l.groups))
