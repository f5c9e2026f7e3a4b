use Rattle.std.proofs.Common.{◌≡◌, ◌++◌, map, take}
use Rattle.description.specs.View.{choice_said}
use Rattle.description_hints.specs.Names.{choices_words}
use Rattle.description_hints.specs.View.{words_said}
use Rattle.description_hints.proofs.level_words.push_choices.Given as goal

abbrev pub invariant-loop-choice : goal.invariant-loop-choice
invariant-loop-choice g l = words_said l.words.items ≡ words_said l.fn.words.items ++ choices_words (map choice_said (take l.choice-index l.choices))
