use Rattle.std.proofs.Common.{◌≡◌, ◌++◌, map, take}
use Rattle.description.specs.View.{opt_said}
use Rattle.description_hints.specs.Names.{options_names}
use Rattle.description_hints.specs.View.{words_said}
use Rattle.description_hints.proofs.shared.push_names.Given as goal

abbrev pub invariant-loop-option : goal.invariant-loop-option
invariant-loop-option l = words_said l.words.items ≡ words_said l.fn.words.items ++ options_names (map opt_said (take l.option-index l.options))
