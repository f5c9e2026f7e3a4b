use Rattle.std.proofs.Common.{◌≡◌, ◌++◌, map, take}
use Rattle.description.specs.View.{positional_said}
use Rattle.description_usage.specs.Usage.{shown_positionals}
use Rattle.description_usage.proofs.usage.push_positionals.Given as goal

abbrev pub invariant-loop-positional : goal.invariant-loop-positional
invariant-loop-positional g l = map positional_said l.shown.items ≡ map positional_said l.fn.shown.items ++ shown_positionals (map positional_said (take l.positional-index l.positionals))
