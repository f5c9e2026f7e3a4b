use Rattle.std.proofs.Common.{◌≡◌, map, take}
use Rattle.description.specs.View.{opt_said}
use Rattle.description_usage.specs.Usage.{shown_options}
use Rattle.description_usage.proofs.usage.shown_options.Given as goal

abbrev pub invariant-loop-option : goal.invariant-loop-option
invariant-loop-option g l = map opt_said l.shown.items ≡ shown_options (map opt_said (take l.option-index l.options))
