use Rattle.std.proofs.Common.{◌≡◌, map, take}
use Rattle.page_model.specs.View.{line_of}
use Rattle.description.specs.View.{opt_said}
use Rattle.description_usage.specs.Usage.{called}
use Rattle.description_usage.proofs.usage.called_lines.Given as goal

abbrev pub invariant-loop-option : goal.invariant-loop-option
invariant-loop-option g l = map (λ line. line_of line.items) l.lines.items ≡ map called (map opt_said (take l.option-index l.options))
