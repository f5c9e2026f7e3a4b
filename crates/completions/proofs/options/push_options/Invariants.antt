use Rattle.std.proofs.Common.{map, string_bytes, take}
use Rattle.description.specs.View.{opt_said}
use Rattle.completions.specs.Table.{options_entries}
use Rattle.completions.specs.Written.{Writes}
use Rattle.completions.proofs.options.push_options.Given as goal

abbrev pub invariant-loop-option : goal.invariant-loop-option
invariant-loop-option l = Writes l.shell (string_bytes l.fn.out) (string_bytes l.out) (options_entries (map opt_said (take l.option-index l.options)))
