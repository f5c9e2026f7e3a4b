use Rattle.std.proofs.Common.{map, string_bytes, take}
use Rattle.description.specs.View.{choice_said}
use Rattle.completions.specs.Table.{choices_entries}
use Rattle.completions.specs.Written.{Writes}
use Rattle.completions.proofs.options.push_choices.Given as goal

abbrev pub invariant-loop-choice : goal.invariant-loop-choice
invariant-loop-choice g l = Writes l.shell (string_bytes l.fn.out) (string_bytes l.out) (choices_entries (map choice_said (take l.choice-index l.choices)))
