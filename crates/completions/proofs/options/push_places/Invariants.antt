use Rattle.std.proofs.Common.{map, string_bytes, take}
use Rattle.description.specs.View.{positional_said}
use Rattle.completions.specs.Table.{places_entries}
use Rattle.completions.specs.Written.{Writes}
use Rattle.completions.proofs.options.push_places.Given as goal

abbrev pub invariant-loop-positional : goal.invariant-loop-positional
invariant-loop-positional g l = Writes l.shell (string_bytes l.fn.out) (string_bytes l.out) (places_entries (map positional_said (take l.positional-index l.positionals)))
