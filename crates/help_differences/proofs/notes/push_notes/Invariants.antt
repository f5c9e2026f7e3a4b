use Rattle.std.proofs.Common.{◌≡◌, ◌++◌, drop, map}
use Rattle.help_differences.specs.Help.{names_of_notes}
use Rattle.help_differences.specs.View.{name_said}
use Rattle.help_differences.proofs.notes.push_notes.Given as goal

abbrev pub invariant-loop-line : goal.invariant-loop-line
invariant-loop-line g l = record {
  so_far : map name_said l.names.items ++ names_of_notes (map (λ t. t.now) (drop l.line-index l.lines)) ≡ map name_said l.initial.names.items ++ names_of_notes (map (λ t. t.now) l.lines);
}
