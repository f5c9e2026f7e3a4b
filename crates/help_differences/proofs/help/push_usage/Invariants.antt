use Rattle.std.proofs.Common.{◌≡◌, ◌++◌, drop, map}
use Rattle.help_differences.specs.Help.{names_of_usage}
use Rattle.help_differences.specs.View.{name_said}
use Rattle.help_differences.proofs.help.push_usage.Given as goal

abbrev pub invariant-loop-line : goal.invariant-loop-line
invariant-loop-line g l = record {
  so_far : map name_said l.names.items ++ names_of_usage (map (λ t. t.now) (drop l.line-index l.lines)) ≡ map name_said l.initial.names.items ++ names_of_usage (map (λ t. t.now) l.lines);
}
