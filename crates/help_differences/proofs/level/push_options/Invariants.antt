use Rattle.std.proofs.Common.{◌≡◌, ◌++◌, drop, map}
use Rattle.description.specs.View.{opt_said}
use Rattle.help_differences.specs.Level.{names_of_options}
use Rattle.help_differences.specs.View.{name_said}
use Rattle.help_differences.proofs.level.push_options.Given as goal

abbrev pub invariant-loop-option : goal.invariant-loop-option
invariant-loop-option l = record {
  so_far : map name_said l.names.items ++ names_of_options (map opt_said (drop l.option-index l.options)) ≡ map name_said l.initial.names.items ++ names_of_options (map opt_said l.options);
}
