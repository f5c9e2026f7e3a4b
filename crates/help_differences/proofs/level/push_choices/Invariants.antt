use Rattle.std.proofs.Common.{◌≡◌, ◌++◌, drop, map}
use Rattle.description.specs.View.{choice_said}
use Rattle.help_differences.specs.Level.{names_of_choices}
use Rattle.help_differences.specs.View.{name_said}
use Rattle.help_differences.proofs.level.push_choices.Given as goal

abbrev pub invariant-loop-choice : goal.invariant-loop-choice
invariant-loop-choice g l = record {
  so_far : map name_said l.names.items ++ names_of_choices (map choice_said (drop l.choice-index l.choices)) ≡ map name_said l.initial.names.items ++ names_of_choices (map choice_said l.choices);
}
