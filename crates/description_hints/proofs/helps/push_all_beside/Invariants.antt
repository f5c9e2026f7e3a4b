use Rattle.std.proofs.Common.{◌≡◌, ◌++◌, ℕ, List, [], drop, map, take}
use Rattle.description_hints.specs.Hints.{beside_those, first_called}
use Rattle.description_hints.specs.Steps.{first_in}
use Rattle.description_hints.specs.View.{help_said, warning_said}
use Rattle.description_hints.proofs.helps.push_all_beside.Given as goal

abbrev pub invariant-loop-help : goal.invariant-loop-help
invariant-loop-help l =
    (map warning_said l.found.items ++ beside_those (map help_said (take l.help-index l.helps)) (map help_said (drop l.help-index l.helps)) ≡ map warning_said l.fn.found.items ++ beside_those [] (map help_said l.helps))
    × ((name : List ℕ) → first_in l.firsts name ≡ first_called name (map help_said (take l.help-index l.helps)))
