use Rattle.std.proofs.Common.{◌≡◌, ◌++◌, drop, map}
use Rattle.description.specs.View.{opt_said}
use Rattle.description_pages.specs.Subjects.{name_only}
use Rattle.description_pages.proofs.subjects.names_only.Given as goal

abbrev pub invariant-loop-option : goal.invariant-loop-option
invariant-loop-option l =
    map opt_said l.names.items ++ map name_only (map opt_said (drop l.option-index l.options))
    ≡ map name_only (map opt_said l.options)
