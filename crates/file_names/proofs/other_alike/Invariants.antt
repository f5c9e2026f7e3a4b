use Rattle.std.proofs.Common.{◌≡◌, drop}
use Rattle.std.specs.List.{list_any}
use Rattle.file_names.specs.Names.{are_alike, names_said}
use Rattle.file_names.proofs.other_alike.Given as goal

abbrev pub invariant-loop-other : goal.invariant-loop-other
invariant-loop-other l =
    list_any (are_alike l.name) (names_said (drop l.other-index l.others)) ≡ list_any (are_alike l.name) (names_said l.others)
