use Rattle.std.proofs.Common.{◌≡◌, drop}
use Rattle.std.specs.List.{find}
use Rattle.description.specs.View.{groups_said}
use Rattle.description_pages.specs.Subjects.{grouped, is_named}
use Rattle.description_pages.proofs.subjects.grouped_command.Given as goal

abbrev pub invariant-loop-group : goal.invariant-loop-group
invariant-loop-group g l =
    find (is_named l.word) (grouped (groups_said (drop l.group-index l.groups)))
    ≡ find (is_named l.word) (grouped (groups_said l.groups))
