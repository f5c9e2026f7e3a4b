use Rattle.std.proofs.Common.{◌≡◌, ◌++◌, drop, map}
use Rattle.description.specs.View.{groups_said}
use Rattle.description_pages.specs.Levels.{grouped_below}
use Rattle.description_pages.proofs.neighbours.push_groups.Given as goal

abbrev pub invariant-loop-group : goal.invariant-loop-group
invariant-loop-group g l =
    map (λ page. page.now) l.pages.items ++ grouped_below (map (λ name. name.now) l.names) (groups_said (drop l.group-index l.groups))
    ≡ map (λ page. page.now) l.initial.pages.items ++ grouped_below (map (λ name. name.now) l.names) (groups_said l.groups)
