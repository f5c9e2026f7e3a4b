use Rattle.std.proofs.Common.{◌≡◌, ◌++◌, drop, map}
use Rattle.description.specs.View.{commands_said, groups_said}
use Rattle.description_hints.specs.Sites.{commands_sites, groups_sites}
use Rattle.description_hints.specs.View.{path_said, site_said}
use Rattle.description_hints.proofs.sites.+sites.Given as goal

abbrev pub invariant-push_groups-loop-at : goal.invariant-push_groups-loop-at
invariant-push_groups-loop-at g l =
    map site_said l.sites.items ++ groups_sites l.standing (path_said l.path) l.at (groups_said (drop l.at l.group-items))
    ≡ map site_said l.fn.sites.items ++ groups_sites l.standing (path_said l.path) 0 (groups_said l.groups.items)

abbrev pub invariant-push_commands-loop-at : goal.invariant-push_commands-loop-at
invariant-push_commands-loop-at g l =
    map site_said l.sites.items ++ commands_sites (path_said l.path) l.at (commands_said (drop l.at l.command-items))
    ≡ map site_said l.fn.sites.items ++ commands_sites (path_said l.path) 0 (commands_said l.commands.items)
