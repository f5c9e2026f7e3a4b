use Rattle.std.proofs.Common.{◌≡◌, ◌++◌, drop, map}
use Rattle.description.specs.View.{commands_said, groups_said}
use Rattle.description_hints.specs.Pages.{commands_pages, groups_pages}
use Rattle.description_hints.specs.View.{page_site_said, path_said}
use Rattle.description_hints.proofs.pages.+pages.Given as goal

abbrev pub invariant-push_groups-loop-at : goal.invariant-push_groups-loop-at
invariant-push_groups-loop-at g l =
    map page_site_said l.pages.items ++ groups_pages (path_said l.path) l.above l.at (groups_said (drop l.at l.group-items))
    ≡ map page_site_said l.fn.pages.items ++ groups_pages (path_said l.path) l.above 0 (groups_said l.groups.items)

abbrev pub invariant-push_commands-loop-at : goal.invariant-push_commands-loop-at
invariant-push_commands-loop-at g l =
    map page_site_said l.pages.items ++ commands_pages (path_said l.path) l.above l.at (commands_said (drop l.at l.command-items))
    ≡ map page_site_said l.fn.pages.items ++ commands_pages (path_said l.path) l.above 0 (commands_said l.commands.items)
