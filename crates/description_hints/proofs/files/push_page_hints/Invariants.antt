use Rattle.std.proofs.Common.{◌≡◌, ◌++◌, flat_map, map, take}
use Rattle.description_hints.specs.Hints.{page_warnings}
use Rattle.description_hints.specs.View.{page_site_said, warning_said}
use Rattle.description_hints.proofs.files.push_page_hints.Given as goal

abbrev pub invariant-loop-page : goal.invariant-loop-page
invariant-loop-page l =
    map warning_said l.found.items ≡ map warning_said l.fn.found.items ++ flat_map (page_warnings l.section) (map page_site_said (take l.page-index l.pages))
