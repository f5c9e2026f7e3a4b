use Rattle.std.proofs.Common.{◌≡◌, ◌++◌, ℕ, List, [], drop, map, take}
use Rattle.description_hints.specs.Hints.{alike_warnings, page_key}
use Rattle.description_hints.specs.Names.{is_among}
use Rattle.description_hints.specs.View.{holds, page_site_said, warning_said}
use Rattle.description_hints.proofs.files.push_all_alike_hints.Given as goal

abbrev pub invariant-loop-page : goal.invariant-loop-page
invariant-loop-page l =
    (map warning_said l.found.items ++ alike_warnings (map page_key (map page_site_said (take l.page-index l.pages))) (map page_site_said (drop l.page-index l.pages)) ≡ map warning_said l.fn.found.items ++ alike_warnings [] (map page_site_said l.pages))
    × ((word : List ℕ) → holds l.before word ≡ is_among (map page_key (map page_site_said (take l.page-index l.pages))) word)
