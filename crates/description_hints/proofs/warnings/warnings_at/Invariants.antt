use Rattle.std.proofs.Common.{◌≡◌, flat_map, map, take}
use Rattle.description_hints.specs.Hints.{site_warnings}
use Rattle.description_hints.specs.View.{around_said, site_said, warning_said}
use Rattle.description_hints.proofs.warnings.warnings_at.Given as goal

abbrev pub invariant-loop-site : goal.invariant-loop-site
invariant-loop-site l =
    map warning_said l.found.items ≡ flat_map (site_warnings (around_said l.around)) (map site_said (take l.site-index l.sites))
