use Rattle.std.proofs.Common.{◌≡◌, flat_map, map, take}
use Rattle.description_hints.specs.Hints.{site_helps}
use Rattle.description_hints.specs.View.{help_said, site_said}
use Rattle.description_hints.proofs.helps.helps_in.Given as goal

abbrev pub invariant-loop-site : goal.invariant-loop-site
invariant-loop-site l = map help_said l.helps.items ≡ flat_map site_helps (map site_said (take l.site-index l.sites))
