use Rattle.std.proofs.Common.{◌≡◌, ◌++◌, drop, map}
use Rattle.description.specs.View.{positional_said}
use Rattle.description_hints.specs.Sites.{numbered, positional_sites}
use Rattle.description_hints.specs.View.{path_said, site_said}
use Rattle.description_hints.proofs.sites.push_positionals.Given as goal

abbrev pub invariant-loop-at : goal.invariant-loop-at
invariant-loop-at l =
    map site_said l.sites.items ++ numbered (positional_sites (path_said l.fn.path)) l.at (map positional_said (drop l.at l.positionals))
    ≡ map site_said l.fn.sites.items ++ numbered (positional_sites (path_said l.fn.path)) 0 (map positional_said l.positionals)
