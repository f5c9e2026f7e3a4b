use Rattle.std.proofs.Common.{◌≡◌, ◌++◌, drop, map}
use Rattle.description.specs.View.{opt_said}
use Rattle.description_hints.specs.Sites.{numbered, listed_option}
use Rattle.description_hints.specs.View.{path_said, site_said}
use Rattle.description_hints.proofs.sites.push_options.Given as goal

abbrev pub invariant-loop-at : goal.invariant-loop-at
invariant-loop-at l =
    map site_said l.sites.items ++ numbered (listed_option l.standing (path_said l.fn.path) l.list) l.at (map opt_said (drop l.at l.options))
    ≡ map site_said l.fn.sites.items ++ numbered (listed_option l.standing (path_said l.fn.path) l.list) 0 (map opt_said l.options)
