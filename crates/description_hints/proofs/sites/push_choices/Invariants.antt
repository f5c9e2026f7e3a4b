use Rattle.std.proofs.Common.{◌≡◌, ◌++◌, drop, map}
use Rattle.description.specs.View.{choice_said}
use Rattle.description_hints.specs.Sites.{numbered, choice_sites}
use Rattle.description_hints.specs.View.{path_said, site_said}
use Rattle.description_hints.proofs.sites.push_choices.Given as goal

abbrev pub invariant-loop-at : goal.invariant-loop-at
invariant-loop-at g l =
    map site_said l.sites.items ++ numbered (choice_sites l.standing (path_said l.fn.path)) l.at (map choice_said (drop l.at l.choices))
    ≡ map site_said l.fn.sites.items ++ numbered (choice_sites l.standing (path_said l.fn.path)) 0 (map choice_said l.choices)
