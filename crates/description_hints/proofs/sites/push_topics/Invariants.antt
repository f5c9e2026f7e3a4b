use Rattle.std.proofs.Common.{◌≡◌, ◌++◌, drop, map}
use Rattle.description.specs.View.{topic_said}
use Rattle.description_hints.specs.Sites.{numbered, topic_sites}
use Rattle.description_hints.specs.View.{path_said, site_said}
use Rattle.description_hints.proofs.sites.push_topics.Given as goal

abbrev pub invariant-loop-at : goal.invariant-loop-at
invariant-loop-at l =
    map site_said l.sites.items ++ numbered (topic_sites (path_said l.fn.path)) l.at (map topic_said (drop l.at l.topics))
    ≡ map site_said l.fn.sites.items ++ numbered (topic_sites (path_said l.fn.path)) 0 (map topic_said l.topics)
