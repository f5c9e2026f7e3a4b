use Rattle.std.proofs.Common.{◌≡◌, map, take}
use Rattle.description_hints.specs.Names.{known_words}
use Rattle.description_hints.specs.View.{site_said, words_said}
use Rattle.description_hints.proofs.known.words_of.Given as goal

abbrev pub invariant-loop-site : goal.invariant-loop-site
invariant-loop-site l = words_said l.words.items ≡ known_words (map site_said (take l.site-index l.sites))
