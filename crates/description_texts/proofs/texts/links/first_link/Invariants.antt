use Rattle.std.proofs.Common.{◌≡◌, ◌++◌, map, take, drop}
use Rattle.description_texts.specs.TextsInside.{links, word}
use Rattle.description_texts.proofs.texts.links.first_link.Given as goal

abbrev pub invariant-loop-at : goal.invariant-loop-at
invariant-loop-at l = links l.text ≡ map word (take l.at l.text) ++ links (drop l.at l.text)
