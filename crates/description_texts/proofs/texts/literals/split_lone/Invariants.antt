use Rattle.std.proofs.Common.{◌≡◌, take, drop}
use Rattle.description_texts.specs.TextsInside.{lone_parts, lone_split}
use Rattle.description_texts.proofs.TextsLiterals.{onto_front}
use Rattle.description_texts.proofs.texts.literals.split_lone.Given as goal

abbrev pub invariant-loop-at : goal.invariant-loop-at
invariant-loop-at l = lone_parts l.text ≡ onto_front (take l.at l.text) (lone_split l.is_after_quote (drop l.at l.text))
