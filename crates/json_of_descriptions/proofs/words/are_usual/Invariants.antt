use Rattle.std.proofs.Common.{◌≡◌, drop}
use Rattle.json_of_descriptions.specs.Fields.{is_nothing}
use Rattle.json_of_descriptions.proofs.Usual.{all_words}
use Rattle.json_of_descriptions.proofs.words.are_usual.Given as goal

abbrev pub invariant-loop-row : goal.invariant-loop-row
invariant-loop-row l = is_nothing (all_words (drop l.row-index l.rows)) ≡ is_nothing (all_words l.rows)
