use Rattle.std.proofs.Common.{◌≡◌, ◌++◌, drop, map}
use Rattle.description_pages.specs.Rows.{row_said}
use Rattle.description.specs.View.{choice_said}
use Rattle.description_pages.specs.Sections.{choice_rows}
use Rattle.description.specs.Words.{words_said}
use Rattle.description_pages.proofs.sections.push_choices.Given as goal

abbrev pub invariant-loop-choice : goal.invariant-loop-choice
invariant-loop-choice g l =
    map row_said l.rows.items ++ choice_rows (words_said l.making.words.now) l.making.detail (map choice_said (drop l.choice-index l.choices))
    ≡ map row_said l.initial.rows.items ++ choice_rows (words_said l.making.words.now) l.making.detail (map choice_said l.choices)
