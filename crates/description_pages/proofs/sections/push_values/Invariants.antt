use Rattle.std.proofs.Common.{◌≡◌, ◌++◌, drop, map}
use Rattle.description_pages.specs.Rows.{row_said}
use Rattle.description.specs.View.{positional_said}
use Rattle.description_pages.specs.Sections.{value_rows}
use Rattle.description.specs.Words.{words_said}
use Rattle.description_pages.proofs.sections.push_values.Given as goal

abbrev pub invariant-loop-value : goal.invariant-loop-value
invariant-loop-value l =
    map row_said l.rows.items ++ value_rows (words_said l.making.words.now) l.making.detail (map positional_said (drop l.value-index l.values))
    ≡ map row_said l.initial.rows.items ++ value_rows (words_said l.making.words.now) l.making.detail (map positional_said l.values)
