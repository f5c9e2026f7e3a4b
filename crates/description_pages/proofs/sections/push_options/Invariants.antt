use Rattle.std.proofs.Common.{◌≡◌, ◌++◌, drop, map}
use Rattle.description_pages.specs.Rows.{row_said}
use Rattle.description.specs.View.{opt_said}
use Rattle.description_pages.specs.Sections.{option_rows}
use Rattle.description.specs.Words.{words_said}
use Rattle.description_pages.proofs.sections.push_options.Given as goal

abbrev pub invariant-loop-option : goal.invariant-loop-option
invariant-loop-option l =
    map row_said l.rows.items ++ option_rows (words_said l.making.words.now) l.making.detail (map opt_said (drop l.option-index l.options))
    ≡ map row_said l.initial.rows.items ++ option_rows (words_said l.making.words.now) l.making.detail (map opt_said l.options)
