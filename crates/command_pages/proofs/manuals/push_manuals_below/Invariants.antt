use Rattle.std.proofs.Common.{◌≡◌, ◌++◌, flat_map, map}
use Rattle.page_model.specs.View.{part_of}
use Rattle.description_pages.specs.LevelsView.{subject_of}
use Rattle.description_pages.specs.Manuals.{manual_below}
use Rattle.description_pages.specs.Subjects.{subjects_after}
use Rattle.description.specs.Words.{words_said}
use Rattle.command_pages.proofs.manuals.push_manuals_below.Given as goal

abbrev pub invariant-loop-below : goal.invariant-loop-below
invariant-loop-below l =
    map part_of l.parts.items ++ flat_map (manual_below (words_said l.words)) (map subject_of l.below-iterator.rest.items)
    ≡ map part_of l.fn.parts.items ++ flat_map (manual_below (words_said l.words)) (subjects_after (subject_of l.fn.level))
