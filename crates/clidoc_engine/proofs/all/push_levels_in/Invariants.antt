use Rattle.std.proofs.Common.{◌≡◌, ◌++◌, flat_map, map}
use Rattle.description.specs.View.{description_said}
use Rattle.description_pages.specs.LevelsView.{subject_of}
use Rattle.description_pages.specs.Subjects.{all_from}
use Rattle.command_pages.specs.View.{title_said}
use Rattle.clidoc_engine.specs.Files.{AreAllRead, file_said, level_files}
use Rattle.command_pages.specs.Pages.{application}
use Rattle.clidoc_engine.proofs.all.push_levels_in.Given as goal

abbrev pub invariant-loop-level : goal.invariant-loop-level
invariant-loop-level g l =
    let d = description_said l.description in
    let given = title_said l.given in
    let all = all_from (application d) in
    let rest = map subject_of l.level-iterator.rest.items in
    (map file_said l.files.items ++ flat_map (level_files d given) rest ≡ map file_said l.fn.files.items ++ flat_map (level_files d given) all)
    × (AreAllRead d given rest → AreAllRead d given all)
