use Rattle.std.proofs.Common.{◌≡◌, ◌++◌, drop, map}
use Rattle.page_model.specs.View.{chapter_of}
use Rattle.description.specs.View.{commands_said, groups_said}
use Rattle.description.specs.Words.{words_said}
use Rattle.description_pages.specs.Chapters.{command_chapters, group_chapters}
use Rattle.description_pages.specs.LevelsView.{subject_of}
use Rattle.description_pages.proofs.chapters.+chapters.Given as goal

abbrev pub invariant-push_groups-loop-group : goal.invariant-push_groups-loop-group
invariant-push_groups-loop-group g l =
    map chapter_of l.lower.items ++ group_chapters (words_said l.words) (subject_of l.above) (groups_said (drop l.group-index l.group-items))
    ≡ map chapter_of l.fn.lower.items ++ group_chapters (words_said l.words) (subject_of l.above) (groups_said l.groups.items)

abbrev pub invariant-push_commands-loop-command : goal.invariant-push_commands-loop-command
invariant-push_commands-loop-command g l =
    map chapter_of l.lower.items ++ command_chapters (words_said l.words) (subject_of l.above) (commands_said (drop l.command-index l.command-items))
    ≡ map chapter_of l.fn.lower.items ++ command_chapters (words_said l.words) (subject_of l.above) (commands_said l.commands.items)
