use Rattle.std.proofs.Common.{◌≡◌, drop}
use Rattle.description.specs.View.{description_said}
use Rattle.description_pages.specs.LevelsView.{subject_of}
use Rattle.description_pages.specs.Subjects.{led_to}
use Rattle.clidoc_engine.specs.Chosen.{words_said}
use Rattle.command_pages.specs.Pages.{level_at}
use Rattle.clidoc_engine.proofs.pages.level_at.Given as goal

abbrev pub invariant-loop-command : goal.invariant-loop-command
invariant-loop-command l = led_to (words_said (drop l.command-index l.commands)) (subject_of l.level) ≡ level_at (words_said l.commands) (description_said l.description)
