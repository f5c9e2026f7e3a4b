use Rattle.std.proofs.Common.{sym, ap, ◌∙◌}
use Rattle.description.specs.View.{description_said}
use Rattle.description_pages.specs.LevelsView.{subject_of}
use Rattle.command_pages.specs.Pages.{level_at}
use Rattle.help_differences.specs.View.{help_said}
use Rattle.clidoc_engine.specs.Chosen.{words_said}
use Rattle.clidoc_engine.proofs.Made.{a_comparison}
use Rattle.clidoc_engine.proofs.pages.compared.Goals as goal

pub returns-clause-page : goal.returns-clause-page
returns-clause-page g c =
    a_comparison (words_said c.args.commands.now) (description_said c.args.description.now) (subject_of c.in_ok-level.level) c.in_ok-text.text c.in_ok-level.ensures.ok (help_said c.args.help) c.in_ok-text.ensures
