use Rattle.description.specs.View.{description_said}
use Rattle.description_pages.specs.LevelsView.{subject_of}
use Rattle.command_pages.specs.View.{title_said}
use Rattle.clidoc_engine.specs.Chosen.{words_said}
use Rattle.clidoc_engine.proofs.Made.{an_html_page}
use Rattle.clidoc_engine.proofs.pages.in_html.Goals as goal

pub returns-clause-page : goal.returns-clause-page
returns-clause-page g c =
    an_html_page (words_said c.args.commands.now) (description_said c.args.description.now) (subject_of c.in_ok-level.level) c.in_ok-page.page
    c.in_ok-level.ensures.ok c.args.extent (title_said c.args.given) c.in_ok-page.ensures.reads
