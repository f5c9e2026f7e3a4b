use Rattle.description.specs.View.{description_said}
use Rattle.description_pages.specs.LevelsView.{subject_of}
use Rattle.clidoc_engine.specs.Chosen.{words_said}
use Rattle.clidoc_engine.proofs.Made.{a_markdown}
use Rattle.clidoc_engine.proofs.pages.in_markdown.Goals as goal

pub returns-clause-page : goal.returns-clause-page
returns-clause-page g c =
    a_markdown (words_said c.args.commands.now) (description_said c.args.description.now) (subject_of c.in_ok-level.level) c.in_ok-page.page
    c.in_ok-level.ensures.ok c.args.depth c.in_ok-page.ensures.reads c.in_ok-page.ensures.exact
