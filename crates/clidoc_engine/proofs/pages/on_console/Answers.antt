use Rattle.std.proofs.Common.{sym, ap, ◌∙◌}
use Rattle.description.specs.View.{description_said}
use Rattle.description_pages.specs.LevelsView.{subject_of}
use Rattle.command_pages.specs.Pages.{level_at}
use Rattle.clidoc_engine.specs.Chosen.{words_said}
use Rattle.clidoc_engine.proofs.Made.{a_console_page}
use Rattle.clidoc_engine.proofs.pages.on_console.Goals as goal

pub returns-clause-page : goal.returns-clause-page
returns-clause-page g c =
    let console = c.args.console.now in
    let d = description_said c.args.description.now in
    a_console_page (words_said console.commands.items) d (subject_of c.in_ok-level.level) c.in_ok-page.page
    (ap (λ words. level_at (words_said words) d) (sym c.deref.ensures.value) ∙ c.in_ok-level.ensures.ok) console.form console.width c.in_ok-page.ensures.exact
