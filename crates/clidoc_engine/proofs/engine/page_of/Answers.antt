use Rattle.std.proofs.Common.{ap, sym, ◌∙◌}
use Rattle.toml.specs.View.{table_view}
use Rattle.description.specs.View.{description_said}
use Rattle.clidoc_engine.specs.Chosen.{page_said}
use Rattle.clidoc_engine.specs.Inputs.{table_in}
use Rattle.clidoc_engine.proofs.Led.{lost_page, not_made}
use Rattle.clidoc_engine.proofs.engine.page_of.Goals as goal

pub returns-clause-no_command : goal.returns-clause-no_command
returns-clause-no_command g c =
    lost_page (page_said c.args.page.now) c.args.file.now c.args.text.now (description_said c.in_ok-description.description) c.rendered-made.result
    (record { table = table_view c.in_ok-table.table; read = ap (λ n. table_in n c.args.text.now) (sym c.notation_of-notation.ensures) ∙ c.in_ok-table.ensures.ok; gives = c.in_ok-description.ensures.ok }) c.rendered-made.ensures.unmade

pub returns-clause-no_page : goal.returns-clause-no_page
returns-clause-no_page g c =
    not_made (page_said c.args.page.now) c.args.file.now c.args.text.now (description_said c.in_ok-description.description) c.rendered-made.result
    (record { table = table_view c.in_ok-table.table; read = ap (λ n. table_in n c.args.text.now) (sym c.notation_of-notation.ensures) ∙ c.in_ok-table.ensures.ok; gives = c.in_ok-description.ensures.ok }) c.rendered-made.ensures.unmade
