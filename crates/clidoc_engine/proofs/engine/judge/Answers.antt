use Rattle.std.proofs.Common.{ap, sym, ◌∙◌}
use Rattle.toml.specs.View.{table_view}
use Rattle.description.specs.View.{description_said}
use Rattle.clidoc_engine.specs.Inputs.{table_in}
use Rattle.clidoc_engine.proofs.engine.judge.Goals as goal

pub returns-clause-ok : goal.returns-clause-ok
returns-clause-ok c = record {
  description = description_said c.in_ok-description.description;
  described = record { table = table_view c.in_ok-data.data; read = ap (λ n. table_in n c.args.text.now) (sym c.notation_of-notation.ensures) ∙ c.in_ok-data.ensures.ok; gives = c.in_ok-description.ensures.ok };
  each = c.in_ok-warnings.ensures.each;
}
