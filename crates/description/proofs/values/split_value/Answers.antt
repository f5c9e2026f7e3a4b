use Rattle.description.proofs.Listed.{split_listed}
use Rattle.description.proofs.values.split_value.Goals as goal

pub returns-clause-values : goal.returns-clause-values
returns-clause-values c = split_listed c.args.text.now c.split_once.result c.split_once.ensures.cases
