use Rattle.help_differences.proofs.Noted.{closed_found}
use Rattle.help_differences.proofs.notes.split_closed.Goals as goal

pub returns-clause-closed : goal.returns-clause-closed
returns-clause-closed c = closed_found c.args.line.now c.split_once.result c.split_once.ensures.cases
