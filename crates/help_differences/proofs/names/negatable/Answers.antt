use Rattle.help_differences.proofs.Written.{stripped}
use Rattle.help_differences.proofs.names.negatable.Goals as goal

pub returns : goal.returns
returns c = stripped c.args.text.now c.strip_prefix.result c.strip_prefix.ensures.cases
