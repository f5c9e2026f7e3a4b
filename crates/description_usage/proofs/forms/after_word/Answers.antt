use Rattle.description_usage.proofs.Restored.{stripped}
use Rattle.description_usage.proofs.forms.after_word.Goals as goal

pub returns : goal.returns
returns c = stripped c.args.word.now c.args.line.now c.strip_prefix.result c.strip_prefix.ensures.cases
