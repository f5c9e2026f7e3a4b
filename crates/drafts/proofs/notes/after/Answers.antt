use Rattle.drafts.proofs.Ends.{prefix_is}
use Rattle.drafts.proofs.notes.after.Goals as goal

pub returns : goal.returns
returns c = prefix_is c.args.beginning.now c.args.text.now c.strip_prefix.result c.strip_prefix.ensures.cases
