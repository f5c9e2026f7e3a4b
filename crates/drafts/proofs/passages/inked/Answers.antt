use Rattle.drafts.proofs.Lists.{inked_is}
use Rattle.drafts.proofs.passages.inked.Goals as goal

pub returns : goal.returns
returns c = inked_is c.args.lines.now c.inked_len.result c.inked_len.ensures.exact
