use Rattle.drafts.proofs.Lists.{passage_is}
use Rattle.drafts.proofs.passages.passage_of.Goals as goal

pub returns : goal.returns
returns c = passage_is c.args.block.kind c.args.lines.now c.lines_below.result.now c.first_lines-own.result.now (λ line. line.now) c.inked.result.now c.args.block.first c.args.block.end c.saturating_sub.result c.lines_below.ensures c.saturating_sub.ensures c.first_lines-own.ensures c.inked.ensures
