use Rattle.std.proofs.Common.{◌∙◌}
use Rattle.drafts.proofs.Words.{held_by_order}
use Rattle.drafts.proofs.free.Words.has.Goals as goal

pub returns : goal.returns
returns g c = c.contains.ensures ∙ held_by_order c.args.self.now.words.keys c.args.key
