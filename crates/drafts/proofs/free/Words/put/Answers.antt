use Rattle.drafts.proofs.Words.{has_put}
use Rattle.drafts.proofs.free.Words.put.Goals as goal

pub returns : goal.returns
returns g c = has_put c.args.self.now.words.keys c.insert.new.self.keys c.args.key c.in_ok-insert.ensures.updates.0
