use Rattle.description_hints.proofs.Words.{word_put}
use Rattle.description_hints.proofs.known.Known.put.Goals as goal

pub returns : goal.returns
returns c = word_put c.args.self.now.words.keys c.insert.new.self.keys c.args.word c.in_ok-insert.ensures.updates.0
