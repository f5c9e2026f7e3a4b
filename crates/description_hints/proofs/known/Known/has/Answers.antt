use Rattle.std.proofs.Common.{◌∙◌}
use Rattle.description_hints.proofs.Words.{held_by_order}
use Rattle.description_hints.proofs.known.Known.has.Goals as goal

pub returns : goal.returns
returns c = c.contains.ensures ∙ held_by_order c.args.self.now.words.keys c.args.word
