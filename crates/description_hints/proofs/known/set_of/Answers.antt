use Rattle.description_hints.proofs.Words.{held_more}
use Rattle.description_hints.proofs.known.set_of.Goals as goal

pub loop-word-preserved : goal.loop-word-preserved
loop-word-preserved c = held_more c.loop-word.set.keys c.insert.new.self.keys c.args.words.now c.loop-word.word-index _ c.loop-word-test.true c.loop-word.invariant c.in_ok-insert.ensures.updates.0
