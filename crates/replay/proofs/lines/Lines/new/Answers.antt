use Rattle.replay.specs.Replay.{AreAnswers}
use Rattle.replay.proofs.lines.Lines.new.Goals as goal

pub invariant_of-result : goal.invariant_of-result
invariant_of-result c = AreAnswers.none c.new.ensures.bytes
