use Rattle.replay.proofs.Replies.{GoesOn}
use Rattle.replay.proofs.run.run.Given as goal

abbrev pub invariant-loop : goal.invariant-loop
invariant-loop g l = GoesOn (g.R.Read.remaining l.fn.reader) (g.R.Read.remaining l.reader) (g.W.Write.contents l.fn.writer) (g.W.Write.contents l.writer)
