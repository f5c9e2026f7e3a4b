use Rattle.std.specs.Io.KnownBytes.{Keeps}
use Rattle.watched.proofs.streams.write_again.Given as goal

-- no interrupted write appends anything
abbrev pub invariant-loop : goal.invariant-loop
invariant-loop g l = Keeps (g.W.Write.contents l.initial.writer) (g.W.Write.contents l.writer)
