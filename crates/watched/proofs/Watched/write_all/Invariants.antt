use Rattle.std.proofs.Common.{◌≡◌, ◌++◌, ℕ, List, length}
use Rattle.std.specs.Io.KnownBytes.{Appends}
use Rattle.watched.specs.Calls.{Moves}
use Rattle.watched.proofs.Watched.write_all.Given as goal

-- everything except the rest was written, and no write has failed
abbrev pub invariant-loop-rest : goal.invariant-loop-rest
invariant-loop-rest g l =
    (l.self.marked ≡ l.fn.self.marked)
    × (front : List ℕ) × (l.buf ≡ front ++ l.rest) × Appends (g.W.Sink.contents l.fn.self.end) (g.W.Sink.contents l.self.end) front
    × Moves g.W.Sink.writes l.fn.self.end front l.self.end

abbrev pub decreases-loop-rest : goal.decreases-loop-rest
decreases-loop-rest g l = length l.rest
