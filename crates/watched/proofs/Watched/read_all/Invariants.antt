use Rattle.std.proofs.Common.{◌≡◌, ◌-◌, ◌^◌, vec_len}
use Rattle.std.specs.Io.KnownBytes.{Consumes}
use Rattle.watched.specs.Calls.{Moves}
use Rattle.watched.proofs.Watched.read_all.Given as goal

-- the bytes so far are what was read, and no read has failed
abbrev pub invariant-loop-bytes : goal.invariant-loop-bytes
invariant-loop-bytes g l =
    (l.self.marked ≡ l.fn.self.marked)
    × Consumes (g.R.Source.remaining l.initial.self.end) (g.R.Source.remaining l.self.end) l.bytes.items
    × Moves g.R.Source.reads l.initial.self.end l.bytes.items l.self.end

-- how many bytes more a vector could hold
abbrev pub decreases-loop-bytes : goal.decreases-loop-bytes
decreases-loop-bytes g l = 2 ^ 63 - vec_len l.bytes
