use Rattle.std.proofs.Common.{◌≤◌, length}
use Rattle.keyed.proofs.inside.taken_by_key.Given as goal

abbrev pub invariant-loop-part : goal.invariant-loop-part
invariant-loop-part l = l.at ≤ length l.path
