use Rattle.std.specs.Prelude.{◌≡◌, length}
use Rattle.clidoc_engine.proofs.described.warned_lines.Given as goal

abbrev pub invariant-loop-warning : goal.invariant-loop-warning
invariant-loop-warning l = length l.told.items ≡ l.warning-index
