use Rattle.std.proofs.Common.{◌≡◌, drop}
use Rattle.toml.specs.View.{view}
use Rattle.keyed.specs.Places.{at_path}
use Rattle.keyed.proofs.document.is_in.Given as goal

abbrev pub invariant-loop-step : goal.invariant-loop-step
invariant-loop-step l = at_path (drop l.step-index l.path) (view l.here) ≡ at_path l.path (view l.value)
