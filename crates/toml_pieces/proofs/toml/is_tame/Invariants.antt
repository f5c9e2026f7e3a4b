use Rattle.std.proofs.Common.{◌≡◌, length}
use Rattle.toml_pieces.specs.Toml.{is_tame}
use Rattle.toml_pieces.proofs.toml.is_tame.Given as goal

abbrev pub invariant-loop-rest : goal.invariant-loop-rest
invariant-loop-rest l = is_tame l.rest ≡ is_tame l.text

abbrev pub decreases-loop-rest : goal.decreases-loop-rest
decreases-loop-rest l = length l.rest
