use Rattle.std.specs.Prelude.{Contains, IfSome}
use Rattle.description_toml.proofs.words.nearest.Given as goal

abbrev pub invariant-loop-candidate : goal.invariant-loop-candidate
invariant-loop-candidate g l = IfSome l.near (λ one. Contains l.known one)
