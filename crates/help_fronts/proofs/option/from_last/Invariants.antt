use Rattle.std.proofs.Common.{◌≡◌, length, map}
use Rattle.help_fronts.specs.Fronts.{from_last, or_else}
use Rattle.help_fronts.proofs.option.from_last.Given as goal

abbrev pub invariant-loop-rest : goal.invariant-loop-rest
invariant-loop-rest l = record {
  last : or_else (from_last (map (λ w. w.now) l.rest)) (map (λ w. w.now) l.found) ≡ from_last (map (λ w. w.now) l.words);
}

abbrev pub decreases-loop-rest : goal.decreases-loop-rest
decreases-loop-rest l = length l.rest
