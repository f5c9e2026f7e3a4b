use Rattle.std.proofs.Common.{◌≡◌, [], length, map}
use Rattle.help_fronts.specs.Fronts.{values}
use Rattle.help_fronts.proofs.option.values_of.Given as goal

abbrev pub invariant-loop-rest : goal.invariant-loop-rest
invariant-loop-rest g l = record {
  none : map (λ v. v.now) l.values.items ≡ [];
  same : values (map (λ w. w.now) l.rest) ≡ values (map (λ w. w.now) l.words);
}

abbrev pub decreases-loop-rest : goal.decreases-loop-rest
decreases-loop-rest g l = length l.rest
