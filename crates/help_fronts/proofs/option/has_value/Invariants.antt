use Rattle.std.proofs.Common.{◌≡◌, drop, map}
use Rattle.help_fronts.specs.Fronts.{has_value}
use Rattle.help_fronts.proofs.option.has_value.Given as goal

abbrev pub invariant-loop-word : goal.invariant-loop-word
invariant-loop-word l = record {
  same : has_value (map (λ w. w.now) (drop l.word-index l.words)) ≡ has_value (map (λ w. w.now) l.words);
}
