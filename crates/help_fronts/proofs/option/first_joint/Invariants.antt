use Rattle.std.proofs.Common.{◌≡◌, drop, map}
use Rattle.help_fronts.specs.Fronts.{first_joint}
use Rattle.help_fronts.proofs.option.first_joint.Given as goal

abbrev pub invariant-loop-word : goal.invariant-loop-word
invariant-loop-word l = record {
  same : first_joint (map (λ w. w.now) (drop l.word-index l.words)) ≡ first_joint (map (λ w. w.now) l.words);
}
