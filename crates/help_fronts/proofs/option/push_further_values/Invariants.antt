use Rattle.std.proofs.Common.{◌≡◌, ◌++◌, drop, filter, map}
use Rattle.help_fronts.specs.Words.{without_joints}
use Rattle.help_fronts.specs.Fronts.{before_name, says_more}
use Rattle.help_fronts.proofs.option.push_further_values.Given as goal

abbrev pub invariant-loop-word : goal.invariant-loop-word
invariant-loop-word g l = record {
  so_far : map (λ v. v.now) l.values.items ++ map without_joints (filter says_more (before_name (map (λ w. w.now) (drop l.word-index l.words))))
      ≡ map (λ v. v.now) l.initial.values.items ++ map without_joints (filter says_more (before_name (map (λ w. w.now) l.words)));
}
