use Rattle.std.proofs.Common.{◌≡◌, ◌++◌, drop, map}
use Rattle.help_fronts.specs.Fronts.{names}
use Rattle.help_fronts.proofs.option.push_names.Given as goal

abbrev pub invariant-loop-word : goal.invariant-loop-word
invariant-loop-word g l = record {
  so_far : map (λ n. n.now) l.names.items ++ names (map (λ w. w.now) (drop l.word-index l.words)) ≡ map (λ n. n.now) l.initial.names.items ++ names (map (λ w. w.now) l.words);
}
