use Rattle.std.proofs.Common.{◌≡◌, ◌++◌, drop, map}
use Rattle.help_fronts.specs.Fronts.{other_names}
use Rattle.help_fronts.proofs.command.push_aliases.Given as goal

abbrev pub invariant-loop-word : goal.invariant-loop-word
invariant-loop-word g l = record {
  so_far : map (λ a. a.now) l.aliases.items ++ other_names l.name (map (λ w. w.now) (drop l.word-index l.words)) ≡ map (λ a. a.now) l.initial.aliases.items ++ other_names l.name (map (λ w. w.now) l.words);
}
