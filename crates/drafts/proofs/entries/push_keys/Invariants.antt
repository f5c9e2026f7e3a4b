use Rattle.std.proofs.Common.{◌≡◌, ◌++◌, drop, map}
use Rattle.drafts.specs.Options.{key}
use Rattle.drafts.proofs.entries.push_keys.Given as goal

abbrev pub invariant-loop-name : goal.invariant-loop-name
invariant-loop-name g l = record {
  so_far : map (λ k. k.now) l.keys.items ++ map key (map (λ n. n.now) (drop l.name-index l.names)) ≡ map (λ k. k.now) l.initial.keys.items ++ map key (map (λ n. n.now) l.names);
}
