use Rattle.std.proofs.Common.{◌≡◌, ◌++◌, flat_map, length, map}
use Rattle.drafts.specs.Free.{free_keys}
use Rattle.drafts.specs.View.{free_said}
use Rattle.drafts.proofs.entries.push_all_keys.Given as goal

abbrev pub invariant-loop-rest : goal.invariant-loop-rest
invariant-loop-rest g l = record {
  so_far : map (λ k. k.now) l.keys.items ++ flat_map free_keys (map free_said l.rest) ≡ map (λ k. k.now) l.initial.keys.items ++ flat_map free_keys (map free_said l.fronts);
}

abbrev pub decreases-loop-rest : goal.decreases-loop-rest
decreases-loop-rest g l = length l.rest
