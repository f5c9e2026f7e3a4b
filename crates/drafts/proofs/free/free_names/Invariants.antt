use Rattle.std.proofs.Common.{◌≡◌, ◌++◌, drop, map}
use Rattle.drafts.specs.Options.{key}
use Rattle.drafts.specs.Free.{free_names, with_keys}
use Rattle.drafts.specs.View.{held}
use Rattle.drafts.proofs.free.free_names.Given as goal

abbrev pub invariant-loop-name : goal.invariant-loop-name
invariant-loop-name g l = record {
  free : map (λ n. n.now) l.free.items ++ free_names (held l.taken) (held l.seen) (map (λ n. n.now) (drop l.name-index l.names)) ≡ free_names (held l.taken) (held l.initial.seen) (map (λ n. n.now) l.names);
  seen : with_keys (held l.seen) (map key (map (λ n. n.now) (drop l.name-index l.names))) ≡ with_keys (held l.initial.seen) (map key (map (λ n. n.now) l.names));
}
