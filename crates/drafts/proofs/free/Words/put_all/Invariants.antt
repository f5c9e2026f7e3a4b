use Rattle.std.proofs.Common.{◌≡◌, drop, map}
use Rattle.drafts.specs.Free.{with_keys}
use Rattle.drafts.specs.View.{held}
use Rattle.drafts.proofs.free.Words.put_all.Given as goal

abbrev pub invariant-loop-key : goal.invariant-loop-key
invariant-loop-key g l = record {
  so_far : with_keys (held l.self) (map (λ k. k.now) (drop l.key-index l.keys)) ≡ with_keys (held l.initial.self) (map (λ k. k.now) l.keys);
}
