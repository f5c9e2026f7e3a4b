use Rattle.std.proofs.Common.{◌≡◌, drop, map}
use Rattle.std.specs.List.{list_any}
use Rattle.drafts.specs.View.{held}
use Rattle.drafts.proofs.free.Words.has_any.Given as goal

abbrev pub invariant-loop-key : goal.invariant-loop-key
invariant-loop-key g l = record {
  same : list_any (held l.self) (map (λ k. k.now) (drop l.key-index l.keys)) ≡ list_any (held l.self) (map (λ k. k.now) l.keys);
}
