use Rattle.std.proofs.Common.{◌≡◌, drop, map}
use Rattle.drafts.specs.Entries.{are_distinct}
use Rattle.drafts.specs.Free.{none_taken}
use Rattle.drafts.specs.View.{held}
use Rattle.drafts.proofs.entries.are_distinct.Given as goal

abbrev pub invariant-loop-key : goal.invariant-loop-key
invariant-loop-key g l = record {
  so_far : are_distinct (held l.seen) (map (λ k. k.now) (drop l.key-index l.keys)) ≡ are_distinct none_taken (map (λ k. k.now) l.keys);
}
