use Rattle.std.proofs.Common.{map}
use Rattle.std.specs.Vec.Iter.{into_iter_items}
use Rattle.description_pages.specs.Once.{HasSeen}
use Rattle.description_pages.proofs.Seen.{SeenSoFar}
use Rattle.description_pages.proofs.once.each_once.Given as goal

abbrev pub invariant-loop-row : goal.invariant-loop-row
invariant-loop-row g l = record {
  seen : HasSeen g.K.PartialEq.eq l.seen.keys (map (λ row. row.key) l.yielded);
  put : SeenSoFar (λ row. row.key) (λ row. row.item) g.K.PartialEq.eq l.items.items l.yielded (into_iter_items l.row-iterator) l.fn.rows.items;
}
