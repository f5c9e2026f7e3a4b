use Rattle.std.proofs.Common.{map, subst, sym, ◌∷◌, []}
use Rattle.std.specs.Vec.Iter.{into_iter_items}
use Rattle.std.proofs.lemmas.List.{map-append}
use Rattle.description_pages.specs.Once.{HasSeen}
use Rattle.description_pages.proofs.Seen.{item_seen}
use Rattle.description_pages.proofs.once.each_once.Goals as goal

pub loop-row-preserved : goal.loop-row-preserved
loop-row-preserved g c =
    let row = c.in-Some.row in
    let before = c.loop-row.yielded in
    let seen = c.in_ok-is_new.ensures (map (λ row. row.key) before) c.loop-row.invariant.seen in
    record {
      seen = subst (HasSeen g.K.PartialEq.eq c.is_new.new.seen.keys) (sym (map-append (λ row. row.key) before (row ∷ []))) seen.1;
      put =
          item_seen (λ row. row.key) (λ row. row.item) g.K.PartialEq.eq c.loop-row.items.items c.push_if.new.items.items before (into_iter_items c.loop-row.row-iterator) (into_iter_items c.next.new.self) c.args.rows.items row _ c.in-Some.ensures.steps.0 seen.0 c.loop-row.invariant.put
          c.in_ok-push_if.ensures;
    }
