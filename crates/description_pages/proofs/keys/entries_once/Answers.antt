use Rattle.std.proofs.Common.{ap, map, sym, ◌∙◌}
use Rattle.page_model.specs.View.{entry_of}
use Rattle.description_pages.specs.Keys.{same_key, RowSaid}
use Rattle.description_pages.specs.Rows.{row_said}
use Rattle.description_pages.proofs.Alike.{keys_agree}
use Rattle.description_pages.proofs.Seen.{if_ok_more, map_twice, once_seen}
use Rattle.description_pages.proofs.keys.entries_once.Goals as goal

pub returns : goal.returns
returns g c =
    if_ok_more c.each_once.result _ _
    (λ entries is.
    ap (map entry_of) is ∙ map_twice entry_of (λ row. row.item) _ ∙ sym (map_twice (λ (row : RowSaid). row.entry) row_said _)
    ∙ ap (map (λ (row : RowSaid). row.entry)) (once_seen row_said _ (λ (x y : RowSaid). same_key x.key y.key) (λ x y. keys_agree x.key y.key) c.args.rows.items)) c.each_once.ensures
