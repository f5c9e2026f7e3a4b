use Rattle.std.proofs.Common.{◌≡◌, ◌++◌, drop}
use Rattle.toml.specs.View.{items_view}
use Rattle.description_toml.specs.Described.Steps.{views_of}
use Rattle.description_toml.specs.Described.Taken.{tables_in}
use Rattle.description_toml.proofs.decode.taken.put_tables_in.Given as goal

abbrev pub invariant-loop-item : goal.invariant-loop-item
invariant-loop-item g l = views_of l.tables.items ++ tables_in (items_view (drop l.item-index l.items)) ≡ views_of l.fn.tables.items ++ tables_in (items_view l.items)
