use Rattle.std.proofs.Common.{◌≡◌, ◌++◌, drop}
use Rattle.std.specs.Prelude.{flat_map}
use Rattle.description_toml.specs.Described.Steps.{views_of}
use Rattle.description_toml.specs.Described.Taken.{tables_under}
use Rattle.description_toml.proofs.decode.taken.put_inner_tables.Given as goal

abbrev pub invariant-loop-holder : goal.invariant-loop-holder
invariant-loop-holder g l = views_of l.tables.items ++ flat_map (tables_under l.key) (views_of (drop l.holder-index l.holder-items)) ≡ views_of l.fn.tables.items ++ flat_map (tables_under l.key) (views_of l.holder-items)
