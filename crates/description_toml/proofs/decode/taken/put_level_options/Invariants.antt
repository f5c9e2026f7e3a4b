use Rattle.std.proofs.Common.{◌≡◌, ◌++◌, drop}
use Rattle.std.specs.Prelude.{flat_map}
use Rattle.description_toml.specs.Described.Steps.{views_of}
use Rattle.description_toml.specs.Described.Taken.{own_options}
use Rattle.description_toml.proofs.decode.taken.put_level_options.Given as goal

abbrev pub invariant-loop-group : goal.invariant-loop-group
invariant-loop-group g l = views_of l.tables.items ++ flat_map own_options (views_of (drop l.group-index l.group-items)) ≡ views_of l.initial.tables.items ++ flat_map own_options (views_of l.group-items)
