use Rattle.toml.specs.View.{members_view, table_view}
use Rattle.description_toml.specs.Described.Steps.{words_of}
use Rattle.description_toml.specs.Described.Values.{has_only}
use Rattle.description_toml.proofs.Reading.{KnownSoFar}
use Rattle.description_toml.proofs.decode.values.check_keys.Given as goal

abbrev pub invariant-loop-key : goal.invariant-loop-key
invariant-loop-key g l = KnownSoFar (has_only (words_of l.keys) (members_view l.key-iterator)) (has_only (words_of l.keys) (table_view l.table)) l.are_known
