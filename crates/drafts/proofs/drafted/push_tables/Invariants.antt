use Rattle.std.proofs.Common.{◌≡◌, ◌++◌, length, map, string_bytes}
use Rattle.drafts.specs.Drafts.{tables, taken_from}
use Rattle.drafts.specs.View.{held, placed_said}
use Rattle.drafts.proofs.drafted.push_tables.Given as goal

abbrev pub invariant-loop-rest : goal.invariant-loop-rest
invariant-loop-rest g l = record {
  so_far : string_bytes l.out ++ tables (held l.taken) (map placed_said l.rest) ≡ string_bytes l.initial.out ++ tables (held l.initial.taken) (map placed_said l.placed);
  after : taken_from (held l.taken) (map placed_said l.rest) ≡ taken_from (held l.initial.taken) (map placed_said l.placed);
}

abbrev pub decreases-loop-rest : goal.decreases-loop-rest
decreases-loop-rest g l = length l.rest
