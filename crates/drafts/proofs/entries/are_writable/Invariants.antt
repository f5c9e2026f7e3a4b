use Rattle.std.proofs.Common.{◌≡◌, length, map}
use Rattle.std.specs.List.{list_all}
use Rattle.drafts.specs.Entries.{is_writable}
use Rattle.drafts.specs.View.{free_said}
use Rattle.drafts.proofs.entries.are_writable.Given as goal

abbrev pub invariant-loop-rest : goal.invariant-loop-rest
invariant-loop-rest g l = record {
  same : list_all is_writable (map free_said l.rest) ≡ list_all is_writable (map free_said l.fronts);
}

abbrev pub decreases-loop-rest : goal.decreases-loop-rest
decreases-loop-rest g l = length l.rest
