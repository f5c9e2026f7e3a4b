use Rattle.std.proofs.Common.{◌≡◌, ◌++◌, length, map, string_bytes}
use Rattle.drafts.specs.Entries.{option_tables}
use Rattle.drafts.specs.View.{free_said}
use Rattle.drafts.proofs.entries.push_fronts.Given as goal

abbrev pub invariant-loop-rest : goal.invariant-loop-rest
invariant-loop-rest g l = record {
  so_far : string_bytes l.out ++ option_tables l.in_group (map (λ line. line.now) l.below) (map free_said l.rest) ≡ string_bytes l.initial.out ++ option_tables l.in_group (map (λ line. line.now) l.below) (map free_said l.fronts);
}

abbrev pub decreases-loop-rest : goal.decreases-loop-rest
decreases-loop-rest g l = length l.rest
