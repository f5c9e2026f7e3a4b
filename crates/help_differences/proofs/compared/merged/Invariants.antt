use Rattle.std.proofs.Common.{◌+◌, length, map}
use Rattle.help_differences.specs.View.{difference_said, name_said}
use Rattle.help_differences.proofs.Merged.{IsMerged}
use Rattle.help_differences.proofs.compared.merged.Given as goal

abbrev pub invariant-loop-order : goal.invariant-loop-order
invariant-loop-order g l = record {
  so_far : IsMerged (map name_said l.described) (map name_said l.help) (map name_said l.ours) (map name_said l.theirs) (map difference_said l.differences.items);
}

abbrev pub decreases-loop-order : goal.decreases-loop-order
decreases-loop-order g l = length l.ours + length l.theirs
