use Rattle.std.proofs.Common.{◌≡◌, ◌++◌, ◌≤◌, drop, length, map, take}
use Rattle.drafts.specs.Drafts.{below_title}
use Rattle.drafts.specs.View.{placed_said}
use Rattle.drafts.proofs.drafted.below_title.Given as goal

abbrev pub invariant-loop-index : goal.invariant-loop-index
invariant-loop-index l = record {
  in_range : l.index ≤ length l.below;
  so_far : map placed_said (take l.index l.below) ++ below_title (map placed_said (drop l.index l.below)) ≡ below_title (map placed_said l.below);
}
