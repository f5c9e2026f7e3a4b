use Rattle.std.proofs.Common.{◌≡◌, ◌≤◌, drop, length}
use Rattle.file_names.specs.Names.{are_file_names, is_first_name, names_said}
use Rattle.file_names.proofs.Names.{Held, names_from}
use Rattle.file_names.proofs.first_refused.Given as goal

abbrev pub invariant-loop-index : goal.invariant-loop-index
invariant-loop-index g l = record {
  in_range : l.index ≤ length l.names;
  within : l.first ≤ length l.names;
  known : Held l.keys_after.keys l.names l.index;
  judged : is_first_name (names_said (drop l.first l.names)) ≡ are_file_names (names_from l.names l.index);
}

abbrev pub decreases-loop-index : goal.decreases-loop-index
decreases-loop-index g l = l.index
