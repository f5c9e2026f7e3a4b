use Rattle.std.proofs.Common.{◌≡◌, ◌++◌, drop, flat_map, map, string_bytes}
use Rattle.help_differences.specs.Texts.{line}
use Rattle.help_differences.specs.View.{difference_said, help_said}
use Rattle.help_differences.proofs.texts.lines_of.Given as goal

abbrev pub invariant-loop-difference : goal.invariant-loop-difference
invariant-loop-difference g l = record {
  so_far : string_bytes l.text ++ flat_map (line (help_said l.help)) (map difference_said (drop l.difference-index l.found)) ≡ flat_map (line (help_said l.help)) (map difference_said l.found);
}
