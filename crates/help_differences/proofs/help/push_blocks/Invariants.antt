use Rattle.std.proofs.Common.{◌≡◌, ◌++◌, drop, map}
use Rattle.help_differences.specs.Help.{names_of_blocks}
use Rattle.help_differences.specs.View.{name_said}
use Rattle.help_differences.proofs.help.push_blocks.Given as goal

abbrev pub invariant-loop-block : goal.invariant-loop-block
invariant-loop-block l = record {
  so_far : map name_said l.names.items ++ names_of_blocks (map (λ t. t.now) l.lines) (drop l.block-index l.found) ≡ map name_said l.initial.names.items ++ names_of_blocks (map (λ t. t.now) l.lines) l.found;
}
