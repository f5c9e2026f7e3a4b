use Rattle.std.proofs.Common.{◌≡◌, ◌++◌, drop, map}
use Rattle.help_differences.specs.Names.{options_called}
use Rattle.help_differences.specs.View.{name_said}
use Rattle.help_differences.proofs.names.push_options_called.Given as goal

abbrev pub invariant-loop-text : goal.invariant-loop-text
invariant-loop-text l = record {
  so_far : map name_said l.names.items ++ options_called (map (λ t. t.now) (drop l.text-index l.texts)) ≡ map name_said l.initial.names.items ++ options_called (map (λ t. t.now) l.texts);
}
