use Rattle.std.proofs.Common.{◌≡◌, ◌++◌, drop, map}
use Rattle.help_differences.specs.Names.{called}
use Rattle.help_differences.specs.View.{name_said}
use Rattle.help_differences.proofs.names.push_names.Given as goal

abbrev pub invariant-loop-text : goal.invariant-loop-text
invariant-loop-text g l = record {
  so_far : map name_said l.names.items ++ map (called l.kind) (map (λ t. t.now) (drop l.text-index l.texts)) ≡ map name_said l.initial.names.items ++ map (called l.kind) (map (λ t. t.now) l.texts);
}
