use Rattle.std.proofs.Common.{◌≡◌, ◌++◌, drop, map}
use Rattle.help_fronts.specs.View.{used_said}
use Rattle.help_differences.specs.Names.{called}
use Rattle.help_differences.specs.View.{name_said}
use Rattle.help_differences.specs.declared.names.Kind.TheVariants as kind
use Rattle.help_differences.proofs.help.push_used.Given as goal

abbrev pub invariant-loop-option : goal.invariant-loop-option
invariant-loop-option g l = record {
  so_far : map name_said l.names.items ++ map (called kind.Option) (map (λ o. o.name) (map used_said (drop l.option-index l.options)))
      ≡ map name_said l.initial.names.items ++ map (called kind.Option) (map (λ o. o.name) (map used_said l.options));
}
