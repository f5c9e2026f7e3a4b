use Rattle.std.proofs.Common.{◌≡◌, ◌++◌, drop, flat_map, map}
use Rattle.drafts.specs.Strays.{options_of}
use Rattle.help_fronts.specs.View.{used_said}
use Rattle.drafts.specs.View.{held, stray_said}
use Rattle.drafts.proofs.strays.push_all_options.Given as goal

abbrev pub invariant-loop-option : goal.invariant-loop-option
invariant-loop-option g l = record {
  so_far : map stray_said l.strays.items ++ flat_map (options_of (held l.taken)) (map used_said (drop l.option-index l.options)) ≡ map stray_said l.initial.strays.items ++ flat_map (options_of (held l.taken)) (map used_said l.options);
}
