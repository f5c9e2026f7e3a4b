use Rattle.std.proofs.Common.{◌≡◌, ◌++◌, drop, flat_map, map, string_bytes}
use Rattle.drafts.specs.Options.{further_value}
use Rattle.drafts.proofs.options.push_further_values.Given as goal

abbrev pub invariant-loop-value : goal.invariant-loop-value
invariant-loop-value g l = record {
  so_far : string_bytes l.out ++ flat_map further_value (map (λ v. v.now) (drop l.value-index l.values)) ≡ string_bytes l.initial.out ++ flat_map further_value (map (λ v. v.now) l.values);
}
