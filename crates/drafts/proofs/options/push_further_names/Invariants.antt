use Rattle.std.proofs.Common.{◌≡◌, ◌++◌, drop, flat_map, map, string_bytes}
use Rattle.drafts.specs.Options.{further_name}
use Rattle.drafts.proofs.options.push_further_names.Given as goal

abbrev pub invariant-loop-name : goal.invariant-loop-name
invariant-loop-name g l = record {
  so_far : string_bytes l.out ++ flat_map further_name (map (λ n. n.now) (drop l.name-index l.names)) ≡ string_bytes l.initial.out ++ flat_map further_name (map (λ n. n.now) l.names);
}
