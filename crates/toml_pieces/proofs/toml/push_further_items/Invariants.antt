use Rattle.std.proofs.Common.{◌≡◌, ◌++◌, drop, flat_map, map, string_bytes}
use Rattle.toml_pieces.specs.Toml.{further_item}
use Rattle.toml_pieces.proofs.toml.push_further_items.Given as goal

abbrev pub invariant-loop-text : goal.invariant-loop-text
invariant-loop-text g l = record {
  so_far : string_bytes l.out ++ flat_map further_item (map (λ t. t.now) (drop l.text-index l.texts)) ≡ string_bytes l.initial.out ++ flat_map further_item (map (λ t. t.now) l.texts);
}
