use Rattle.std.proofs.Common.{◌≡◌, ◌≤◌, ◌∷◌, ◌++◌, length, take, string_bytes}
use Rattle.std.specs.Prelude.{flat_map}
use Rattle.bpaf_help.proofs.pages.paths.joined.Given as goal

abbrev pub invariant-loop-name : goal.invariant-loop-name
invariant-loop-name g l = record {
  in_range : l.name-index ≤ length l.others;
  written : string_bytes l.text ≡ string_bytes l.initial.text ++ flat_map (λ name. l.between ∷ string_bytes name) (take l.name-index l.others);
}
