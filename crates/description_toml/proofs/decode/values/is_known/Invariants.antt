use Rattle.std.proofs.Common.{◌≡◌, drop}
use Rattle.std.specs.List.{list_any}
use Rattle.std.specs.Prelude.{bytes_eq}
use Rattle.description_toml.specs.Described.Steps.{words_of}
use Rattle.description_toml.proofs.decode.values.is_known.Given as goal

abbrev pub invariant-loop-known : goal.invariant-loop-known
invariant-loop-known l = list_any (λ known. bytes_eq known l.key) (words_of (drop l.known-index l.keys)) ≡ list_any (λ known. bytes_eq known l.key) (words_of l.keys)
