use Rattle.std.proofs.Common.{◌≡◌, ℕ, List, true, take, Bor}
use Rattle.std.specs.Prelude.{bytes_eq}
use Rattle.std.specs.List.{list_any}
use Rattle.description_toml.specs.Described.Steps.{words_of}
use Rattle.description_toml.specs.Described.Taken.{are_distinct}
use Rattle.description_toml.proofs.decode.taken.are_distinct.Given as goal

abbrev pub invariant-loop-text : goal.invariant-loop-text
invariant-loop-text g l =
    (are_distinct (words_of (take l.text-index l.texts)) ≡ true)
    × ((q : Bor (List ℕ)) → list_any (λ k. bytes_eq q.now k.now) l.seen.keys ≡ list_any (bytes_eq q.now) (words_of (take l.text-index l.texts)))
