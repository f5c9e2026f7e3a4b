-- How long a front of a text may be.
use Rattle.std.proofs.Common.{ℕ, ◌≤◌, List, length}
use Rattle.std.specs.List.{prefix_len}
use Rattle.std.proofs.lemmas.List.Sums.{prefix_len-le-length}
use Rattle.description_hints.specs.Names.{is_dash}

pub dashes_within : (word : List ℕ) → prefix_len is_dash word ≤ length word
dashes_within = prefix_len-le-length is_dash
