use Rattle.std.proofs.Common.{◌≡◌, ℕ, ◌+◌, ◌*◌, ◌≤◌, List, length, Some}
use denote.Text.{Utf8}
use denote.Shadow.{shadow}
use Rattle.toml.specs.Data.{Items, Members}
use Rattle.toml.specs.Tables.{Nodes}
use Rattle.toml.specs.Parse.{val, items, members}
use Rattle.keyed.proofs.values.+after_value.Given as goal

abbrev pub decreases-after_array : goal.decreases-after_array
decreases-after_array l = 2 * l.depth + 2

abbrev pub decreases-after_inline_table : goal.decreases-after_inline_table
decreases-after_inline_table l = 2 * l.depth + 2

abbrev pub decreases-after_value : goal.decreases-after_value
decreases-after_value l = 2 * l.depth + 1

abbrev pub invariant-after_array-items : goal.invariant-after_array-items
invariant-after_array-items l =
    shadow (Utf8 l.rest) × (length l.rest ≤ length l.fn.s)
    × ((n : ℕ) (found : Items) (p : Items × List ℕ) → items (val l.fn.depth) n found l.fn.s ≡ Some p
    → (m : ℕ) × (more : Items) × (items (val l.fn.depth) m more l.rest ≡ Some p))

abbrev pub decreases-after_array-items : goal.decreases-after_array-items
decreases-after_array-items l = length l.rest

abbrev pub invariant-after_inline_table-members : goal.invariant-after_inline_table-members
invariant-after_inline_table-members l =
    shadow (Utf8 l.rest) × (length l.rest ≤ length l.fn.s)
    × ((n : ℕ) (found : Nodes) (p : Members × List ℕ) → members (val l.fn.depth) n found l.fn.s ≡ Some p
    → (m : ℕ) × (more : Nodes) × (members (val l.fn.depth) m more l.rest ≡ Some p))

abbrev pub decreases-after_inline_table-members : goal.decreases-after_inline_table-members
decreases-after_inline_table-members l = length l.rest
