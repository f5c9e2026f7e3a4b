use Rattle.std.proofs.Common.{◌+◌, ◌*◌, ◌≤◌, length}
use denote.Text.{Utf8}
use denote.Shadow.{shadow}
use Rattle.toml.specs.Parse.{val}
use Rattle.keyed.specs.Steps.{EndsArray, EndsTable}
use Rattle.keyed.proofs.inside.+entry_in_value.Given as goal

abbrev pub decreases-entry_in_array : goal.decreases-entry_in_array
decreases-entry_in_array l = 2 * l.depth + 2

abbrev pub decreases-entry_in_table : goal.decreases-entry_in_table
decreases-entry_in_table l = 2 * l.depth + 2

abbrev pub decreases-entry_in_value : goal.decreases-entry_in_value
decreases-entry_in_value l = 2 * l.depth + 1

abbrev pub invariant-entry_in_array-items : goal.invariant-entry_in_array-items
invariant-entry_in_array-items l =
    shadow (Utf8 l.rest) × (length l.rest ≤ length l.fn.s) × (EndsArray (val l.fn.depth) l.fn.s → EndsArray (val l.fn.depth) l.rest)

abbrev pub decreases-entry_in_array-items : goal.decreases-entry_in_array-items
decreases-entry_in_array-items l = length l.rest

abbrev pub invariant-entry_in_table-members : goal.invariant-entry_in_table-members
invariant-entry_in_table-members l =
    shadow (Utf8 l.rest) × (length l.rest ≤ length l.fn.s) × (EndsTable (val l.fn.depth) l.fn.s → EndsTable (val l.fn.depth) l.rest)

abbrev pub decreases-entry_in_table-members : goal.decreases-entry_in_table-members
decreases-entry_in_table-members l = length l.rest
