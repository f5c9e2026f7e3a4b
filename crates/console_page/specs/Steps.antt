-- What the steps of the code write.
use Rattle.std.specs.Prelude.{ℕ, ◌==◌, ◌&&◌, Bool, not, List, fold}
use Rattle.console_page.specs.Usage.{left_after_item}

-- the columns that are left after some items
abbrev pub left_after : ℕ → ℕ → List (List ℕ) → ℕ
left_after room left items = fold (left_after_item room) left items

-- no newline and no tab
abbrev pub stands_alone : ℕ → Bool
stands_alone b = not (b == 10) && not (b == 9)
