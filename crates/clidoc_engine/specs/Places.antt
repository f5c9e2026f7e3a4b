-- Lines and columns of a text.
use Rattle.std.specs.Prelude.{ℕ, ◌+◌, ◌==◌, ◌||◌, nat_lt, nat_le, Bool, List, [], ◌∷◌, count_by, if◌then◌else◌}
use Rattle.std.specs.List.{list_any}

abbrev pub is_newline : ℕ → Bool
is_newline byte = byte == 10

-- a character begins with the byte: the others of a character are from 128 to 191
abbrev pub begins_character : ℕ → Bool
begins_character byte = nat_lt byte 128 || nat_le 192 byte

-- what follows the last newline; all, where there is none
abbrev pub last_line : List ℕ → List ℕ
last_line [] = []
last_line (byte ∷ bytes) = if list_any is_newline (byte ∷ bytes) then last_line bytes else byte ∷ bytes

-- the line that the front of a text ends in
abbrev pub line_after : (front : List ℕ) → ℕ
line_after front = 1 + count_by is_newline front

-- the column after it
abbrev pub column_after : (front : List ℕ) → ℕ
column_after front = 1 + count_by begins_character (last_line front)
