-- Bytes that need no look at the characters.
use Rattle.std.specs.Prelude.{ℕ, Bool, not, ◌&&◌, ◌||◌, ◌==◌, nat_le}

-- newline, tab, and what ASCII prints
abbrev pub is_written_byte : ℕ → Bool
is_written_byte b = b == 9 || b == 10 || (nat_le 32 b && nat_le b 126)

-- none of `&`, `<`, `>` and a double quote
abbrev pub is_no_sign : ℕ → Bool
is_no_sign b = not (b == 38) && not (b == 60) && not (b == 62) && not (b == 34)
