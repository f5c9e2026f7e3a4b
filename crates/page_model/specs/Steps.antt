-- Bytes that need no look at the characters.
use Rattle.std.specs.Prelude.{ℕ, Bool, ◌&&◌, ◌||◌, ◌==◌, nat_le}

-- newline, tab, and what ASCII prints
abbrev pub is_plain_byte : ℕ → Bool
is_plain_byte b = b == 9 || b == 10 || (nat_le 32 b && nat_le b 126)
