-- What stands at the ends of a text.
use Rattle.std.specs.Prelude.{ℕ, ◌-◌, ◌==◌, ◌||◌, List, take, drop, length, Bool}
use Rattle.std.specs.List.{prefix_len, suffix_len}

-- a blank or a newline
abbrev pub is_margin : ℕ → Bool
is_margin b = b == 32 || b == 10

-- the text without those at its ends
abbrev pub without_front : List ℕ → List ℕ
without_front text = drop (prefix_len is_margin text) text

abbrev pub without_back : List ℕ → List ℕ
without_back text = take (length text - suffix_len is_margin text) text

abbrev pub without_margins : List ℕ → List ℕ
without_margins text = without_back (without_front text)
