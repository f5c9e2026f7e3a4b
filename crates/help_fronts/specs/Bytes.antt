-- What bytes of a line are.
use Rattle.std.specs.Prelude.{ℕ, ◌-◌, ◌==◌, ◌||◌, ◌&&◌, Bool, not, List, drop, take, length, nat_lt}
use Rattle.std.specs.List.{prefix_len, slice_index, suffix_len}
use Rattle.help_fronts.specs.declared.bytes.Class.{Class}
use Rattle.help_fronts.specs.declared.bytes.Class.TheVariants as class

-- a space or a tabulator
abbrev pub is_blank : ℕ → Bool
is_blank b = b == 32 || b == 9

-- `[` `(` `<` `{`
abbrev pub is_opening : ℕ → Bool
is_opening b = (b == 91 || b == 40) || (b == 60 || b == 123)

-- `]` `)` `>` `}`
abbrev pub is_closing : ℕ → Bool
is_closing b = (b == 93 || b == 41) || (b == 62 || b == 125)

abbrev pub is_bracket : ℕ → Bool
is_bracket b = is_opening b || is_closing b

abbrev pub is_dash : ℕ → Bool
is_dash b = b == 45

abbrev pub is_dot : ℕ → Bool
is_dot b = b == 46

-- between two names: `,` `|` `/`
abbrev pub is_divider : ℕ → Bool
is_divider b = b == 44 || (b == 124 || b == 47)

-- between a name and its value: those, `=` and `:`
abbrev pub is_joint : ℕ → Bool
is_joint b = is_divider b || (b == 61 || b == 58)

-- `"` `'` and the backquote
abbrev pub is_quote : ℕ → Bool
is_quote b = b == 34 || (b == 39 || b == 96)

abbrev pub is_no_name_start : ℕ → Bool
is_no_name_start b = (is_closing b || (is_divider b || is_quote b)) || (is_dash b || b == 61)

-- what may follow the dashes of a name: any byte but controls, spaces, closing brackets, dividers, quotes, `-` and `=`
abbrev pub is_name_start : ℕ → Bool
is_name_start b = nat_lt 32 b && not (is_no_name_start b)

-- what ends a name
abbrev pub is_separator : ℕ → Bool
is_separator b = is_joint b || is_opening b

-- what parts the words of a usage
abbrev pub is_usage_mark : ℕ → Bool
is_usage_mark b = (is_blank b || is_quote b) || (is_joint b || is_bracket b)

-- what is left out before the word for a value, and after it
abbrev pub is_lead : ℕ → Bool
is_lead b = is_joint b || is_opening b

abbrev pub is_tail : ℕ → Bool
is_tail b = is_joint b || (is_closing b || is_dot b)

-- the bytes of a class of `src/bytes.rt`
abbrev pub is_in : Class → ℕ → Bool
is_in class.Blank b = is_blank b
is_in class.Joint b = is_joint b
is_in class.Lead b = is_lead b
is_in class.Tail b = is_tail b
is_in class.Dot b = is_dot b
is_in class.Separator b = is_separator b
is_in class.UsageMark b = is_usage_mark b

-- the byte at a place, and 0, which no line has, after the end
abbrev pub first : List ℕ → ℕ
first text = slice_index text 0

abbrev pub second : List ℕ → ℕ
second text = slice_index text 1

abbrev pub last : List ℕ → ℕ
last text = slice_index text (length text - 1)

-- how many bytes stand before the first of a class
abbrev pub free_len : Class → List ℕ → ℕ
free_len k = prefix_len (λ b. not (is_in k b))

-- a text without the bytes of a class at its front, and at its end
abbrev pub without_front : Class → List ℕ → List ℕ
without_front k text = drop (prefix_len (is_in k) text) text

abbrev pub without_end : Class → List ℕ → List ℕ
without_end k text = take (length text - suffix_len (is_in k) text) text
