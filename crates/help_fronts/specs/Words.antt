-- What a word of a line is: a name, a word that joins two names, or what says a value.
use Rattle.std.specs.Prelude.{ℕ, ◌+◌, ◌==◌, ◌||◌, ◌&&◌, Bool, false, not, List, [], ◌∷◌, bytes_eq, codes, drop, length, nat_le, take, if◌then◌else◌}
use Rattle.std.specs.Char.{is_ascii_alphanumeric, is_ascii_digit, is_ascii_lowercase, is_ascii_uppercase}
use Rattle.std.specs.List.{count_by, list_all, list_any, slice_index}
use Rattle.help_fronts.specs.declared.bytes.Class.TheVariants as class
use Rattle.help_fronts.specs.Bytes.{first, free_len, is_bracket, is_dash, is_divider, is_name_start, is_opening, last, second, without_end, without_front}

-- ---- names: a dash or two, a byte that may follow them, and all up to a separator, without dots at the end

abbrev pub dashes : List ℕ → ℕ
dashes w = if is_dash (second w) then 2 else 1

abbrev pub is_name : List ℕ → Bool
is_name w = is_dash (first w) && is_name_start (slice_index w (dashes w))

abbrev pub is_long : List ℕ → Bool
is_long w = is_name w && is_dash (second w)

-- a dash and one byte
abbrev pub is_short : List ℕ → Bool
is_short w = is_name w && length w == 2

abbrev pub name_len : List ℕ → ℕ
name_len w = (dashes w + 1) + free_len class.Separator (drop (dashes w + 1) w)

abbrev pub name : List ℕ → List ℕ
name w = without_end class.Dot (take (name_len w) w)

-- what directly follows a name
abbrev pub attached : List ℕ → List ℕ
attached w = drop (name_len w) w

-- ---- between two names

-- `|`, `or`, `...`
abbrev pub is_joiner : List ℕ → Bool
is_joiner w = bytes_eq w (codes "|") || (bytes_eq w (codes "or") || bytes_eq w (codes "..."))

-- another name has to follow
abbrev pub leads_on : List ℕ → Bool
leads_on w = is_joiner w || is_divider (last w)

-- ---- commands

-- an ASCII letter or digit, or a byte of another letter
abbrev pub is_command_start : ℕ → Bool
is_command_start b = is_ascii_alphanumeric b || nat_le 128 b

-- those, `-` `_` `.` `+` `:`
abbrev pub is_command_byte : ℕ → Bool
is_command_byte b = is_command_start b || ((b == 45 || b == 95) || (b == 46 || (b == 43 || b == 58)))

abbrev pub is_command : List ℕ → Bool
is_command w = is_command_start (first w) && list_all is_command_byte w

-- what a word in parentheses says of a command, and does not name
abbrev pub is_remark : List ℕ → Bool
is_remark w = bytes_eq w (codes "default") || bytes_eq w (codes "deprecated")

-- the name of a command in a list of them: a small letter or a digit first
abbrev pub is_listed : List ℕ → Bool
is_listed w = (is_ascii_lowercase (first w) || is_ascii_digit (first w)) && (list_all is_command_byte w && not (is_remark w))

-- ---- values

-- what a word says of a value, without joints at its ends
abbrev pub without_joints : List ℕ → List ℕ
without_joints text = without_end class.Joint (without_front class.Joint text)

abbrev pub value_text : List ℕ → List ℕ
value_text w = if is_joiner w then [] else without_joints (if is_name w then attached w else w)

-- without brackets at its ends, where none are left then
abbrev pub bare_word : (text : List ℕ) → List ℕ
bare_word text = without_end class.Tail (without_front class.Lead text)

abbrev pub value_word : (text : List ℕ) → List ℕ
value_word text = if list_any is_bracket (bare_word text) then text else bare_word text

-- between `[` and the one `]`
abbrev pub is_optional : (text : List ℕ) → Bool
is_optional text = (first text == 91 && last text == 93) && count_by (λ b. b == 93) text == 1

-- a name without a value
abbrev pub is_bare_name : List ℕ → Bool
is_bare_name w = is_name w && length (without_joints (attached w)) == 0

-- up to the first bracket
abbrev pub has_small_letter : List ℕ → Bool
has_small_letter [] = false
has_small_letter (b ∷ bs) = if is_opening b then false else (is_ascii_lowercase b || has_small_letter bs)

-- it begins with a capital, and has no small letter before a bracket
abbrev pub is_in_capitals : List ℕ → Bool
is_in_capitals w = is_ascii_uppercase (first w) && not (has_small_letter w)

abbrev pub has_form_of_value : List ℕ → Bool
has_form_of_value w = is_opening (first w) || is_in_capitals w

-- in brackets, but in parentheses only a choice
abbrev pub is_bracketed : List ℕ → Bool
is_bracketed w = is_opening (first w) && (not (first w == 40) || list_any (λ b. b == 124) w)

-- `...`, also before a comma
abbrev pub is_dots : List ℕ → Bool
is_dots w = bytes_eq w (codes "...") || bytes_eq w (codes "...,")
