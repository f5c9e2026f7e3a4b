-- What a line of a help text looks like, by itself. A line is a list of bytes.
use Rattle.std.specs.Prelude.{ℕ, Bool, true, false, not, ◌==◌, ◌||◌, ◌&&◌, List, [], ◌∷◌, ◌+◌, if◌then◌else◌, nat_le, min, codes}
use Rattle.std.specs.Char.{is_ascii_alphanumeric, to_ascii_lowercase}
use Rattle.help_blocks.specs.declared.subject.Subject.{Subject}
use Rattle.help_blocks.specs.declared.subject.Subject.TheVariants as subject

abbrev pub is_between : (first last : ℕ) → ℕ → Bool
is_between first last c = nat_le first c && nat_le c last

-- a space or a tabulator
abbrev pub is_blank : ℕ → Bool
is_blank c = c == 32 || c == 9

abbrev pub is_small : ℕ → Bool
is_small c = is_between 97 122 c

-- ASCII letters, digits, `-`, `_`, `.` and `+`
abbrev pub is_in_name : ℕ → Bool
is_in_name c = is_ascii_alphanumeric c || (c == 45 || (c == 95 || (c == 46 || c == 43)))

-- what stands after the blanks at the start
abbrev pub text : (line : List ℕ) → List ℕ
text [] = []
text (c ∷ cs) = if is_blank c then text cs else c ∷ cs

-- the columns that the blanks at the start take: a tabulator takes 8
abbrev pub columns : (line : List ℕ) → ℕ
columns [] = 0
columns (c ∷ cs) = if c == 32 then 1 + columns cs else if c == 9 then 8 + columns cs else 0

abbrev pub indent : (line : List ℕ) → ℕ
indent line = min (columns line) 64

-- whether a text begins with a word in small letters, in letters of any case
abbrev pub begins_with : (word text : List ℕ) → Bool
begins_with [] cs = true
begins_with (w ∷ ws) [] = false
begins_with (w ∷ ws) (c ∷ cs) = to_ascii_lowercase c == w && begins_with ws cs

-- whether it stands somewhere in a text
abbrev pub has_word : (word text : List ℕ) → Bool
has_word word [] = false
has_word word (c ∷ cs) = begins_with word (c ∷ cs) || has_word word cs

-- what stands after the letters of a name
abbrev pub after_name : (text : List ℕ) → List ℕ
after_name [] = []
after_name (c ∷ cs) = if is_in_name c then after_name cs else c ∷ cs

-- the last that is not a blank
abbrev pub last_ink : (none : ℕ) (line : List ℕ) → ℕ
last_ink none [] = none
last_ink none (c ∷ cs) = if is_blank c then last_ink none cs else last_ink c cs

abbrev pub ends_with_colon : (line : List ℕ) → Bool
ends_with_colon line = last_ink 32 line == 58

abbrev pub has_no_small : (text : List ℕ) → Bool
has_no_small [] = true
has_no_small (c ∷ cs) = not (is_small c) && has_no_small cs

-- a capital first, and no small letter
abbrev pub is_in_capitals : (text : List ℕ) → Bool
is_in_capitals [] = false
is_in_capitals (c ∷ cs) = is_between 65 90 c && has_no_small cs

abbrev pub is_empty : List ℕ → Bool
is_empty [] = true
is_empty (c ∷ cs) = false

-- a tabulator, or a blank before another or a tabulator, and a text after them
abbrev pub is_gap : (rest : List ℕ) → Bool
is_gap [] = false
is_gap (c ∷ []) = false
is_gap (c ∷ d ∷ cs) = if c == 9 then not (is_empty (text (d ∷ cs))) else (c == 32 && is_blank d) && not (is_empty (text cs))

-- neither a blank nor the end of a sentence
abbrev pub ends_a_column : ℕ → Bool
ends_a_column c = not (is_blank c || (c == 46 || (c == 33 || c == 63)))

-- columns: somewhere a gap
abbrev pub has_columns : (text : List ℕ) → Bool
has_columns [] = false
has_columns (c ∷ cs) = (ends_a_column c && is_gap cs) || has_columns cs

abbrev pub is_named_on : (text : List ℕ) → Bool
is_named_on (a ∷ b ∷ c ∷ d ∷ e ∷ f ∷ cs) = is_in_name f
is_named_on _ = false

-- `usage` in letters of any case, and no longer word
abbrev pub is_usage : (text : List ℕ) → Bool
is_usage cs = begins_with (codes "usage") cs && not (is_named_on cs)

-- ASCII letters, digits, `?`, `@`, `#`, `[`, `$` and `%`
abbrev pub is_option_letter : ℕ → Bool
is_option_letter c = is_ascii_alphanumeric c || (c == 63 || (c == 64 || (c == 35 || (c == 91 || (c == 36 || c == 37)))))

-- one or two dashes and a letter of an option
abbrev pub is_option : (text : List ℕ) → Bool
is_option (c ∷ d ∷ e ∷ cs) = c == 45 && (if d == 45 then is_option_letter e else is_option_letter d)
is_option (c ∷ d ∷ []) = c == 45 && is_option_letter d
is_option _ = false

-- what stands after the first `=` of the first word
abbrev pub after_equals : (text : List ℕ) → List ℕ
after_equals [] = []
after_equals (c ∷ cs) = if is_blank c then [] else if c == 61 then cs else after_equals cs

-- a small letter or a digit
abbrev pub begins_small : (text : List ℕ) → Bool
begins_small [] = false
begins_small (c ∷ cs) = is_small c || is_between 48 57 c

abbrev pub is_divider : ℕ → Bool
is_divider c = c == 44 || c == 124

-- what stands after the first blank; nothing, if `,` or `|` is before it
abbrev pub after_word : (before : ℕ) → (text : List ℕ) → List ℕ
after_word before [] = []
after_word before (c ∷ cs) = if is_blank c then (if is_divider before then [] else cs) else after_word c cs

-- options as they are typed, as `--format=gnu -b20`: the first has a value that does not name one, and another follows
abbrev pub is_typed : (text : List ℕ) → Bool
is_typed text =
    (is_option text && not (has_columns text)) && (begins_small (after_equals text) && is_option (after_word 32 text))

abbrev pub is_listed_option : (text : List ℕ) → Bool
is_listed_option text = is_option text && not (is_typed text)

abbrev pub ends_word : (rest : List ℕ) → Bool
ends_word [] = true
ends_word (c ∷ cs) = is_blank c || (c == 58 || c == 44)

-- a word of a name that begins with a small letter or a digit, up to a blank, a colon, a comma or the end
abbrev pub is_word : (text : List ℕ) → Bool
is_word [] = false
is_word (c ∷ cs) = (is_small c || is_between 48 57 c) && ends_word (after_name cs)

abbrev pub is_choice : (text : List ℕ) → Bool
is_choice [] = false
is_choice (c ∷ cs) = c == 123

abbrev pub is_prompt : (text : List ℕ) → Bool
is_prompt (c ∷ d ∷ cs) = c == 36 && d == 32
is_prompt _ = false

-- `$ ` first, columns, or options as they are typed
abbrev pub is_code : (text : List ℕ) → Bool
is_code cs = (is_prompt cs || has_columns cs) || is_typed cs

abbrev pub ends_with_dot : (line : List ℕ) → Bool
ends_with_dot line = last_ink 32 line == 46

abbrev pub says_arguments : (title : List ℕ) → Bool
says_arguments title = has_word (codes "argument") title || has_word (codes "args") title

-- a sentence has none, and what an option takes is no value of the command line
abbrev pub subject_of : (title : List ℕ) → Subject
subject_of title =
    if ends_with_dot title then subject.Unsaid
    else if has_word (codes "command") title then subject.Commands
    else if says_arguments title && not (has_word (codes "--") title) then subject.Values
    else if has_word (codes "example") title then subject.Examples
    else if has_word (codes "option") title || has_word (codes "flag") title then subject.Options
    else subject.Unsaid
