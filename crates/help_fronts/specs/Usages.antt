-- The options in a line of a usage: their names, and what is said of their values.
use Rattle.std.specs.Prelude.{ℕ, ◌+◌, ◌==◌, ◌||◌, ◌&&◌, Bool, not, List, [], ◌∷◌, ◌++◌, bytes_eq, codes, drop, if◌then◌else◌, length, map, nat_lt, take}
use Rattle.help_fronts.specs.declared.bytes.Class.TheVariants as class
use Rattle.help_fronts.specs.Bytes.{first, is_blank, is_closing, is_divider, is_usage_mark, second, without_front}
use Rattle.help_fronts.specs.Pieces.{deeper, is_cut}
use Rattle.help_fronts.specs.Words.{is_in_capitals, is_name, name, value_word, without_joints}

-- ---- words

-- a word, and what stands after it
pub record WordSaid : Type 0 where
  pub text : List ℕ
  pub after : List ℕ

-- the last one
abbrev pub last_word : (text : List ℕ) → WordSaid
last_word text = record { text = text; after = [] }

abbrev pub onto_word : ℕ → List WordSaid → List WordSaid
onto_word b [] = []
onto_word b (w ∷ ws) = record { text = b ∷ w.text; after = w.after } ∷ ws

-- what blanks, quotes, brackets, dividers, `=` and `:` part
abbrev pub usage_words : (line : List ℕ) → List WordSaid
usage_words [] = last_word [] ∷ []
usage_words (b ∷ bs) =
    if is_usage_mark b then record { text = []; after = b ∷ bs } ∷ usage_words bs else onto_word b (usage_words bs)

-- ---- the text of a value, of at most 200 bytes

-- a value ends where a piece of a line does, and before a bracket that closes around it
abbrev pub ends_value : (depth before : ℕ) → ℕ → Bool
ends_value depth before b = is_cut depth before b || (depth == 0 && is_closing b)

abbrev pub value_len : (depth before : ℕ) → List ℕ → ℕ
value_len depth before [] = 0
value_len depth before (b ∷ bs) = if ends_value depth before b then 0 else 1 + value_len (deeper depth b) b bs

-- none, if there are more
abbrev pub at_most : (most n : ℕ) → ℕ
at_most most n = if nat_lt most n then 0 else n

abbrev pub len_of_value : (text : List ℕ) → ℕ
len_of_value text = at_most 200 (value_len 0 32 (take 201 text))

abbrev pub value_in : (text : List ℕ) → List ℕ
value_in text = take (len_of_value text) text

abbrev pub left_after_value : (text : List ℕ) → List ℕ
left_after_value text = drop (len_of_value text) text

-- ---- values

-- after `=`, `[=` or `<` directly after the name
abbrev pub is_joined : (after : List ℕ) → Bool
is_joined after = first after == 61 || (first after == 60 || (first after == 91 && second after == 61))

-- no divider, and no option, also in brackets
abbrev pub is_no_option : (value : List ℕ) → Bool
is_no_option v = not (is_divider (first v) || is_name (without_front class.Lead v))

-- a closing bracket, or `|` after a blank
abbrev pub is_end : (after : List ℕ) → Bool
is_end after = is_closing (first after) || (is_blank (first after) && second after == 124)

-- after a blank: the last word of its brackets or before `|`, and anywhere one in `<` and `>` or in capitals
abbrev pub is_apart : (value after : List ℕ) → Bool
is_apart v after = is_no_option v && (is_end after || (first v == 60 || is_in_capitals v))

abbrev pub apart : (text : List ℕ) → List ℕ
apart text = if is_apart (value_in text) (left_after_value text) then value_in text else []

-- what stands after a name of its value
abbrev pub value_after : (after : List ℕ) → List ℕ
value_after after =
    if is_joined after then value_in after
    else if first after == 32 then apart (drop 1 after)
    else []

-- as of a front
abbrev pub joint_after : (after : List ℕ) → ℕ
joint_after after = if is_joined after then first after else 32

-- ---- options

pub record UsedSaid : Type 0 where
  pub name : List ℕ
  -- the byte before the value
  pub joint : ℕ
  -- what is said of it; nothing, if there is none
  pub value : List ℕ

abbrev pub bare : (name : List ℕ) → UsedSaid
bare n = record { name = n; joint = 32; value = [] }

abbrev pub used_with : (name : List ℕ) → (joint : ℕ) → (value : List ℕ) → UsedSaid
used_with n j v = if length (value_word v) == 0 then bare n else record { name = n; joint = j; value = v }

abbrev pub used : WordSaid → UsedSaid
used w = used_with (name w.text) (joint_after w.after) (without_joints (value_after w.after))

-- in `python3 -m name` it is one of another program
abbrev pub is_of_python : (before w : List ℕ) → Bool
is_of_python before w = bytes_eq w (codes "-m") && bytes_eq (take 6 before) (codes "python")

abbrev pub is_own : (before w : List ℕ) → Bool
is_own before w = is_name w && not (is_of_python before w)

-- the option that a word is, if it is one
abbrev pub option_of : (before : List ℕ) → WordSaid → List UsedSaid
option_of before w = if is_own before w.text then used w ∷ [] else []

abbrev pub options_from : (before : List ℕ) → (words : List WordSaid) → List UsedSaid
options_from before [] = []
options_from before (w ∷ ws) = option_of before w ++ options_from w.text ws

abbrev pub usage_options : (line : List ℕ) → List UsedSaid
usage_options line = options_from [] (usage_words line)

abbrev pub usage_names : (line : List ℕ) → List (List ℕ)
usage_names line = map (λ o. o.name) (usage_options line)
