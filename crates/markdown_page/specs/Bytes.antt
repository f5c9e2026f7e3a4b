-- Kinds of bytes.
use Rattle.std.specs.Prelude.{ℕ, suc, zero, Bool, false, ◌&&◌, ◌||◌, ◌==◌, nat_eq, nat_le, List, [], ◌∷◌, if◌then◌else◌}
use Rattle.std.specs.List.{starts_with}

abbrev pub blank : ℕ
blank = 32

abbrev pub grave : ℕ
grave = 96

abbrev pub is_blank : ℕ → Bool
is_blank b = b == blank

abbrev pub is_grave : ℕ → Bool
is_grave b = b == grave

abbrev pub is_letter : ℕ → Bool
is_letter b = (nat_le 65 b && nat_le b 90) || (nat_le 97 b && nat_le b 122)

abbrev pub is_digit : ℕ → Bool
is_digit b = nat_le 48 b && nat_le b 57

-- a letter or a digit of ASCII
abbrev pub is_word : ℕ → Bool
is_word b = is_letter b || is_digit b

abbrev pub begins_with : List ℕ → List ℕ → Bool
begins_with front bytes = starts_with nat_eq bytes front

-- that many backquotes
abbrev pub graves : ℕ → List ℕ
graves zero = []
graves (suc n) = grave ∷ graves n

-- Whether a text, after that many backquotes, has a run of exactly this many of them.
abbrev pub has_run : ℕ → ℕ → List ℕ → Bool
has_run n run [] = run == n
has_run n run (b ∷ text) = if b == grave then has_run n (suc run) text else run == n || has_run n 0 text

-- Whether a text has `]:`, which after a bracket at the front of a line may define a link.
abbrev pub holds_definition : List ℕ → Bool
holds_definition [] = false
holds_definition (b ∷ []) = false
holds_definition (b ∷ c ∷ text) = (b == 93 && c == 58) || holds_definition (c ∷ text)
