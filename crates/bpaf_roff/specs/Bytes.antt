-- The bytes that have a meaning in a text, by name.
use Rattle.std.specs.Prelude.{ℕ}

abbrev pub newline : ℕ
newline = 10

abbrev pub blank : ℕ
blank = 32

abbrev pub apostrophe : ℕ
apostrophe = 39

abbrev pub dash : ℕ
dash = 45

abbrev pub dot : ℕ
dot = 46

abbrev pub less_sign : ℕ
less_sign = 60

abbrev pub greater_sign : ℕ
greater_sign = 62

abbrev pub opening_bracket : ℕ
opening_bracket = 91

abbrev pub backslash : ℕ
backslash = 92

abbrev pub closing_bracket : ℕ
closing_bracket = 93

abbrev pub underscore : ℕ
underscore = 95

abbrev pub backquote : ℕ
backquote = 96
