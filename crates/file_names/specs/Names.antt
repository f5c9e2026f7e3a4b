-- Which names files may have, here and on other systems, and which of them some folders take for one.
use Rattle.std.specs.Prelude.{codes, chars, drop, encode_utf8_all, ℕ, List, [], ◌∷◌, ◌==◌, ◌&&◌, ◌||◌, nat_le, length, map, take, Bool, false, true, not, bytes_eq, slice_index}
use Rattle.std.specs.Borrow.{Bor}
use Rattle.std.specs.Char.{is_ascii_digit, to_ascii_lowercase}
use Rattle.std.specs.List.{list_any, prefix_len}
use Rattle.caseless.specs.Caseless.{canonical_key}

-- ---- bytes

abbrev pub is_slash : ℕ → Bool
is_slash byte = byte == 47

-- what names of other systems do not hold: a double quote, an asterisk, a colon, `<`, `>`, `?`, a backslash and a bar
abbrev pub is_foreign : ℕ → Bool
is_foreign byte = byte == 34 || byte == 42 || byte == 58 || byte == 60 || byte == 62 || byte == 63 || byte == 92 || byte == 124

-- ---- words

-- the same except for the case of ASCII letters
abbrev pub are_same_letters : List ℕ → List ℕ → Bool
are_same_letters word other = bytes_eq (map to_ascii_lowercase word) (map to_ascii_lowercase other)

abbrev pub is_no_dot : ℕ → Bool
is_no_dot byte = not (byte == 46)

-- what stands before the first dot
abbrev pub stem : List ℕ → List ℕ
stem name = take (prefix_len is_no_dot name) name

-- a console, a printer, a port or nothing at all: other systems open these in place of a file, whatever follows the dot
abbrev pub is_console : List ℕ → Bool
is_console word = are_same_letters word (codes "con") || are_same_letters word (codes "prn") || are_same_letters word (codes "aux") || are_same_letters word (codes "nul")

-- what is typed into a console, and what it shows
abbrev pub is_console_end : List ℕ → Bool
is_console_end word = are_same_letters word (codes "conin$") || are_same_letters word (codes "conout$")

-- a digit, or `²`, `³` or `¹`, which are C2 followed by B2, B3 or B9
abbrev pub is_port_number : List ℕ → Bool
is_port_number [] = false
is_port_number (b ∷ []) = is_ascii_digit b
is_port_number (b ∷ c ∷ []) = b == 0xC2 && (c == 0xB2 || c == 0xB3 || c == 0xB9)
is_port_number (b ∷ c ∷ d ∷ number) = false

-- `com` or `lpt` with the number of a port
abbrev pub is_port : List ℕ → Bool
is_port word = is_port_number (drop 3 word) && (are_same_letters (take 3 word) (codes "com") || are_same_letters (take 3 word) (codes "lpt"))

abbrev pub is_device : List ℕ → Bool
is_device name = is_console (stem name) || is_console_end (stem name) || is_port (stem name)

-- the page that is shown where a folder is asked for
abbrev pub is_index : List ℕ → Bool
is_index name = are_same_letters name (codes "index.html")

-- ---- names

-- not hidden by a dot, and not an option for a program that takes it
abbrev pub begins_well : List ℕ → Bool
begins_well name = not (slice_index name 0 == 46) && not (slice_index name 0 == 45)

-- a name of at most 200 bytes, which any system takes for that of a file, and which takes no other file's place
abbrev pub is_file_name : List ℕ → Bool
is_file_name name = not (list_any is_slash name) && not (list_any is_foreign name) && begins_well name && nat_le (length name) 200 && not (is_device name) && not (is_index name)

-- what stands for a name where it is compared with others by their letters alone:
-- canonical caseless matching of Unicode
abbrev pub name_key : List ℕ → List ℕ
name_key name = encode_utf8_all (canonical_key (chars name))

-- the same except for case and for the form in which letters with marks are written: some folders take them for one
abbrev pub are_alike : List ℕ → List ℕ → Bool
are_alike name other = bytes_eq (name_key name) (name_key other)

-- each is one that a file may have, and no two are alike
abbrev pub are_file_names : List (List ℕ) → Bool
are_file_names [] = true
are_file_names (name ∷ names) = is_file_name name && not (list_any (are_alike name) names) && are_file_names names

-- the first is one that a file may have, and none after it is like it
abbrev pub is_first_name : List (List ℕ) → Bool
is_first_name [] = true
is_first_name (name ∷ names) = is_file_name name && not (list_any (are_alike name) names)

-- what borrowed names say
abbrev pub names_said : List (Bor (List ℕ)) → List (List ℕ)
names_said names = map (λ name. name.now) names
