-- A permitted text in capitals is permitted: no character becomes one that is not.
use Rattle.std.proofs.Common.{◌≡◌, ℕ, ◌+◌, ◌-◌, ◌≤◌, Bool, true, false, ◌&&◌, ◌||◌, List, [], ◌∷◌, flat_map, nat_lt, refl, ap, ◌∙◌, arith}
use Rattle.std.specs.Prelude.{if◌then◌else◌, ◌==◌, nat_le}
use Rattle.std.specs.List.{list_all}
use Rattle.std.specs.Str.{chars}
use Rattle.std.specs.StrCase.Upper.{str_to_uppercase}
use Rattle.std.specs.Char.Unicode.Rows.{Row, by_runs, by_strings, in_run, string_of}
use Rattle.std.specs.Char.Unicode.ToUppercase.{to_uppercase, uppercase_runs, uppercase_strings}
use Rattle.std.proofs.Math.Utf8.{scalar, scalars}
use Rattle.std.proofs.lemmas.Bool.{and_from, and_parts}
use Rattle.std.proofs.lemmas.Bool.Decides.{nat_tests}
use Rattle.std.proofs.lemmas.List.Folds.{list_all-append}
use Rattle.std.proofs.lemmas.Str.{chars-encodes, scalars-chars}
use Rattle.page_model.specs.Permitted.{is_permitted}
use Rattle.page_laws.proofs.Blocks.{Permitted}

-- a permitted character
abbrev is_fine : ℕ → Bool
is_fine c = scalar c && is_permitted c

-- from the first on up to the second none is a control character, a surrogate or a noncharacter
abbrev fine_range : ℕ → ℕ → Bool
fine_range lo hi = (nat_le 32 lo && nat_lt hi 127) || ((nat_le 160 lo && nat_lt hi 0xD800) || ((nat_le 0xE000 lo && nat_lt hi 0xFDD0) || ((nat_le 0xFDF0 lo && nat_lt hi 0xFFFE) || (nat_le 0x1_0000 lo && nat_lt hi 0x1_FFFE))))

in_fine : (lo hi c : ℕ) → fine_range lo hi ≡ true → lo ≤ c → c ≤ hi → is_fine c ≡ true
in_fine lo hi c h k l = grind (arith, nat_tests)

abbrev fine_run : Row → Bool
fine_run run = fine_range run.3 (run.3 + (run.1 - run.0))

run_there : (run : Row) (c : ℕ) → in_run run c ≡ true → (run.0 ≤ c) × (c ≤ run.1)
run_there run c h = grind (arith, and_parts, nat_tests)

run_by : (t : Bool) (run : Row) (c other : ℕ) → in_run run c ≡ t → fine_run run ≡ true → is_fine other ≡ true → is_fine (if t then run.3 + (c - run.0) else other) ≡ true
run_by true run c other e h k = let there = run_there run c e in in_fine run.3 (run.3 + (run.1 - run.0)) (run.3 + (c - run.0)) h (omega arith) (omega arith)
run_by false run c other e h k = k

runs_fine : (runs : List Row) (c : ℕ) → list_all fine_run runs ≡ true → is_fine c ≡ true → is_fine (by_runs runs c) ≡ true
unfolding by_runs
runs_fine [] c h k = k
runs_fine (run ∷ runs) c h k = let both = and_parts (fine_run run) (list_all fine_run runs) h in run_by (in_run run c) run c (by_runs runs c) refl both.0 (runs_fine runs c both.1 k)

abbrev fine_string : Row → Bool
fine_string row = list_all is_fine (string_of row)

string_by : (t : Bool) (row : Row) (others : List ℕ) → fine_string row ≡ true → list_all is_fine others ≡ true → list_all is_fine (if t then string_of row else others) ≡ true
string_by true row others h k = h
string_by false row others h k = k

strings_fine : (default : List ℕ) (rows : List Row) (c : ℕ) → list_all fine_string rows ≡ true → list_all is_fine default ≡ true → list_all is_fine (by_strings default rows c) ≡ true
unfolding by_strings
strings_fine default [] c h k = k
strings_fine default (row ∷ rows) c h k = let both = and_parts (fine_string row) (list_all fine_string rows) h in string_by (row.0 == c) row (by_strings default rows c) both.0 (strings_fine default rows c both.1 k)

all_runs : list_all fine_run uppercase_runs ≡ true
unfolding uppercase_runs
all_runs = refl

all_strings : list_all fine_string uppercase_strings ≡ true
unfolding uppercase_strings
all_strings = refl

character : (c : ℕ) → is_fine c ≡ true → list_all is_fine (to_uppercase c) ≡ true
unfolding to_uppercase
character c h = strings_fine (by_runs uppercase_runs c ∷ []) uppercase_strings c all_strings (and_from (is_fine (by_runs uppercase_runs c)) true (runs_fine uppercase_runs c all_runs h) refl)

characters : (cs : List ℕ) → list_all is_fine cs ≡ true → list_all is_fine (flat_map to_uppercase cs) ≡ true
characters [] h = refl
characters (c ∷ cs) h =
    let both = and_parts (is_fine c) (list_all is_fine cs) h in
    list_all-append is_fine (to_uppercase c) (flat_map to_uppercase cs) ∙ and_from (list_all is_fine (to_uppercase c)) (list_all is_fine (flat_map to_uppercase cs)) (character c both.0) (characters cs both.1)

fine_from : (cs : List ℕ) → scalars cs ≡ true → list_all is_permitted cs ≡ true → list_all is_fine cs ≡ true
fine_from [] h k = refl
fine_from (c ∷ cs) h k =
    let s = and_parts (scalar c) (scalars cs) h in
    let p = and_parts (is_permitted c) (list_all is_permitted cs) k in
    and_from (is_fine c) (list_all is_fine cs) (and_from (scalar c) (is_permitted c) s.0 p.0) (fine_from cs s.1 p.1)

fine_scalars : (cs : List ℕ) → list_all is_fine cs ≡ true → scalars cs ≡ true
fine_scalars [] h = refl
fine_scalars (c ∷ cs) h = let both = and_parts (is_fine c) (list_all is_fine cs) h in and_from (scalar c) (scalars cs) (and_parts (scalar c) (is_permitted c) both.0).0 (fine_scalars cs both.1)

fine_permitted : (cs : List ℕ) → list_all is_fine cs ≡ true → list_all is_permitted cs ≡ true
fine_permitted [] h = refl
fine_permitted (c ∷ cs) h = let both = and_parts (is_fine c) (list_all is_fine cs) h in and_from (is_permitted c) (list_all is_permitted cs) (and_parts (scalar c) (is_permitted c) both.0).1 (fine_permitted cs both.1)

pub capitals_permitted : (text : List ℕ) → Permitted text → Permitted (str_to_uppercase text)
unfolding str_to_uppercase
capitals_permitted text h =
    let cs : List ℕ = flat_map to_uppercase (chars text) in
    let all = characters (chars text) (fine_from (chars text) (scalars-chars text h.utf8) h.characters) in
    record { utf8 = (cs, (fine_scalars cs all, refl)); characters = ap (list_all is_permitted) (chars-encodes cs (fine_scalars cs all)) ∙ fine_permitted cs all }
