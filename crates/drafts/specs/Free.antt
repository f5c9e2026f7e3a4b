-- Which names are taken, and which of a line are free.
use Rattle.std.specs.Prelude.{ℕ, zero, suc, ◌-◌, ◌==◌, ◌||◌, ◌&&◌, Bool, true, false, not, List, [], ◌∷◌, ◌++◌, bytes_eq, codes, get_or, if◌then◌else◌, length, map, nat_lt, Option, None, Some}
use Rattle.help_fronts.specs.Fronts.{FrontSaid, option_front}
use Rattle.drafts.specs.Notes.{after, is_none}
use Rattle.drafts.specs.Options.{after_in, key}

-- whether a word is taken
abbrev pub Has : Type 0
Has = List ℕ → Bool

abbrev pub none_taken : Has
none_taken word = false

abbrev pub with_key : Has → (key : List ℕ) → Has
with_key has k word = has word || bytes_eq word k

abbrev pub with_keys : Has → (keys : List (List ℕ)) → Has
with_keys has [] = has
with_keys has (k ∷ ks) = with_keys (with_key has k) ks

-- ---- the options of a line: after one blank another may follow

abbrev pub next_text : FrontSaid → List ℕ
next_text f = if bytes_eq f.gap (codes " ") then f.help else []

abbrev pub fronts_by : (more : List ℕ → List FrontSaid) → Option FrontSaid → List FrontSaid
fronts_by more None = []
fronts_by more (Some f) = f ∷ more (next_text f)

-- at most so many
abbrev pub fronts : (most : ℕ) → (line : List ℕ) → List FrontSaid
fronts zero line = []
fronts (suc n) line = fronts_by (fronts n) (option_front line)

abbrev pub line_fronts : (line : List ℕ) → List FrontSaid
line_fronts line = fronts (length line) line

-- ---- the free names of a line: `has` says which are taken, and `seen` which stand before in the line

abbrev pub is_free : (has seen : Has) → (name : List ℕ) → Bool
is_free has seen n = not (has (key n) || seen (key n))

abbrev pub free_name : (has seen : Has) → (name : List ℕ) → List (List ℕ)
free_name has seen n = if is_free has seen n then n ∷ [] else []

abbrev pub free_names : (has seen : Has) → (names : List (List ℕ)) → List (List ℕ)
free_names has seen [] = []
free_names has seen (n ∷ ns) = free_name has seen n ++ free_names has (with_key seen (key n)) ns

abbrev pub front_keys : FrontSaid → List (List ℕ)
front_keys f = map key f.names

-- a front with its free names alone
pub record FreeSaid : Type 0 where
  pub front : FrontSaid
  -- whether all its names are free
  pub is_whole : Bool

abbrev pub last_name : (names : List (List ℕ)) → List ℕ
last_name names = get_or names (length names - 1) []

-- a value that is joined to the last name goes with it
abbrev pub keeps_value : FrontSaid → (names : List (List ℕ)) → Bool
keeps_value f names = f.joint == 32 || bytes_eq (last_name names) (last_name f.names)

abbrev pub without_value : FrontSaid → FrontSaid
without_value f = record f { values = []; joint = 32; value = None; is_optional = false }

-- a name without a value, and then with one, as in `--color, --color=WHEN`
abbrev pub stands_twice : (name written : List ℕ) → Bool
stands_twice n w = not (is_none (after_in (codes "=") (after_in n (after_in (codes ", ") (after n w)))))

-- so stands the one name that is left
abbrev pub is_doubled : FrontSaid → (names : List (List ℕ)) → Bool
is_doubled f (n ∷ []) = f.joint == 61 && (length f.names == 2 && stands_twice n f.written)
is_doubled f _ = false

abbrev pub valued : FrontSaid → (names : List (List ℕ)) → FrontSaid
valued f names =
    if is_doubled f names then record f { is_optional = true }
    else if keeps_value f names then f
    else without_value f

abbrev pub freed : FrontSaid → (names : List (List ℕ)) → FreeSaid
freed f names = record {
  front = record (valued f names) { names = names };
  is_whole = length names == length f.names || is_doubled f names;
}

abbrev pub free_front : (has seen : Has) → FrontSaid → FreeSaid
free_front has seen f = freed f (free_names has seen f.names)

abbrev pub free_fronts : (has seen : Has) → List FrontSaid → List FreeSaid
free_fronts has seen [] = []
free_fronts has seen (f ∷ fs) = free_front has seen f ∷ free_fronts has (with_keys seen (front_keys f)) fs

abbrev pub free_in : Has → (line : List ℕ) → List FreeSaid
free_in has line = free_fronts has none_taken (line_fronts line)

abbrev pub free_keys : FreeSaid → List (List ℕ)
free_keys f = front_keys f.front

abbrev pub has_name : FreeSaid → Bool
has_name f = nat_lt 0 (length f.front.names)
