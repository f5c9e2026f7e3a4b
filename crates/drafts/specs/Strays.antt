-- Options that stand only in a usage.
use Rattle.std.specs.Prelude.{ℕ, ◌==◌, ◌||◌, ◌&&◌, Bool, true, false, not, List, [], ◌∷◌, ◌++◌, codes, drop, flat_map, if◌then◌else◌, length, map, nat_le, nat_lt, Option, None, Some}
use Rattle.std.specs.Char.{is_ascii_alphanumeric, to_ascii_lowercase}
use Rattle.std.specs.List.{list_all, slice_index, slice_index_or}
use Rattle.help_fronts.specs.Bytes.{is_dash}
use Rattle.toml_pieces.specs.Toml.{table, word_at}
use Rattle.help_fronts.specs.Fronts.{FrontSaid}
use Rattle.help_fronts.specs.Usages.{UsedSaid, bare, usage_options}
use Rattle.help_fronts.specs.Words.{is_optional, value_word}
use Rattle.drafts.specs.Options.{is_good, key}
use Rattle.drafts.specs.Entries.{option_head}
use Rattle.drafts.specs.Free.{Has, with_key}
use Rattle.drafts.specs.Usages.{FormSaid}

-- ---- letters that stand together, as in `-abc`

-- in the order of the alphabet, large or small, and no letter right after itself
abbrev pub is_before : (a b : ℕ) → Bool
is_before a b = nat_le (to_ascii_lowercase a) (to_ascii_lowercase b) && not (a == b)

abbrev pub are_rising : List ℕ → Bool
are_rising [] = true
are_rising (a ∷ bs) = is_before a (slice_index_or bs 0 128) && are_rising bs

-- a dash, and two letters or digits or more
abbrev pub has_letters : (name : List ℕ) → Bool
has_letters n = (is_dash (slice_index n 0) && nat_lt 2 (length n)) && list_all is_ascii_alphanumeric (drop 1 n)

-- each is the name of an option that is written
abbrev pub are_known : Has → (letters : List ℕ) → Bool
are_known has letters = list_all (λ b. has (b ∷ [])) letters

-- letters of the alphabet in its order, or of options that are written
abbrev pub is_cluster : Has → (name : List ℕ) → Bool
is_cluster has n = has_letters n && (are_rising (drop 1 n) || are_known has (drop 1 n))

-- an option, or the letter of a short one in the place of its name
pub record StraySaid : Type 0 where
  pub is_letter : Bool
  pub option : UsedSaid

abbrev pub letter_of : (text : List ℕ) → StraySaid
letter_of text = record { is_letter = true; option = bare text }

abbrev pub letter : ℕ → StraySaid
letter b = letter_of (b ∷ [])

abbrev pub whole : UsedSaid → StraySaid
whole o = record { is_letter = false; option = o }

-- no value is joined to letters
abbrev pub stand_together : Has → UsedSaid → Bool
stand_together has o = o.joint == 32 && (is_cluster has o.name && not (has (key o.name)))

-- letters are one each, without a value, unless an entry is written that has the name
abbrev pub options_of : Has → UsedSaid → List StraySaid
options_of has o = if stand_together has o then map letter (drop 1 o.name) else whole o ∷ []

-- ---- options

abbrev pub values_of : (value : List ℕ) → List (List ℕ)
values_of v = if length v == 0 then [] else v ∷ []

abbrev pub word_of : (value : List ℕ) → Option (List ℕ)
word_of v = if length v == 0 then None else Some (value_word v)

-- the front of a name and its value
abbrev pub front_of : UsedSaid → FrontSaid
front_of o = record {
  names = o.name ∷ [];
  values = values_of o.value;
  joint = o.joint;
  value = word_of o.value;
  is_optional = is_optional o.value;
  written = [];
  gap = [];
  help = [];
}

-- without the value, if a description does not take it
abbrev pub good_front : UsedSaid → FrontSaid
good_front o = if is_good (front_of o) then front_of o else front_of (bare o.name)

abbrev pub stray_key : StraySaid → List ℕ
stray_key s = if s.is_letter then s.option.name else key s.option.name

-- a description takes the option, and no other has its name
abbrev pub is_stray : Has → StraySaid → Bool
is_stray has s = (s.is_letter || is_good (good_front s.option)) && not (has (stray_key s))

abbrev pub letter_table : (letter : List ℕ) → List ℕ
letter_table text = table (codes "option") ++ word_at (codes "short") text

abbrev pub stray : StraySaid → List ℕ
stray s = if s.is_letter then letter_table s.option.name else option_head false (good_front s.option)

abbrev pub stray_if : Bool → StraySaid → List ℕ
stray_if false s = []
stray_if true s = stray s

abbrev pub with_stray : Bool → (key : List ℕ) → Has → Has
with_stray is_free k has = if is_free then with_key has k else has

-- a table for each that is free, which then takes its name
abbrev pub strays : Has → List StraySaid → List ℕ
strays has [] = []
strays has (s ∷ ss) = stray_if (is_stray has s) s ++ strays (with_stray (is_stray has s) (stray_key s) has) ss

abbrev pub form_options : Has → FormSaid → List StraySaid
form_options has f = flat_map (options_of has) (usage_options f.text)

-- the options in the forms of the usage
abbrev pub options_in : Has → List FormSaid → List StraySaid
options_in has fs = flat_map (form_options has) fs
