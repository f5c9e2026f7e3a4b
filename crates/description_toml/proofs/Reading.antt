-- What the readers of values at keys find.
use Rattle.std.proofs.Common.{◌≡◌, ◌==◌, ℕ, Bool, true, false, length, arith, List, [], ◌∷◌, ◌++◌, Option, Some, None, refl}
use Rattle.std.proofs.lemmas.Bool.Decides.{nat_tests}
use Rattle.std.proofs.Math.Utf8.{encode}
use Rattle.std.proofs.lemmas.Str.{chars_past_char}
use Rattle.std.specs.Prelude.{IsErrAnd, Result, Ok, Err, IsUtf8, MatchOption, chars, is_some, slice_get}
use Rattle.toml.specs.View.{items_view}
use Rattle.toml.specs.declared.value.Value.{Value}
use Rattle.description_toml.specs.Described.Values.{is_empty, only_character}
use Rattle.description_toml.specs.Faults.{IsRefusal, Reads}
use Rattle.description_toml.specs.declared.decode.teller.Refused.{Refused}

-- a first character, and one after it
first_alone : (cs : List ℕ) (c : ℕ) (second : Option ℕ) → second ≡ slice_get cs 0 → is_some second ≡ false → Some c ≡ only_character (c ∷ cs)
first_alone cs c second h3 h4 = grind arith

first_of_more : (cs : List ℕ) (c : ℕ) (second : Option ℕ) → second ≡ slice_get cs 0 → is_some second ≡ true → None ≡ only_character (c ∷ cs)
first_of_more cs c second h3 h4 = grind arith

nothing_first : (cs : List ℕ) → None ≡ slice_get cs 0 → None ≡ only_character cs
nothing_first cs h1 = grind arith

pub one_character : (N : Type 0) (text bs rest : List ℕ) (first second : Option ℕ) → bs ≡ text → IsUtf8 text → MatchOption first N (λ c. bs ≡ encode c ++ rest) → first ≡ slice_get (chars bs) 0 → second ≡ slice_get (chars rest) 0
    → is_some second ≡ false → first ≡ only_character (chars text)
one_character N text bs rest first second h6 h7 h8 h9 h10 h11 = grind (arith, nothing_first, first_alone, chars_past_char)

pub more_characters : (N : Type 0) (text bs rest : List ℕ) (first second : Option ℕ) → bs ≡ text → IsUtf8 text → MatchOption first N (λ c. bs ≡ encode c ++ rest) → first ≡ slice_get (chars bs) 0 → second ≡ slice_get (chars rest) 0
    → is_some second ≡ true → None ≡ only_character (chars text)
more_characters N text bs rest first second h6 h7 h8 h9 h10 h11 = grind (arith, nothing_first, first_of_more, chars_past_char)

pub no_items_there : (vs : List Value) → (length vs == 0) ≡ is_empty (items_view vs)
no_items_there [] = refl
no_items_there (v ∷ vs) = grind (arith, nat_tests)

-- an error that is passed on as it came
pub passed_on : {T X : Type 0} (there : Option X) (said : T → X) (r : Result T Refused) (e : Refused) → IsErrAnd r (λ f. f ≡ e) → (¬ IsRefusal e → there ≡ None) → Reads there said r
passed_on there said r e h4 h5 = grind arith

-- keys so far: all are known where those that follow are, or one is not
abbrev pub KnownSoFar : {T : Type 0} → (rest all : Bool) → Result T Refused → Type 0
KnownSoFar rest all (Ok t) = rest ≡ all
KnownSoFar rest all (Err e) = all ≡ false

pub unknown_seen : {T : Type 0} (rest all : Bool) (r : Result T Refused) → KnownSoFar rest all r → rest ≡ false → all ≡ false
unknown_seen rest all (Ok t) h e = grind arith
unknown_seen rest all (Err f) h e = h
