-- The names of an option that is written without a syntax.
use Rattle.std.proofs.Common.{◌≡◌, ℕ, suc, ◌+◌, ◌≤◌, Bool, true, false, cond, ◌⊎◌, inl, inr, List, [], ◌∷◌, ◌++◌, Option, None, Some, arith, drop, length, map, refl, reverse, ap, ◌∙◌}
use Rattle.std.specs.Prelude.{◌==◌, option_to_list}
use Rattle.std.proofs.lemmas.Bool.Decides.{nat_tests}
use Rattle.std.proofs.lemmas.Bool.{and_parts}
use Rattle.help_fronts.specs.Bytes.{is_dash}
use Rattle.drafts.specs.Options.{count, either, is_long, is_short, letter_of, long_word, short_letter, word_of}
use Rattle.drafts.specs.Laws.{NoNameIsLost}

is_45 : (b : ℕ) → is_dash b ≡ true → b ≡ 45
is_45 b h = grind (arith, nat_tests)

short_is : (n : List ℕ) → is_short n ≡ true → n ≡ 45 ∷ drop 1 n
short_is [] h = cc
short_is (b ∷ bs) h = ap (λ c. c ∷ bs) (is_45 b (and_parts (is_dash b) _ h).0)

long_is : (n : List ℕ) → is_long n ≡ true → n ≡ 45 ∷ 45 ∷ drop 2 n
long_is [] h = cc
long_is (b ∷ []) h = grind (arith, nat_tests)
long_is (b ∷ c ∷ bs) h =
    let dashes = and_parts (is_dash b) (is_dash c) (and_parts _ _ (and_parts _ _ h).0).0 in
    ap (λ d. d ∷ c ∷ bs) (is_45 b dashes.0) ∙ ap (λ d. 45 ∷ d ∷ bs) (is_45 c dashes.1)

not_both : (n : List ℕ) → is_short n ≡ true → is_long n ≡ true → ⊥
not_both n h g = grind (arith, nat_tests)

-- what a name gives: a letter, or a word, or neither
abbrev Gives : (letter word : Option (List ℕ)) → List ℕ → Type 0
Gives (Some x) (Some w) n = ⊥
Gives (Some x) None n = n ≡ 45 ∷ x
Gives None (Some w) n = n ≡ 45 ∷ 45 ∷ w
Gives None None n = Unit {0}

gives : (n : List ℕ) → Gives (letter_of n) (word_of n) n
gives n = by (is_short n) (is_long n) refl refl where
  by : (s l : Bool) → is_short n ≡ s → is_long n ≡ l → Gives (cond s (Some (drop 1 n)) None) (cond l (Some (drop 2 n)) None) n
  by true true h g = not_both n h g
  by true false h g = short_is n h
  by false true h g = long_is n g
  by false false h g = tt

abbrev AreAll : (names : List (List ℕ)) → (letter word : Option (List ℕ)) → Type 0
AreAll names l w =
    let said = map (λ letter. 45 ∷ letter) (option_to_list l) ++ map (λ word. 45 ∷ 45 ∷ word) (option_to_list w) in
    (names ≡ said) ⊎ (names ≡ reverse said)

one : (a b : Option (List ℕ)) (n : List ℕ) → Gives a b n → (1 == count (either a None) + count (either b None)) ≡ true → AreAll (n ∷ []) (either a None) (either b None)
one (Some x) (Some w) n g h = absurd g
one (Some x) None n g h = inl (ap (λ t. t ∷ []) g)
one None (Some w) n g h = inl (ap (λ t. t ∷ []) g)
one None None n g h = cc

two : (a b c d : Option (List ℕ)) (n m : List ℕ) → Gives a b n → Gives c d m → (2 == count (either a (either c None)) + count (either b (either d None))) ≡ true
    → AreAll (n ∷ m ∷ []) (either a (either c None)) (either b (either d None))
two (Some x) (Some w) c d n m g k h = absurd g
two a b (Some y) (Some v) n m g k h = absurd k
two (Some x) None None (Some v) n m g k h = inl (cc)
two None (Some w) (Some y) None n m g k h = inr (cc)
two (Some x) None (Some y) None n m g k h = cc
two (Some x) None None None n m g k h = cc
two None (Some w) None (Some v) n m g k h = cc
two None (Some w) None None n m g k h = cc
two None None (Some y) None n m g k h = cc
two None None None (Some v) n m g k h = cc
two None None None None n m g k h = cc

at_most_one : (o : Option (List ℕ)) → count o ≤ 1
at_most_one None = omega arith
at_most_one (Some x) = omega arith

too_many : (l w : Option (List ℕ)) (k : ℕ) → (suc (suc (suc k)) == count l + count w) ≡ true → ⊥
too_many l w k h = grind (arith, nat_tests, at_most_one l, at_most_one w)

pub no_name_is_lost : NoNameIsLost
no_name_is_lost [] h = inl refl
no_name_is_lost (n ∷ []) h = one (letter_of n) (word_of n) n (gives n) h
no_name_is_lost (n ∷ m ∷ []) h = two (letter_of n) (word_of n) (letter_of m) (word_of m) n m (gives n) (gives m) h
no_name_is_lost (n ∷ m ∷ k ∷ ks) h = absurd (too_many (short_letter (n ∷ m ∷ k ∷ ks)) (long_word (n ∷ m ∷ k ∷ ks)) (length ks) h)
