-- Texts with the brackets that they had.
use Rattle.std.proofs.Common.{◌≡◌, ℕ, Bool, true, false, if◌then◌else◌, ◌||◌, List, [], ◌∷◌, ◌++◌, drop, take, length, flat_map, refl, ap, ◌∙◌, sym, arith, Option, Some, None, bytes_eq, MatchOption}
use Rattle.std.specs.Borrow.{Bor}
use Rattle.std.specs.Option.{option_map}
use Rattle.std.specs.Str.Pattern.{FindsTextPrefix, StripsPrefix}
use Rattle.std.proofs.Math.Seq.{drop-append_seam, take-append_seam}
use Rattle.std.proofs.lemmas.List.{take-append-drop}
use Rattle.std.proofs.lemmas.Slice.Eq.{bytes_eq-Decides}
use Rattle.std.specs.List.{list_any}
use Rattle.std.proofs.lemmas.Bool.Decides.{nat_tests}
use Rattle.description_usage.specs.Forms.{after_word, blank_for_tab, bracket_of, is_stand_in, restored, untabbed}

either_false : (a b : Bool) → (a || b) ≡ false → (a ≡ false) × (b ≡ false)
either_false a b h = grind arith

stays : (b : ℕ) → is_stand_in b ≡ false → bracket_of b ≡ b
stays b h = grind (arith, nat_tests)

pub none_restored : (text : List ℕ) → list_any is_stand_in text ≡ false → restored text ≡ text
none_restored [] h = refl
none_restored (b ∷ bs) h = let both = either_false (is_stand_in b) (list_any is_stand_in bs) h in ap (λ c. c ∷ restored bs) (stays b both.0) ∙ ap (λ cs. b ∷ cs) (none_restored bs both.1)

pub one_each : (text : List ℕ) → flat_map (λ b. bracket_of b ∷ []) text ≡ restored text
one_each [] = refl
one_each (b ∷ bs) = ap (λ cs. bracket_of b ∷ cs) (one_each bs)

pub tabs_each : (text : List ℕ) → flat_map (λ b. blank_for_tab b ∷ []) text ≡ untabbed text
tabs_each [] = refl
tabs_each (b ∷ bs) = ap (λ cs. blank_for_tab b ∷ cs) (tabs_each bs)

-- ---- a word at the front

begins : (word line rest : List ℕ) → line ≡ word ++ rest → after_word word line ≡ Some rest
begins word line rest e =
    let front : take (length word) line ≡ word = ap (take (length word)) e ∙ take-append_seam word rest in
    ap (λ b. if b then Some (drop (length word) line) else None) ((bytes_eq-Decides (take (length word) line) word).1 front) ∙ ap Some (ap (drop (length word)) e ∙ drop-append_seam word rest)

decided : (word line : List ℕ) (b : Bool) → bytes_eq (take (length word) line) word ≡ b → ((rest : List ℕ) → ¬ (line ≡ word ++ rest)) → b ≡ false
decided word line true h none = absurd (none (drop (length word) line) (sym (take-append-drop (length word) line) ∙ ap (λ xs. xs ++ drop (length word) line) ((bytes_eq-Decides (take (length word) line) word).0 h)))
decided word line false h none = refl

differs : (word line : List ℕ) → ((rest : List ℕ) → ¬ (line ≡ word ++ rest)) → after_word word line ≡ None
differs word line h = ap (λ b. if b then Some (drop (length word) line) else None) (decided word line (bytes_eq (take (length word) line) word) refl h)

pub stripped : (word line : List ℕ) (found : Option (Bor (List ℕ))) → MatchOption found (FindsTextPrefix word line None) (λ x. StripsPrefix (FindsTextPrefix word) line x.now) → option_map (λ rest. rest.now) found ≡ after_word word line
stripped word line None h = sym (differs word line h)
stripped word line (Some x) h = grind (arith, begins)
