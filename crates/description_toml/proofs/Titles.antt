-- Titles: the colon and the blanks at their ends.
use Rattle.std.proofs.Common.{◌≡◌, ◌≢◌, ◌≤◌, ◌==◌, ℕ, zero, suc, List, [], ◌∷◌, ◌++◌, length, take, Bool, true, false, refl, sym, ap, ◌∙◌, subst, arith, if◌then◌else◌, chars}
use Rattle.std.proofs.Math.Utf8.{encode}
use Rattle.std.proofs.lemmas.Bool.{ne_eqb}
use Rattle.std.proofs.lemmas.Str.{chars_past_char}
use Rattle.std.specs.Prelude.{IsUtf8}
use Rattle.std.specs.Str.{IsTrimEnd, trim_end}
use Rattle.description_toml.specs.Described.Texts.{before_colon, ends, without_colon}

-- ---- the colon

colon_dropped : (text : List ℕ) → before_colon (text ++ 58 ∷ []) ≡ text
colon_dropped [] = refl
colon_dropped (b ∷ []) = refl
colon_dropped (b ∷ c ∷ text) = ap (λ t. b ∷ t) (colon_dropped (c ∷ text))

pub colon_left : (whole text : List ℕ) → whole ≡ text ++ 58 ∷ [] → text ≡ before_colon whole
colon_left whole text e = sym (ap before_colon e ∙ colon_dropped text)

pub no_colon : (text : List ℕ) → ((front : List ℕ) → text ≢ front ++ 58 ∷ []) → before_colon text ≡ text
no_colon [] h = refl
no_colon (b ∷ []) h = ap (λ is. if is then [] else b ∷ []) (ne_eqb b 58 (λ e. h [] (ap (λ c. c ∷ []) e)))
no_colon (b ∷ c ∷ text) h = ap (λ t. b ∷ t) (no_colon (c ∷ text) (λ front e. h (b ∷ front) (ap (λ t. b ∷ t) e)))

-- what is in front of the colon is the front of the text
front_kept : (n : ℕ) (text : List ℕ) → n ≤ length (before_colon text) → take n (before_colon text) ≡ take n text
front_kept zero text h = refl
front_kept (suc n) [] h = refl
front_kept (suc n) (b ∷ []) h = by (b == 58) h where
  by : (is : Bool) → suc n ≤ length (if is then [] else b ∷ []) → take (suc n) (if is then [] else b ∷ []) ≡ take (suc n) (b ∷ [])
  by true h = absurd (omega arith)
  by false h = refl
front_kept (suc n) (b ∷ c ∷ text) h = ap (λ t. b ∷ t) (front_kept n (c ∷ text) (omega arith))

pub blanks_left : (text front shown : List ℕ) → front ≡ before_colon text → IsTrimEnd front shown → shown ≡ trim_end front → shown ≡ without_colon text
blanks_left text front shown f is t =
    let short : is.0 ≤ length (before_colon text) = subst (λ xs. is.0 ≤ length xs) f is.5 in
    is.1 ∙ ap (take is.0) f ∙ front_kept is.0 text short
    ∙ ap (λ k. take k text) (sym is.4 ∙ ap length (t ∙ ap trim_end f))

-- ---- the last character

-- of characters after one that passes the test or not
abbrev pub ends_after : (ℕ → Bool) → Bool → List ℕ → Bool
ends_after test before [] = before
ends_after test before (c ∷ cs) = ends test (c ∷ cs)

pub none_before : (test : ℕ → Bool) (cs : List ℕ) → ends_after test false cs ≡ ends test cs
none_before test [] = refl
none_before test (c ∷ cs) = refl

one_after : (test : ℕ → Bool) (before : Bool) (c : ℕ) (cs : List ℕ) → ends_after test (test c) cs ≡ ends_after test before (c ∷ cs)
one_after test before c [] = refl
one_after test before c (d ∷ cs) = refl

pub one_passed : (test : ℕ → Bool) (before : Bool) (bs rest : List ℕ) (c : ℕ) → IsUtf8 bs → bs ≡ encode c ++ rest → ends_after test (test c) (chars rest) ≡ ends_after test before (chars bs)
one_passed test before bs rest c u e = one_after test before c (chars rest) ∙ ap (ends_after test before) (sym (chars_past_char bs rest c u e))
