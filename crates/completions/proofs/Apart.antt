-- What the scripts of two programs define has two names.
use Rattle.std.proofs.Common.{◌≡◌, ℕ, ◌/◌, ◌%◌, ◌<◌, Bool, true, false, cond, ◌⊎◌, All, List, [], ◌∷◌, ◌++◌, drop, refl, sym, ap, ◌∙◌, arith, inl, inr}
use Rattle.std.specs.Char.{digit_char, is_ascii_alphanumeric}
use Rattle.std.proofs.lemmas.Bool.{false≢true}
use Rattle.std.proofs.lemmas.Bool.Decides.{nat_tests}
use Rattle.std.proofs.lemmas.List.Elements.{All-head, All-tail}
use Rattle.completions.specs.Scripts.{IsByte, IsSuffix, ScriptsDoNotMeet, tag}

digit_same : (m n : ℕ) → m < 16 → n < 16 → digit_char m ≡ digit_char n → m ≡ n
digit_same m n below under same = grind (arith, nat_tests)

no_digit : (n : ℕ) → n < 16 → digit_char n ≡ 95 → ⊥
no_digit n below same = grind (arith, nat_tests)

no_letter : (b : ℕ) → is_ascii_alphanumeric b ≡ true → b ≡ 95 → ⊥
no_letter b h same = false≢true (ap is_ascii_alphanumeric (sym same) ∙ h)

digits_same : (x y : ℕ) → x / 16 ≡ y / 16 → x % 16 ≡ y % 16 → x ≡ y
digits_same x y high low = omega arith

kinds : (t : Bool) → (t ≡ true) ⊎ (t ≡ false)
kinds true = inl refl
kinds false = inr refl

-- ---- the tag of a name that begins with a byte, and what follows it

abbrev digits : (b : ℕ) → List ℕ → List ℕ
digits b rest = 95 ∷ digit_char (b / 16) ∷ digit_char (b % 16) ∷ rest

kept : (b : ℕ) (bs v : List ℕ) → is_ascii_alphanumeric b ≡ true → tag (b ∷ bs) ++ v ≡ b ∷ (tag bs ++ v)
kept b bs v h = ap (λ t. (cond t (b ∷ []) (digits b []) ++ tag bs) ++ v) h

spelled : (b : ℕ) (bs v : List ℕ) → is_ascii_alphanumeric b ≡ false → tag (b ∷ bs) ++ v ≡ digits b (tag bs ++ v)
spelled b bs v h = ap (λ t. (cond t (b ∷ []) (digits b []) ++ tag bs) ++ v) h

no_suffix : (b : ℕ) (bs v w : List ℕ) → IsByte b → IsSuffix w → w ≡ tag (b ∷ bs) ++ v → ⊥
no_suffix b bs v w small (inl none) e = elim (kinds (is_ascii_alphanumeric b)) [
  | inl h ↦ let f : [] ≡ b ∷ (tag bs ++ v) = sym none ∙ e ∙ kept b bs v h in cc
  | inr h ↦ let f : [] ≡ digits b (tag bs ++ v) = sym none ∙ e ∙ spelled b bs v h in cc
]
no_suffix b bs v w small (inr more) e = elim (kinds (is_ascii_alphanumeric b)) [
  | inl h ↦
      let f : 95 ∷ 95 ∷ more.0 ≡ b ∷ (tag bs ++ v) = sym more.1 ∙ e ∙ kept b bs v h in
      let same : b ≡ 95 = cc in
      no_letter b h same
  | inr h ↦
      let f : 95 ∷ 95 ∷ more.0 ≡ digits b (tag bs ++ v) = sym more.1 ∙ e ∙ spelled b bs v h in
      let same : digit_char (b / 16) ≡ 95 = cc in
      let below : b / 16 < 16 = omega arith in
      no_digit (b / 16) below same
]

-- ---- names with one tag

-- two tags with what follows them are the same only where their first bytes are
first_same : (x y : ℕ) (xs ys v w : List ℕ) → IsByte x → IsByte y → tag (x ∷ xs) ++ v ≡ tag (y ∷ ys) ++ w → (x ≡ y) × (tag xs ++ v ≡ tag ys ++ w)
first_same x y xs ys v w small short e = elim (kinds (is_ascii_alphanumeric x)) [
  | inl h ↦ elim (kinds (is_ascii_alphanumeric y)) [
    | inl k ↦ let f : x ∷ (tag xs ++ v) ≡ y ∷ (tag ys ++ w) = sym (kept x xs v h) ∙ e ∙ kept y ys w k in (cc, cc)
    | inr k ↦
        let f : x ∷ (tag xs ++ v) ≡ digits y (tag ys ++ w) = sym (kept x xs v h) ∙ e ∙ spelled y ys w k in
        let same : x ≡ 95 = cc in
        absurd (no_letter x h same)
  ]
  | inr h ↦ elim (kinds (is_ascii_alphanumeric y)) [
    | inl k ↦
        let f : digits x (tag xs ++ v) ≡ y ∷ (tag ys ++ w) = sym (spelled x xs v h) ∙ e ∙ kept y ys w k in
        let same : y ≡ 95 = cc in
        absurd (no_letter y k same)
    | inr k ↦
        let f : digits x (tag xs ++ v) ≡ digits y (tag ys ++ w) = sym (spelled x xs v h) ∙ e ∙ spelled y ys w k in
        let high : digit_char (x / 16) ≡ digit_char (y / 16) = cc in
        let low : digit_char (x % 16) ≡ digit_char (y % 16) = cc in
        let rest : tag xs ++ v ≡ tag ys ++ w = cc in
        let front : x / 16 ≡ y / 16 = digit_same (x / 16) (y / 16) (omega arith) (omega arith) high in
        let back : x % 16 ≡ y % 16 = digit_same (x % 16) (y % 16) (omega arith) (omega arith) low in
        (digits_same x y front back, rest)
  ]
]

same_name : (a b v w : List ℕ) → All IsByte a → All IsByte b → IsSuffix v → IsSuffix w → tag a ++ v ≡ tag b ++ w → a ≡ b
same_name [] [] v w p q s t e = refl
same_name [] (y ∷ ys) v w p q s t e = absurd (no_suffix y ys w v (All-head IsByte y ys q) s e)
same_name (x ∷ xs) [] v w p q s t e = absurd (no_suffix x xs v w (All-head IsByte x xs p) t (sym e))
same_name (x ∷ xs) (y ∷ ys) v w p q s t e =
    let first = first_same x y xs ys v w (All-head IsByte x xs p) (All-head IsByte y ys q) e in
    ap (λ z. z ∷ xs) first.0 ∙ ap (λ zs. y ∷ zs) (same_name xs ys v w (All-tail IsByte x xs p) (All-tail IsByte y ys q) s t first.1)

pub scripts_do_not_meet : ScriptsDoNotMeet
scripts_do_not_meet a b v w p q s t e = same_name a b v w p q s t (ap (drop 8) e)
