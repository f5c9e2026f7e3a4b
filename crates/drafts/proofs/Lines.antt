-- The lines of a text are UTF-8.
use Rattle.std.proofs.Common.{◌≡◌, ℕ, Bool, true, false, cond, List, [], ◌∷◌, ◌++◌, All, IsUtf8, append-nil, encode_utf8, encode_utf8_all, get_or, refl, subst, sym, ap, ◌∙◌, arith, true≢false}
use Rattle.std.specs.Prelude.{◌==◌}
use Rattle.std.specs.List.{onto_first}
use Rattle.std.specs.Char.{IsScalar}
use Rattle.std.specs.Str.{all_scalars}
use Rattle.std.proofs.lemmas.Bool.{and_parts}
use Rattle.std.proofs.lemmas.Bool.Decides.{nat_tests}
use Rattle.std.proofs.lemmas.List.{get_or_default}
use Rattle.std.proofs.lemmas.List.Elements.{All-cons, All-head, All-nil, All-tail}
use Rattle.std.proofs.lemmas.List.Splits.{slice_split-cons_no}
use Rattle.std.proofs.lemmas.Str.{IsUtf8-append, IsUtf8-encode, IsUtf8-nil, encode_ascii, inside_one}
use Rattle.drafts.specs.Passages.{lines_in}

abbrev is_newline : ℕ → Bool
is_newline b = b == 10

abbrev before_first : (front : List ℕ) → List (List ℕ) → List (List ℕ)
before_first front [] = front ∷ []
before_first front (l ∷ ls) = (front ++ l) ∷ ls

one_before : (b : ℕ) (front : List ℕ) (ls : List (List ℕ)) → onto_first b (before_first front ls) ≡ before_first (b ∷ front) ls
one_before b front [] = refl
one_before b front (l ∷ ls) = refl

no_front : (ls : List (List ℕ)) (bs : List ℕ) → ls ≡ lines_in bs → lines_in bs ≡ before_first [] ls
no_front [] bs e = absurd (by bs e) where
  by : (bs : List ℕ) → [] ≡ lines_in bs → ⊥
  by [] e = cc
  by (c ∷ cs) e = some (is_newline c) (lines_in cs) e where
    some : (t : Bool) (ls : List (List ℕ)) → [] ≡ cond t ([] ∷ ls) (onto_first c ls) → ⊥
    some true ls e = cc
    some false [] e = cc
    some false (l ∷ ls) e = cc
no_front (l ∷ ls) bs e = sym e

with_front : (front bs : List ℕ) → All (λ b. is_newline b ≡ false) front → lines_in (front ++ bs) ≡ before_first front (lines_in bs)
with_front [] bs none = no_front (lines_in bs) bs refl
with_front (b ∷ front) bs none =
    slice_split-cons_no is_newline b (front ++ bs) (All-head (λ b. is_newline b ≡ false) b front none)
    ∙ ap (onto_first b) (with_front front bs (All-tail (λ b. is_newline b ≡ false) b front none)) ∙ one_before b front (lines_in bs)

is_ten : (n : ℕ) → is_newline n ≡ true → n ≡ 10
is_ten n h = grind (arith, nat_tests)

none_within : (c : ℕ) → is_newline c ≡ false → All (λ b. is_newline b ≡ false) (encode_utf8 c)
none_within c h k d low = by (is_newline (get_or (encode_utf8 c) k d)) refl where
  by : (t : Bool) → is_newline (get_or (encode_utf8 c) k d) ≡ t → t ≡ false
  by true e =
      let same = ap (λ bs. get_or bs k 0) (append-nil (encode_utf8 c)) ∙ get_or_default (encode_utf8 c) k 0 d low ∙ is_ten (get_or (encode_utf8 c) k d) e in
      absurd (true≢false (sym (ap is_newline (inside_one c [] (encode_utf8 c ++ []) k refl low (omega (arith, same)) ∙ same)) ∙ h))
  by false e = refl

first_utf8 : (front : List ℕ) → IsUtf8 front → (ls : List (List ℕ)) → All IsUtf8 ls → All IsUtf8 (before_first front ls)
first_utf8 front u [] all = All-cons IsUtf8 front [] u (All-nil IsUtf8)
first_utf8 front u (l ∷ ls) all = All-cons IsUtf8 (front ++ l) ls (IsUtf8-append front l u (All-head IsUtf8 l ls all)) (All-tail IsUtf8 l ls all)

lines_of : (cs : List ℕ) → all_scalars cs ≡ true → All IsUtf8 (lines_in (encode_utf8_all cs))
lines_of [] h = All-cons IsUtf8 [] [] IsUtf8-nil (All-nil IsUtf8)
lines_of (c ∷ cs) h = by (is_newline c) refl (lines_of cs (and_parts _ (all_scalars cs) h).1) where
  parts : IsScalar c × (all_scalars cs ≡ true)
  parts = and_parts _ (all_scalars cs) h

  by : (t : Bool) → is_newline c ≡ t → All IsUtf8 (lines_in (encode_utf8_all cs)) → All IsUtf8 (lines_in (encode_utf8 c ++ encode_utf8_all cs))
  by true e more =
      let ten = is_ten c e in
      subst (λ bs. All IsUtf8 (lines_in (bs ++ encode_utf8_all cs))) (sym (encode_ascii c (omega (arith, ten)) ∙ ap (λ n. n ∷ []) ten)) (All-cons IsUtf8 [] (lines_in (encode_utf8_all cs)) IsUtf8-nil more)
  by false e more =
      subst (All IsUtf8) (sym (with_front (encode_utf8 c) (encode_utf8_all cs) (none_within c e)))
      (first_utf8 (encode_utf8 c) (IsUtf8-encode c parts.0) (lines_in (encode_utf8_all cs)) more)

pub lines_are_utf8 : (text : List ℕ) → IsUtf8 text → All IsUtf8 (lines_in text)
lines_are_utf8 text u = subst (λ t. All IsUtf8 (lines_in t)) u.1.1 (lines_of u.0 u.1.0)
