-- Where a text may be cut.
use Rattle.std.proofs.Common.{◌≡◌, ℕ, zero, suc, ◌<◌, ◌≤◌, Bool, true, false, List, [], ◌∷◌, length, get_or, arith, add-one, refl, subst, sym, ◌∙◌}
use Rattle.std.proofs.lemmas.List.{get_or_past}
use Rattle.std.specs.Prelude.{codes, ◌==◌, ◌&&◌}
use Rattle.std.specs.List.{prefix_len, starts_with}
use Rattle.std.proofs.lemmas.Bool.{and_parts, false≢true}
use Rattle.std.specs.Str.{IsCharBoundary, IsUtf8}
use Rattle.std.proofs.lemmas.List.Sums.{prefix_len-le-length, prefix_len_passes}
use Rattle.std.proofs.lemmas.Str.{IsCharBoundary-start, IsCharBoundary-after_ascii}
use Rattle.std.proofs.lemmas.Bool.Decides.{nat_tests}
use Rattle.description_texts.specs.TextsInside.{is_blank, is_white}

after_ascii : (text : List ℕ) (n : ℕ) → IsUtf8 text → ((k : ℕ) → k < n → get_or text k 0 < 128) → n ≤ length text → IsCharBoundary text n
after_ascii text zero u h l = IsCharBoundary-start text u
after_ascii text (suc n) u h l = subst (IsCharBoundary text) (add-one n) (IsCharBoundary-after_ascii text n u (omega arith) (h n (omega arith)))

byte_is : (b c : ℕ) → (b == c) ≡ true → b ≡ c
byte_is b c h = grind (arith, nat_tests)

and_false : (a : Bool) → (a && false) ≡ false
and_false true = refl
and_false false = refl

white_ascii : (b : ℕ) → is_white b ≡ true → b < 128
white_ascii b h = grind (arith, nat_tests)

pub after_white : (text : List ℕ) → IsUtf8 text → IsCharBoundary text (prefix_len is_white text)
after_white text u =
    after_ascii text (prefix_len is_white text) u (λ k l. white_ascii (get_or text k 0) (prefix_len_passes is_white text k 0 l)) (prefix_len-le-length is_white text)

blank_ascii : (b : ℕ) → is_blank b ≡ true → b < 128
blank_ascii b h = grind (arith, nat_tests)

pub after_blanks : (text : List ℕ) (n : ℕ) → IsUtf8 text → n ≤ prefix_len is_blank text → IsCharBoundary text n
after_blanks text n u h =
    let le : prefix_len is_blank text ≤ length text = prefix_len-le-length is_blank text in
    after_ascii text n u (λ k l. blank_ascii (get_or text k 0) (prefix_len_passes is_blank text k 0 (omega arith))) (omega arith)

marker_blank : (text : List ℕ) → starts_with ◌==◌ text (codes "- ") ≡ true → get_or text 1 0 ≡ 32
marker_blank [] h = absurd (false≢true h)
marker_blank (a ∷ []) h = absurd (false≢true (sym (and_false (45 == a)) ∙ h))
marker_blank (a ∷ b ∷ text) h = sym (byte_is 32 b (and_parts (32 == b) true (and_parts (45 == a) ((32 == b) && true) h).1).0)

inside : (text : List ℕ) (n : ℕ) → get_or text n 0 ≡ 32 → n < length text
inside text n h = grind (arith, get_or_past)

-- after `- `
pub after_marker : (text : List ℕ) → IsUtf8 text → starts_with ◌==◌ text (codes "- ") ≡ true → IsCharBoundary text 2
after_marker text u h =
    let blank : get_or text 1 0 ≡ 32 = marker_blank text h in
    IsCharBoundary-after_ascii text 1 u (inside text 1 blank) (omega arith)

pub ruleset bounds = (prefix_len-le-length)
