-- Where a text may be cut: at bytes that are ASCII.
use Rattle.std.proofs.Common.{◌≡◌, ℕ, suc, zero, ◌+◌, ◌-◌, ◌==◌, ◌<◌, ◌≤◌, Bool, true, false, not, cond, List, [], ◌∷◌, length, get_or, refl, sym, subst, arith, add-one, one-add, nat_lt, true≢false}
use Rattle.std.specs.List.{prefix_len}
use Rattle.std.specs.Str.{IsCharBoundary, IsUtf8}
use Rattle.std.proofs.lemmas.List.Sums.{prefix_len-le-length, prefix_len_passes, prefix_len_stops}
use Rattle.std.proofs.lemmas.Bool.{and_parts, cases_lt}
use Rattle.std.proofs.lemmas.Bool.Decides.{nat_tests}
use Rattle.std.proofs.lemmas.Str.{IsCharBoundary-start, IsCharBoundary-end, IsCharBoundary-before_ascii, IsCharBoundary-after_ascii, IsUtf8-drop}
use Rattle.help_fronts.specs.Bytes.{free_len, is_dash, is_in, is_name_start, is_no_name_start}
use Rattle.help_fronts.specs.Words.{dashes, is_name}
use Rattle.help_fronts.specs.Fronts.{gap_len, is_in_gap, is_in_parentheses}
use Rattle.help_fronts.specs.declared.bytes.Class.{Class}

after_run : (p : ℕ → Bool) (bs : List ℕ) (n : ℕ) → prefix_len p bs ≡ n → IsUtf8 bs → ((c : ℕ) → p c ≡ true → c < 128) → IsCharBoundary bs n
after_run p bs zero e utf8 ascii = IsCharBoundary-start bs utf8
after_run p bs (suc k) e utf8 ascii = grind (arith, add-one, IsCharBoundary-after_ascii bs k utf8, prefix_len-le-length p bs, prefix_len_passes p bs k 0 (omega arith))

before_ascii : (p : ℕ → Bool) (bs : List ℕ) → ((c : ℕ) → p c ≡ false → c < 128) → IsCharBoundary bs (prefix_len p bs)
before_ascii p bs ascii = grind (arith, cases_lt, IsCharBoundary-before_ascii, prefix_len_stops, prefix_len-le-length, IsCharBoundary-end)

class_ascii : (k : Class) (c : ℕ) → is_in k c ≡ true → c < 128
class_ascii k c h = grind (arith, nat_tests)

not_false : (b : Bool) → not b ≡ false → b ≡ true
not_false b h1 = grind (arith, true≢false)

-- after bytes of a class at the front
pub after_class : (k : Class) (bs : List ℕ) (n : ℕ) → n ≡ prefix_len (is_in k) bs → IsUtf8 bs → IsCharBoundary bs n
after_class k bs n e utf8 = after_run (is_in k) bs n (omega arith) utf8 (class_ascii k)

-- before bytes of a class at the end
pub before_class : (k : Class) (bs : List ℕ) (n : ℕ) → n ≤ length bs → (n < length bs → is_in k (get_or bs n 0) ≡ true) → IsCharBoundary bs n
before_class k bs n within passed = grind (arith, cases_lt, IsCharBoundary-before_ascii, class_ascii k (get_or bs n 0), IsCharBoundary-end)

-- before the first byte of a class, and after it
pub before_free : (k : Class) (bs : List ℕ) → IsCharBoundary bs (free_len k bs)
before_free k bs = before_ascii (λ b. not (is_in k b)) bs (λ c h. class_ascii k c (not_false (is_in k c) h))

pub after_free : (k : Class) (bs : List ℕ) (n : ℕ) → IsUtf8 bs → n < length bs → is_in k (get_or bs n 0) ≡ true → IsCharBoundary bs (n + 1)
after_free k bs n utf8 within passed = IsCharBoundary-after_ascii bs n utf8 within (class_ascii k (get_or bs n 0) passed)

-- a byte that is not 0 stands in the text
pub stands : (bs : List ℕ) (i b : ℕ) → get_or bs i 0 ≡ b → 0 < b → i < length bs
stands [] i b e h = absurd (omega arith)
stands (x ∷ bs) zero b e h = omega arith
stands (x ∷ bs) (suc i) b e h = let below : i < length bs = stands bs i b e h in omega arith

above : (b : ℕ) → nat_lt 32 b ≡ true → 0 < b
above b h = grind (arith, nat_tests)

-- the letter of a name
pub letter_stands : (w : List ℕ) → is_name w ≡ true → dashes w < length w
letter_stands w h =
    let letter : is_name_start (get_or w (dashes w) 0) ≡ true = (and_parts (is_dash (get_or w 0 0)) (is_name_start (get_or w (dashes w) 0)) h).1 in
    let low : nat_lt 32 (get_or w (dashes w) 0) ≡ true = (and_parts (nat_lt 32 (get_or w (dashes w) 0)) (not (is_no_name_start (get_or w (dashes w) 0))) letter).0 in
    stands w (dashes w) (get_or w (dashes w) 0) refl (above (get_or w (dashes w) 0) low)

gap_ascii : (b next : ℕ) → is_in_gap b next ≡ true → b < 128
gap_ascii b next h = grind (arith, nat_tests)

-- after a gap
pub after_gap : (bs : List ℕ) → IsUtf8 bs → IsCharBoundary bs (gap_len bs)
after_gap [] utf8 = IsCharBoundary-start [] utf8
after_gap (b ∷ bs) utf8 = by (is_in_gap b (get_or bs 0 0)) refl (after_gap bs) where
  by : (t : Bool) → is_in_gap b (get_or bs 0 0) ≡ t → (IsUtf8 bs → IsCharBoundary bs (gap_len bs)) → IsCharBoundary (b ∷ bs) (cond t (1 + gap_len bs) 0)
  by true e below =
      let small : b < 128 = gap_ascii b (get_or bs 0 0) e in
      let rest : IsUtf8 bs = IsUtf8-drop (b ∷ bs) 1 utf8 (IsCharBoundary-after_ascii (b ∷ bs) 0 utf8 (omega arith) small) in
      let inner : IsCharBoundary bs (gap_len bs) = below rest in
      subst (IsCharBoundary (b ∷ bs)) (sym (one-add (gap_len bs))) ((let n = inner.0 in omega arith), (λ l. inner.1 (omega arith)))
  by false e below = IsCharBoundary-start (b ∷ bs) utf8

-- after a parenthesis that begins a word
pub after_parenthesis : (w : List ℕ) → IsUtf8 w → is_in_parentheses w ≡ true → IsCharBoundary w 1
after_parenthesis w utf8 h =
    let opened : (get_or w 0 0 == 40) ≡ true = (and_parts (get_or w 0 0 == 40) (get_or w (length w - 1) 0 == 41) h).0 in
    let e : get_or w 0 0 ≡ 40 = grind (arith, nat_tests) in
    IsCharBoundary-after_ascii w 0 utf8 (stands w 0 40 e (omega arith)) (omega arith)
