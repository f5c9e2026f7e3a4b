-- Where names may be cut.
use Rattle.std.proofs.Common.{◌≡◌, ℕ, suc, zero, ◌+◌, ◌-◌, ◌<◌, ◌≤◌, true, List, [], ◌∷◌, bytes_eq, codes, length, get_or, take, add-one, arith, sym, ap, ◌∙◌}
use Rattle.std.specs.Str.{IsCharBoundary, IsUtf8}
use Rattle.std.proofs.lemmas.Bool.Decides.{nat_tests}
use Rattle.std.proofs.lemmas.List.{get_or-take}
use Rattle.std.proofs.lemmas.Slice.Eq.{bytes_eq-Decides}
use Rattle.std.proofs.lemmas.Str.{IsCharBoundary-after_ascii, IsCharBoundary-start}
use Rattle.drafts.specs.Options.{is_long, is_short}
use Rattle.drafts.specs.Usages.{has_or}

-- a byte that is not 0 stands in the text
pub stands : (bs : List ℕ) (i b : ℕ) → get_or bs i 0 ≡ b → 0 < b → i < length bs
stands [] i b e h = absurd (omega arith)
stands (x ∷ bs) zero b e h = omega arith
stands (x ∷ bs) (suc i) b e h = let below : i < length bs = stands bs i b e h in omega arith

short_size : (n : List ℕ) → is_short n ≡ true → 0 < length n
short_size n h = grind (arith, nat_tests)

short_first : (n : List ℕ) → is_short n ≡ true → get_or n 0 0 < 128
short_first n h = grind (arith, nat_tests)

pub short_cut : (n : List ℕ) → is_short n ≡ true → IsUtf8 n → IsCharBoundary n 1
short_cut n h utf8 = IsCharBoundary-after_ascii n 0 utf8 (short_size n h) (short_first n h)

long_size : (n : List ℕ) → is_long n ≡ true → 1 < length n
long_size n h = grind (arith, nat_tests)

long_second : (n : List ℕ) → is_long n ≡ true → get_or n 1 0 < 128
long_second n h = grind (arith, nat_tests)

pub long_cut : (n : List ℕ) → is_long n ≡ true → IsUtf8 n → IsCharBoundary n 2
long_cut n h utf8 = IsCharBoundary-after_ascii n 1 utf8 (long_size n h) (long_second n h)

-- after a byte of ASCII
after_ascii : (t : List ℕ) (i b : ℕ) → get_or t i 0 ≡ b → 0 < b → b < 128 → IsUtf8 t → IsCharBoundary t (i + 1)
after_ascii t i b e above small utf8 = IsCharBoundary-after_ascii t i utf8 (stands t i b e above) (omega arith)

pub quote_cut : (t : List ℕ) → get_or t 0 0 ≡ 34 → IsUtf8 t → IsCharBoundary t 1
quote_cut t e utf8 = after_ascii t 0 34 e (omega arith) (omega arith) utf8

pub colon_cut : (t : List ℕ) → get_or t 0 0 ≡ 58 → IsUtf8 t → IsCharBoundary t 1
colon_cut t e utf8 = after_ascii t 0 58 e (omega arith) (omega arith) utf8

or_third : (t : List ℕ) → has_or t ≡ true → get_or t 2 0 ≡ 58
or_third t h = grind (arith, nat_tests)

pub or_cut : (t : List ℕ) → has_or t ≡ true → IsUtf8 t → IsCharBoundary t 3
or_cut t h utf8 = after_ascii t 2 58 (or_third t h) (omega arith) (omega arith) utf8

pub of_cut : (t : List ℕ) → bytes_eq (take 3 t) (codes "of ") ≡ true → IsUtf8 t → IsCharBoundary t 3
of_cut t h utf8 =
    let same : take 3 t ≡ codes "of " = (bytes_eq-Decides (take 3 t) (codes "of ")).0 h in
    after_ascii t 2 32 (sym (get_or-take 3 t 2 0 (omega arith)) ∙ ap (λ s. get_or s 2 0) same) (omega arith) (omega arith) utf8

pub slash_cut : (t : List ℕ) (n : ℕ) → IsUtf8 t → n ≤ length t → (0 < n → get_or t (n - 1) 0 ≡ 47) → IsCharBoundary t n
slash_cut t zero utf8 within slash = IsCharBoundary-start t utf8
slash_cut t (suc k) utf8 within slash = grind (arith, add-one, IsCharBoundary-after_ascii t k utf8)
