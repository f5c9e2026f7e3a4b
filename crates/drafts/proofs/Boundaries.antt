-- Where a text may be cut: at bytes that are ASCII.
use Rattle.std.proofs.Common.{◌≡◌, ℕ, suc, zero, ◌-◌, ◌<◌, ◌≤◌, Bool, true, List, length, get_or, arith, add-one}
use Rattle.std.specs.List.{prefix_len}
use Rattle.std.specs.Str.{IsCharBoundary, IsUtf8}
use Rattle.std.proofs.lemmas.List.Sums.{prefix_len-le-length, prefix_len_passes}
use Rattle.std.proofs.lemmas.Bool.Decides.{nat_tests}
use Rattle.std.proofs.lemmas.Bool.{cases_lt}
use Rattle.std.proofs.lemmas.Str.{IsCharBoundary-start, IsCharBoundary-end, IsCharBoundary-after_ascii, IsCharBoundary-before_ascii}
use Rattle.std.specs.Char.{is_ascii_alphabetic}
use Rattle.std.specs.Prelude.{min}
use Rattle.help_fronts.specs.Bytes.{is_blank}

after_run : (p : ℕ → Bool) (bs : List ℕ) (n : ℕ) → prefix_len p bs ≡ n → IsUtf8 bs → ((c : ℕ) → p c ≡ true → c < 128) → IsCharBoundary bs n
after_run p bs zero e utf8 ascii = IsCharBoundary-start bs utf8
after_run p bs (suc k) e utf8 ascii = grind (arith, add-one, IsCharBoundary-after_ascii bs k utf8, prefix_len-le-length p bs, prefix_len_passes p bs k 0 (omega arith))

alphabetic_ascii : (c : ℕ) → is_ascii_alphabetic c ≡ true → c < 128
alphabetic_ascii c h = grind (arith, nat_tests)

-- after letters at the front
pub after_letters : (bs : List ℕ) (n : ℕ) → n ≡ prefix_len is_ascii_alphabetic bs → IsUtf8 bs → IsCharBoundary bs n
after_letters bs n e utf8 = after_run is_ascii_alphabetic bs n (omega arith) utf8 alphabetic_ascii

-- before a byte that is small, or at the end
pub before_small : (bs : List ℕ) (n : ℕ) → n ≤ length bs → (n < length bs → get_or bs n 0 < 128) → IsCharBoundary bs n
before_small bs n within small = grind (arith, cases_lt, IsCharBoundary-before_ascii, IsCharBoundary-end)

-- after a byte that is small, or at the start
pub after_small : (bs : List ℕ) (n : ℕ) → IsUtf8 bs → n ≤ length bs → (0 < n → get_or bs (n - 1) 0 < 128) → IsCharBoundary bs n
after_small bs zero utf8 within small = IsCharBoundary-start bs utf8
after_small bs (suc k) utf8 within small = grind (arith, add-one, IsCharBoundary-after_ascii bs k utf8)

pub blank_small : (b : ℕ) → is_blank b ≡ true → b < 128
blank_small b h = grind (arith, nat_tests)

-- within the blanks at the front
pub within_blanks : (bs : List ℕ) (most n : ℕ) → n ≡ prefix_len is_blank bs → IsUtf8 bs → IsCharBoundary bs (min most n)
within_blanks bs most n e utf8 =
    after_small bs (min most n) utf8 (omega (arith, e, prefix_len-le-length is_blank bs))
    (λ some. blank_small (get_or bs (min most n - 1) 0) (prefix_len_passes is_blank bs (min most n - 1) 0 (omega (arith, e))))
