-- A code line that comes to a line past the width.
use Rattle.std.specs.Prelude.{◌<◌, ◌∷◌, ◌≡◌}
use Rattle.bpaf_doc.proofs.lemmas.Console.Words.{bytes_eq, arith, lt-ltb, length-append, ℕ, false, List, [], length, nat_tests, and-false}
use Rattle.bpaf_doc.specs.Console.Steps.Page.{Sheet, IsPastLine, code_put, margin_of, on, raw_put}
use Rattle.bpaf_doc.proofs.lemmas.Console.Runs.{page_at}

put : (width margin : ℕ) (text line : List ℕ) (column : ℕ) → 0 < length text → width < column → width < 1000000 → bytes_eq line (32 ∷ []) ≡ false
    → raw_put width margin line 1000000 (page_at text column) ≡ code_put margin line (page_at text column)
unfolding raw_put
put width margin text line column some past narrow other = grind (arith, lt-ltb, and-false, nat_tests)

-- it goes to a line of its own, unless it is a blank alone
pub code_put_is : (s : Sheet) → IsPastLine s → (line : List ℕ) → bytes_eq line (32 ∷ []) ≡ false → on (raw_put s.width (margin_of s) line 1000000) s ≡ on (code_put (margin_of s) line) s
code_put_is s is line other = grind (arith, put s.width (margin_of s) s.page.text line s.page.column is.some is.past is.narrow other)

-- after which the next one does
pub past_again : (s : Sheet) → IsPastLine s → (line : List ℕ) → IsPastLine (on (code_put (margin_of s) line) s)
past_again s is line = grind (arith, length-append)
