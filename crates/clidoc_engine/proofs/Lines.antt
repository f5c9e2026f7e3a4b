-- Lines and columns of a text that grows by a byte.
use Rattle.std.specs.Prelude.{ℕ, ◌≡◌, ◌+◌, ◌<◌, ◌++◌, ◌||◌, take, Bool, true, false, cond, List, [], ◌∷◌, length, count_by, refl}
use Rattle.std.specs.List.{list_any}
use Rattle.std.proofs.Common.{◌∙◌, ap, arith, get_or, zero-add}
use Rattle.std.proofs.lemmas.List.{take_more}
use Rattle.std.proofs.lemmas.List.Sums.{sum_by-append}
use Rattle.clidoc_engine.specs.Places.{begins_character, column_after, is_newline, last_line, line_after}

any_last : (front : List ℕ) (byte : ℕ) → is_newline byte ≡ true → list_any is_newline (front ++ byte ∷ []) ≡ true
any_last [] byte newline = rw newline refl
any_last (b ∷ bs) byte newline = grind (arith, any_last bs byte newline)

-- after a newline the last line is empty
last_line-newline : (front : List ℕ) (byte : ℕ) → is_newline byte ≡ true → last_line (front ++ byte ∷ []) ≡ []
last_line-newline [] byte newline = rw newline refl
last_line-newline (b ∷ bs) byte newline = rw (any_last (b ∷ bs) byte newline) (last_line-newline bs byte newline)

any_more : (front : List ℕ) (byte : ℕ) → is_newline byte ≡ false → list_any is_newline (front ++ byte ∷ []) ≡ list_any is_newline front
any_more [] byte other = rw other refl
any_more (b ∷ bs) byte other = ap (λ any. is_newline b || any) (any_more bs byte other)

more_by : (b : ℕ) (bs : List ℕ) (byte : ℕ) → (any : Bool) → list_any is_newline (b ∷ bs) ≡ any → list_any is_newline (b ∷ bs ++ byte ∷ []) ≡ any
    → last_line (bs ++ byte ∷ []) ≡ last_line bs ++ byte ∷ [] → last_line (b ∷ bs ++ byte ∷ []) ≡ last_line (b ∷ bs) ++ byte ∷ []
more_by b bs byte h3 h4 h5 h6 = grind arith

-- another byte is put after it
last_line-more : (front : List ℕ) (byte : ℕ) → is_newline byte ≡ false → last_line (front ++ byte ∷ []) ≡ last_line front ++ byte ∷ []
last_line-more [] byte other = rw other refl
last_line-more (b ∷ bs) byte other = more_by b bs byte (list_any is_newline (b ∷ bs)) refl (any_more (b ∷ bs) byte other) (last_line-more bs byte other)

count_last : (p : ℕ → Bool) (front : List ℕ) (byte : ℕ) → count_by p (front ++ byte ∷ []) ≡ count_by p front + cond (p byte) 1 0
count_last p front byte = sum_by-append (λ x. cond (p x) 1 0) front (byte ∷ []) ∙ ap (λ n. count_by p front + n) (zero-add (cond (p byte) 1 0))

-- ---- what the byte at i does to the place after the front of that length

pub line-newline : (xs : List ℕ) (i : ℕ) → i < length xs → is_newline (get_or xs i 0) ≡ true → line_after (take (i + 1) xs) ≡ line_after (take i xs) + 1
line-newline xs i inside newline = rw (take_more xs i 0 inside, count_last is_newline (take i xs) (get_or xs i 0), newline) (omega arith)

pub line-more : (xs : List ℕ) (i : ℕ) → i < length xs → is_newline (get_or xs i 0) ≡ false → line_after (take (i + 1) xs) ≡ line_after (take i xs)
line-more xs i inside other = rw (take_more xs i 0 inside, count_last is_newline (take i xs) (get_or xs i 0), other) (omega arith)

pub column-newline : (xs : List ℕ) (i : ℕ) → i < length xs → is_newline (get_or xs i 0) ≡ true → column_after (take (i + 1) xs) ≡ 1
column-newline xs i inside newline = rw (take_more xs i 0 inside, last_line-newline (take i xs) (get_or xs i 0) newline) refl

pub column-begins : (xs : List ℕ) (i : ℕ) → i < length xs → is_newline (get_or xs i 0) ≡ false → begins_character (get_or xs i 0) ≡ true
    → column_after (take (i + 1) xs) ≡ column_after (take i xs) + 1
column-begins xs i inside other begins = grind (arith, take_more xs i 0 inside, last_line-more (take i xs) (get_or xs i 0) other, count_last begins_character (last_line (take i xs)) (get_or xs i 0))

pub column-goes_on : (xs : List ℕ) (i : ℕ) → i < length xs → is_newline (get_or xs i 0) ≡ false → begins_character (get_or xs i 0) ≡ false
    → column_after (take (i + 1) xs) ≡ column_after (take i xs)
column-goes_on xs i inside other goes_on = grind (arith, take_more xs i 0 inside, last_line-more (take i xs) (get_or xs i 0) other, count_last begins_character (last_line (take i xs)) (get_or xs i 0))
