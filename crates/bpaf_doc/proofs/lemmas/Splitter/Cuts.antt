-- Where a line and a word end.
use Rattle.std.specs.Prelude.{◌<◌, ◌∷◌, ◌≡◌, ◌≢◌, ◌≤◌}
use Rattle.bpaf_doc.proofs.lemmas.Splitter.Words.{char_set_contains, NoCharPasses, HasPassingCharAt, list_all, inl, inr, arith, get_or, length-take, get_or-take, ℕ, suc, Bool, true, false, IsTrue, List, [], refl, length, take, drop, Option, MatchOption, unwrap_or, NoCharPasses-byte, drop_at_char, cases_lt, nat_tests, Nowhere, NoneBefore, Passes, is_byte, is_line_byte, is_word_byte, IsLine, IsLineEnd, IsWordEnd, IsPastNewline}
use denote.Ref.{Bor}

-- the test of a newline or a blank
abbrev pub is_cut : ℕ → Bool
is_cut c = char_set_contains (10 ∷ 32 ∷ []) c

pub all_at : (test : ℕ → Bool) (bytes : List ℕ) → ((i : ℕ) → i < length bytes → test (get_or bytes i 0) ≡ true) → IsTrue (list_all test bytes)
all_at test [] h = refl
all_at test (b ∷ bytes) h = rw (h 0 (omega arith)) (all_at test bytes (λ i l. h (suc i) (omega (arith, l))))

word_byte : (b : ℕ) → is_cut b ≡ false → is_word_byte b ≡ true
word_byte b e = grind (arith, nat_tests)

-- a byte from 128 on is neither a newline nor a blank
word_byte_above : (b : ℕ) → 128 ≤ b → is_word_byte b ≡ true
word_byte_above b h = word_byte b (grind (arith, nat_tests))

-- what a search for a newline finds
pub no_newline : (b : ℕ) → ¬ is_byte 10 b ≡ true → is_line_byte b ≡ true
no_newline b f = grind arith

pub is_newline : (b : ℕ) → is_byte 10 b ≡ true → b ≡ 10
is_newline b e = grind (arith, nat_tests)

pub line_from_no_newline : (bytes : List ℕ) → Nowhere (Passes (is_byte 10) bytes) 0 (length bytes) → IsLine bytes
line_from_no_newline bytes none = all_at is_line_byte bytes (λ i l. no_newline (get_or bytes i 0) (none i (omega arith) l))

pub line_before_newline : (bytes : List ℕ) (end : ℕ) → NoneBefore (Passes (is_byte 10) bytes) 0 (length bytes) end → IsLine (take end bytes)
line_before_newline bytes end first = grind (arith, all_at, length-take, get_or-take, no_newline)

pub word_from_no_cut : (bytes : List ℕ) → NoCharPasses is_cut bytes → IsTrue (list_all is_word_byte bytes)
word_from_no_cut bytes n = all_at is_word_byte bytes at where
  at : (i : ℕ) → i < length bytes → is_word_byte (get_or bytes i 0) ≡ true
  at i l = elim (cases_lt (get_or bytes i 0) 128) [ inl small ↦ word_byte (get_or bytes i 0) (NoCharPasses-byte is_cut bytes i n l small) | inr large ↦ word_byte_above (get_or bytes i 0) large ]

pub word_end_at : (bytes : List ℕ) (i j : ℕ) → HasPassingCharAt is_cut bytes i j → IsWordEnd (drop i bytes)
word_end_at bytes i j (c, t, h) = grind (arith, nat_tests, drop_at_char)

-- what is left of a text without the newline in front, if there is one
pub past_newline_is : (r : Option (Bor (List ℕ))) (rest : Bor (List ℕ)) → IsLineEnd rest.now
    → MatchOption r ((back : List ℕ) → rest.now ≢ 10 ∷ back) (λ next. rest.now ≡ 10 ∷ next.now) → IsPastNewline rest.now (unwrap_or r rest).now
past_newline_is r rest h1 h2 = grind arith

pub ruleset line_cuts = (line_from_no_newline, line_before_newline)
