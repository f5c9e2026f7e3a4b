-- Printable ASCII without blanks is a word, and each of its characters takes a column.
use Rattle.std.specs.Prelude.{◌<◌, ◌∷◌, ◌≡◌, ◌≤◌}
use Rattle.bpaf_doc.proofs.lemmas.Splitter.Words.{is_ascii_graphic, is_in_range, All, list_all, IsAscii, IsUtf8, IsCharBoundary, arith, ℕ, Bool, true, IsTrue, List, [], refl, length, take, and_parts, nat_tests, AllPass-from_list_all, chars-IsAscii, IsUtf8-from_ascii, IsCharBoundary-from_take, str_width-printable, columns, is_word_byte}
use Rattle.std.proofs.lemmas.Str.Ascii.{IsAscii-from_all}

-- what each of them is: no newline and no blank, printable, and ASCII
word_one : (b : ℕ) → is_ascii_graphic b ≡ true → is_word_byte b ≡ true
word_one b h = grind (arith, nat_tests)

pub each : (p q : ℕ → Bool) (bytes : List ℕ) → ((b : ℕ) → p b ≡ true → q b ≡ true) → list_all p bytes ≡ true → list_all q bytes ≡ true
each p q [] one h = refl
each p q (b ∷ bytes) one h = grind (arith, each p q bytes one, and_parts)

all_small : (bytes : List ℕ) → list_all is_ascii_graphic bytes ≡ true → All (λ b. b < 128) bytes
all_small bytes h k d l = grind (arith, nat_tests, AllPass-from_list_all is_ascii_graphic bytes h k d l)

ascii : (bytes : List ℕ) → list_all is_ascii_graphic bytes ≡ true → IsAscii bytes
ascii bytes h = IsAscii-from_all bytes (all_small bytes h)

pub printable_word : (bytes : List ℕ) → list_all is_ascii_graphic bytes ≡ true → IsTrue (list_all is_word_byte bytes)
printable_word bytes h = each is_ascii_graphic is_word_byte bytes word_one h

pub printable_columns : (bytes : List ℕ) → list_all is_ascii_graphic bytes ≡ true → length bytes ≡ columns bytes
printable_columns bytes h = grind (arith, chars-IsAscii, ascii, str_width-printable, each, nat_tests)

pub printable_cut : (text : List ℕ) (n : ℕ) → IsUtf8 text → n ≤ length text → list_all is_ascii_graphic (take n text) ≡ true → IsCharBoundary text n
printable_cut text n u l h = IsCharBoundary-from_take text n u l (IsUtf8-from_ascii (take n text) (ascii (take n text) h))

pub line_columns_are : (bytes : List ℕ) → list_all (is_in_range 0x20 0x7E) bytes ≡ true → length bytes ≡ columns bytes
line_columns_are bytes h = grind (arith, chars-IsAscii, IsAscii-from_all, nat_tests, AllPass-from_list_all, str_width-printable)

pub ruleset printable_words = (printable_word, printable_columns, printable_cut)
