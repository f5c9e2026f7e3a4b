-- Latin letters of two bytes take a column each, as printable ASCII does.
use Rattle.std.specs.Prelude.{if◌then◌else◌, ◌%◌, ◌&&◌, ◌+◌, ◌/◌, ◌<◌, ◌==◌, ◌||◌, ◌∷◌, ◌≡◌, ◌≤◌, ◌⊎◌}
use Rattle.bpaf_doc.proofs.lemmas.Splitter.Words.{is_in_range, list_all, IsUtf8, sym, ap, ap₂, ◌∙◌, inl, inr, get_or, arith, ℕ, Bool, true, false, nat_lt, List, [], refl, length, take, drop, sum_by, and_parts, cases_lt, lt-ltb, le-ltb, eqb-true, nat_tests, list_all-append, list_all_more, take_more, take_rest, sum_by-append, sum_by-cons, count_by-le-length, chars_from_encodes, is_simple, is_simple_kind, width_or_zero, str_width-simple, IsWordEnd, columns, is_line_byte, IsRunEnd, IsLettered, is_lettered, begins, letters}
use Rattle.std.proofs.Math.Utf8.{encode, encodes}
use Rattle.ucd_table.proofs.Facts.{passes_below, Stepped-below}
use Rattle.unicode_width.specs.declared.kind.Kind.{Kind}
use Rattle.unicode_width.specs.Kind.{kind}
use Rattle.unicode_width.specs.Width.{alone, char_width, of_kind}
use Rattle.unicode_width.proofs.KindLemmas.{kind_stepped}
use Rattle.unicode_width.proofs.Computing.{unicode_width}
use Rattle.bpaf_doc.proofs.lemmas.Splitter.Printable.{each}
use Rattle.bpaf_doc.proofs.lemmas.Splitter.Runs.{tested_front, line_ends, blank_ends}

-- ---- characters

-- joins nothing, and takes a column
abbrev is_narrow : ℕ → Bool
is_narrow c = is_simple c && (width_or_zero false c == 1)

-- of a character above U+00A0, by its kind
abbrev is_narrow_kind : ℕ → Kind → Bool
is_narrow_kind c k = is_simple_kind k && ((of_kind false c k).0 == 1)

-- the letters from U+00C0 up to U+023F
letters_narrow : passes_below kind kind_stepped (λ c k. nat_lt c 0xC0 || is_narrow_kind c k) 0x240 ≡ true
unfolding unicode_width
letters_narrow = refl

letter_narrow : (c : ℕ) → 192 ≤ c → c < 576 → is_narrow c ≡ true
unfolding char_width alone
letter_narrow c low high = grind (arith, nat_tests, Stepped-below kind kind_stepped (λ c k. nat_lt c 0xC0 || is_narrow_kind c k) 0x240 letters_narrow c high)

ascii_narrow : (c : ℕ) → is_in_range 0x20 0x7E c ≡ true → is_narrow c ≡ true
unfolding char_width
ascii_narrow c h = grind (arith, nat_tests)

-- ---- the bytes of a character

encode_one : (c : ℕ) → c < 128 → encode c ≡ c ∷ []
unfolding encode
encode_one c small = rw (lt-ltb c 128 small) refl

encode_two : (c : ℕ) → 128 ≤ c → c < 2048 → encode c ≡ (192 + c / 64) ∷ (128 + c % 64) ∷ []
unfolding encode
encode_two c low high = rw (le-ltb c 128 low, lt-ltb c 2048 high) refl

encode_three : (c : ℕ) → 2048 ≤ c → c < 65536 → encode c ≡ (224 + c / 4096) ∷ (128 + c / 64 % 64) ∷ (128 + c % 64) ∷ []
unfolding encode
encode_three c low high = grind (arith, le-ltb, lt-ltb)

encode_four : (c : ℕ) → 65536 ≤ c → encode c ≡ (240 + c / 262144) ∷ (128 + c / 4096 % 64) ∷ (128 + c / 64 % 64) ∷ (128 + c % 64) ∷ []
unfolding encode
encode_four c low = grind (arith, le-ltb)

lettered_first : (b : ℕ) → 0xC0 ≤ b → is_lettered b ≡ true → (0xC3 ≤ b) × (b ≤ 0xC8)
lettered_first b low h = (grind (arith, nat_tests), grind (arith, nat_tests))

begins_not : (b : ℕ) → 128 ≤ b → b < 192 → begins b ≡ false
begins_not b low high = grind (arith, nat_tests)

begins_first : (b : ℕ) → 192 ≤ b → begins b ≡ true
begins_first b low = grind (arith, nat_tests)

-- of a character with lettered bytes: it takes a column, and one of its bytes is a first one
record IsLetter (c : ℕ) : Type 0 where
  narrow : is_narrow c ≡ true
  one : letters (encode c) ≡ 1

first_of : (b : ℕ) (rest : List ℕ) (bytes : List ℕ) → bytes ≡ b ∷ rest → list_all is_lettered bytes ≡ true → is_lettered b ≡ true
first_of b rest bytes e h = (and_parts (is_lettered b) (list_all is_lettered rest) (ap (list_all is_lettered) (sym e) ∙ h)).0

letter_is : (c : ℕ) → list_all is_lettered (encode c) ≡ true → IsLetter c
letter_is c h = elim (cases_lt c 128) [
  | inl small ↦ grind (arith, encode_one c small, ascii_narrow, nat_tests, h)
  | inr low ↦ elim (cases_lt c 2048) [ inl high ↦ two_bytes low high | inr more ↦ absurd (no_more more (cases_lt c 65536)) ]
] where
  two_bytes : 128 ≤ c → c < 2048 → IsLetter c
  two_bytes low high =
      let is = encode_two c low high in
      let first = lettered_first (192 + c / 64) (omega arith) (first_of (192 + c / 64) ((128 + c % 64) ∷ []) (encode c) is h) in
      record {
        narrow = letter_narrow c (omega (arith, first.0)) (omega (arith, first.1));
        one = ap letters is ∙ rw (begins_first (192 + c / 64) (omega arith), begins_not (128 + c % 64) (omega arith) (omega arith)) refl;
      }

  no_more : 2048 ≤ c → (c < 65536) ⊎ (65536 ≤ c) → ⊥
  no_more low (inl high) = omega (arith, (lettered_first (224 + c / 4096) (omega arith) (first_of (224 + c / 4096) ((128 + c / 64 % 64) ∷ (128 + c % 64) ∷ []) (encode c) (encode_three c low high) h)).1)
  no_more low (inr high) =
      omega (arith, (lettered_first (240 + c / 262144) (omega arith) (first_of (240 + c / 262144) ((128 + c / 4096 % 64) ∷ (128 + c / 64 % 64) ∷ (128 + c % 64) ∷ []) (encode c) (encode_four c high) h)).1)

-- ---- a text of such characters

record AreLetters (cs : List ℕ) : Type 0 where
  simple : list_all is_simple cs ≡ true
  counted : sum_by (width_or_zero false) cs ≡ letters (encodes cs)

are_letters : (cs : List ℕ) → list_all is_lettered (encodes cs) ≡ true → AreLetters cs
are_letters [] h = record { simple = refl; counted = refl }
are_letters (c ∷ cs) h =
    let both = and_parts (list_all is_lettered (encode c)) (list_all is_lettered (encodes cs)) (sym (list_all-append is_lettered (encode c) (encodes cs)) ∙ h) in
    let one = letter_is c both.0 in
    let narrow = and_parts (is_simple c) (width_or_zero false c == 1) one.narrow in
    let more = are_letters cs both.1 in
    record {
      simple = rw (narrow.0) more.simple;
      counted =
          sum_by-cons (width_or_zero false) c cs ∙ ap₂ (λ a b. a + b) ((eqb-true (width_or_zero false c) 1 narrow.1) ∙ sym one.one) more.counted
          ∙ sym (sum_by-append (λ b. if begins b then 1 else 0) (encode c) (encodes cs));
    }

pub lettered_columns : (bytes : List ℕ) → IsUtf8 bytes → list_all is_lettered bytes ≡ true → letters bytes ≡ columns bytes
lettered_columns bytes u h = grind (arith, are_letters, str_width-simple, chars_from_encodes)

-- ---- runs of such characters

-- a front of them, and one byte more
pub lettered_front : (text : List ℕ) (i j : ℕ) → i ≤ j → IsLettered (take j text) → IsLettered (take i text)
lettered_front text i j le h = tested_front is_lettered text i j le h

pub lettered_more : (text : List ℕ) (i : ℕ) → i < length text → IsLettered (take i text) → is_lettered (get_or text i 0) ≡ true → IsLettered (take (i + 1) text)
lettered_more text i lt h one = list_all_more is_lettered text i 0 lt ∙ rw (h) one

pub letters_more : (text : List ℕ) (i : ℕ) → i < length text → letters (take (i + 1) text) ≡ letters (take i text) + letters (get_or text i 0 ∷ [])
letters_more text i lt = ap letters (take_more text i 0 lt) ∙ (sum_by-append (λ b. if begins b then 1 else 0) (take i text) (get_or text i 0 ∷ []))

lettered_line_byte : (b : ℕ) → is_lettered b ≡ true → is_line_byte b ≡ true
lettered_line_byte b h = grind (arith, nat_tests)

-- a run of them
pub lettered_run : (text : List ℕ) (end : ℕ) → end ≤ length text → IsLettered (take end text) → IsWordEnd (drop end text) → IsRunEnd text end
lettered_run text end le h w = record { within = le; line = each is_lettered is_line_byte (take end text) lettered_line_byte h; word_end = w }

pub ruleset lettered_ends = (count_by-le-length, take_rest, lettered_front, lettered_more, letters_more, lettered_run, line_ends, blank_ends)
