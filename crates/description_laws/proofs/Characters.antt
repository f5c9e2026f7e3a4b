-- The characters of each kind of text are those of a text of lines.
use Rattle.std.proofs.Common.{◌≡◌, ◌==◌, ℕ, zero, suc, length, take, ◌+◌, ◌*◌, ◌-◌, ◌<◌, ◌≤◌, ◌/◌, List, [], ◌∷◌, ◌++◌, Bool, true, false, refl, ap, ◌∙◌, arith}
use Rattle.std.specs.Prelude.{codes, ◌&&◌, ◌||◌, not, nat_lt, if◌then◌else◌, flat_map}
use Rattle.std.specs.Char.{is_whitespace}
use Rattle.std.specs.Int.{is_in_range}
use Rattle.std.specs.List.{list_all}
use Rattle.std.specs.Fmt.{decimal, digits, digits_onto, digit_glyph}
use Rattle.std.specs.Str.{IsAscii, chars, chars_after, continuation_len, lead_bits, trim_end}
use Rattle.std.proofs.lemmas.Bool.{and_parts, and_from, or_right}
use Rattle.std.proofs.lemmas.Bool.Decides.{nat_tests}
use Rattle.std.proofs.lemmas.List.Folds.{list_all-append}
use Rattle.std.proofs.lemmas.Str.{chars-IsAscii}
use Rattle.toml_datetime.specs.Text.{two_wide, date_text}
use Rattle.toml_datetime.specs.declared.datetime.Date.{Date}
use Rattle.description_toml.specs.Described.Texts.{before_colon, has_blank_end, has_block, without_colon, begins, is_body, is_dash, is_empty_text, is_text, is_value, is_title, is_heading, is_section, is_name, is_long, is_command_name, is_line_character, is_name_character, is_read_once, is_short, is_text_character, is_line, is_language_byte, is_language_tag, has_name_size, is_hidden, is_joiner, is_word_character}
use Rattle.description_toml.proofs.Each.{Each}

-- each of the characters may stand in a text
abbrev pub Plain : List ℕ → Type 0
Plain cs = list_all is_text_character cs ≡ true

abbrev pub PlainText : List ℕ → Type 0
PlainText text = Plain (chars text)

abbrev pub PlainCharacter : ℕ → Type 0
PlainCharacter c = is_text_character c ≡ true

pub plain_append : (xs ys : List ℕ) → Plain xs → Plain ys → Plain (xs ++ ys)
plain_append xs ys h k = list_all-append is_text_character xs ys ∙ and_from (list_all is_text_character xs) (list_all is_text_character ys) h k

pub plain_cons : (c : ℕ) (cs : List ℕ) → PlainCharacter c → Plain cs → Plain (c ∷ cs)
plain_cons c cs h k = and_from (is_text_character c) (list_all is_text_character cs) h k

pub plain_each : {X : Type 0} (f : X → List ℕ) (xs : List X) → Each (λ x. Plain (f x)) xs → Plain (flat_map f xs)
plain_each f [] h = refl
plain_each f (x ∷ xs) h = plain_append (f x) (flat_map f xs) h.0 (plain_each f xs h.1)

-- ---- the kinds

pub weaker : (p q : ℕ → Bool) → ((c : ℕ) → p c ≡ true → q c ≡ true) → (cs : List ℕ) → list_all p cs ≡ true → list_all q cs ≡ true
weaker p q h [] k = refl
weaker p q h (c ∷ cs) k = let both = and_parts (p c) (list_all p cs) k in and_from (q c) (list_all q cs) (h c both.0) (weaker p q h cs both.1)

line : (c : ℕ) → is_line_character c ≡ true → PlainCharacter c
line c h = or_right (c == 10 || c == 9) (is_line_character c) h

word : (c : ℕ) → is_word_character c ≡ true → PlainCharacter c
word c h = let both = and_parts (not (is_hidden c)) (is_line_character c) h in line c both.1

name : (c : ℕ) → is_name_character c ≡ true → PlainCharacter c
name c h =
    let both = and_parts (not (is_whitespace c || c == 61)) (not (is_joiner c) && is_word_character c) h in
    let seen = and_parts (not (is_joiner c)) (is_word_character c) both.1 in
    word c seen.1

pub short_plain : (c : ℕ) → is_short c ≡ true → PlainCharacter c
short_plain c h = let both = and_parts (not (c == 45)) (is_name_character c) h in name c both.1

low : (c : ℕ) → 32 ≤ c → c < 127 → PlainCharacter c
low c h k = grind (arith, nat_tests)

pub body_plain : (text : List ℕ) → is_body text ≡ true → PlainText text
body_plain text h = let both = and_parts (is_text text) (has_block text) h in both.0

pub line_plain : (text : List ℕ) → is_line text ≡ true → PlainText text
line_plain text h = weaker is_line_character is_text_character line (chars text) h

pub value_plain : (text : List ℕ) → is_value text ≡ true → PlainText text
value_plain text h = let both = and_parts (list_all is_word_character (chars text)) (not (is_empty_text text)) h in weaker is_word_character is_text_character word (chars text) both.0

pub title_plain : (text : List ℕ) → is_title text ≡ true → PlainText text
title_plain text h = let both = and_parts (list_all is_word_character (chars text)) (list_all is_read_once text) h in weaker is_word_character is_text_character word (chars text) both.0

pub heading_plain : (text : List ℕ) → is_heading text ≡ true → PlainText text
heading_plain text h = let both = and_parts (is_title text) (not (has_blank_end text) && not (is_empty_text (without_colon text))) h in title_plain text both.0

-- the characters of the first bytes of a text are the first ones of the text
taken_after : (k n c : ℕ) (text : List ℕ) → Plain (chars_after n c text) → Plain (chars_after n c (take k text))
taken_after zero zero c [] h = h
taken_after zero zero c (b ∷ text) h = let both = and_parts (is_text_character c) (list_all is_text_character (chars_after (continuation_len b) (lead_bits b) text)) h in plain_cons c [] both.0 refl
taken_after zero (suc n) c text h = refl
taken_after (suc k) n c [] h = h
taken_after (suc k) zero c (b ∷ text) h = let both = and_parts (is_text_character c) (list_all is_text_character (chars_after (continuation_len b) (lead_bits b) text)) h in
    plain_cons c (chars_after (continuation_len b) (lead_bits b) (take k text)) both.0 (taken_after k (continuation_len b) (lead_bits b) text both.1)
taken_after (suc k) (suc n) c (b ∷ text) h = taken_after k n (c * 64 + (b - 128)) text h

taken_plain : (k : ℕ) (text : List ℕ) → PlainText text → PlainText (take k text)
unfolding chars
taken_plain zero text h = refl
taken_plain (suc k) [] h = h
taken_plain (suc k) (b ∷ text) h = taken_after k (continuation_len b) (lead_bits b) text h

pub colon_plain : (text : List ℕ) → PlainText text → PlainText (without_colon text)
colon_plain text h = taken_plain (length (trim_end (before_colon text))) text h

pub section_plain : (text : List ℕ) → is_section text ≡ true → PlainText text
section_plain text h = grind (arith, and_parts, weaker, line)

pub language_plain : (text : List ℕ) → is_language_tag text ≡ true → PlainText text
language_plain text h = let both = and_parts (list_all is_line_character (chars text)) (not (is_empty_text text) && list_all is_language_byte text) h in weaker is_line_character is_text_character line (chars text) both.0

english : IsAscii (codes "en")
english h0 = grind arith

pub english_plain : PlainText (codes "en")
english_plain = ap (list_all is_text_character) (chars-IsAscii (codes "en") english)

pub name_plain : (text : List ℕ) → is_name text ≡ true → PlainText text
name_plain text h = let both = and_parts (list_all is_name_character (chars text)) (has_name_size text) h in weaker is_name_character is_text_character name (chars text) both.0

pub long_plain : (text : List ℕ) → is_long text ≡ true → PlainText text
long_plain text h = let both = and_parts (is_name text) (not (begins is_dash text)) h in name_plain text both.0

pub command_plain : (text : List ℕ) → is_command_name text ≡ true → PlainText text
command_plain text h = let both = and_parts (is_long text) (list_all is_read_once text) h in long_plain text both.0

-- ---- digits

-- digits, and dashes between them
abbrev pub is_date_byte : ℕ → Bool
is_date_byte b = is_in_range 45 57 b

abbrev pub Dates : List ℕ → Type 0
Dates bs = list_all is_date_byte bs ≡ true

digit : (n : ℕ) → n < 10 → is_date_byte (48 + n) ≡ true
digit n h = grind (arith, nat_tests)

dates_cons : (b : ℕ) (bs : List ℕ) → is_date_byte b ≡ true → Dates bs → Dates (b ∷ bs)
dates_cons b bs h k = and_from (is_date_byte b) (list_all is_date_byte bs) h k

dates_append : (xs ys : List ℕ) → Dates xs → Dates ys → Dates (xs ++ ys)
dates_append xs ys h k = list_all-append is_date_byte xs ys ∙ and_from (list_all is_date_byte xs) (list_all is_date_byte ys) h k

glyph : (n : ℕ) → n < 10 → is_date_byte (digit_glyph false n) ≡ true
glyph n h = grind (arith, nat_tests)

either : (b : Bool) (xs ys : List ℕ) → Dates xs → Dates ys → Dates (if b then xs else ys)
either b xs ys h3 h4 = grind arith

onto : (k n : ℕ) (acc : List ℕ) → Dates acc → Dates (digits_onto k 10 false n acc)
onto zero n acc h = h
onto (suc k) n acc h = grind (arith, onto k (n / 10), dates_cons, glyph, either)

pub number_dates : (n : ℕ) → Dates (decimal n)
unfolding digits
number_dates n = onto 64 n [] refl

two : (n : ℕ) → Dates (two_wide n)
unfolding two_wide digits
two n = grind (arith, dates_cons, digit, nat_tests, onto 64 n)

pub date_bytes : (d : Date) → Dates (date_text d)
unfolding date_text
date_bytes d = grind (arith, dates_append (two_wide d.month) (45 ∷ two_wide d.day), two d.month, dates_cons 45 (two_wide d.day) refl, two d.day, dates_cons 45 (two_wide d.month ++ 45 ∷ two_wide d.day) refl, dates_append, two)

ascii : (bs : List ℕ) → Dates bs → IsAscii bs
ascii (b ∷ bs) h (suc i) = let both = and_parts (is_date_byte b) (list_all is_date_byte bs) h in ascii bs both.1 i
ascii x h y = grind (arith, and_parts, nat_tests)

date_byte : (c : ℕ) → is_date_byte c ≡ true → PlainCharacter c
date_byte c h = low c (grind (arith, nat_tests)) (grind (arith, nat_tests))

dates_plain : (bs : List ℕ) → Dates bs → PlainText bs
dates_plain bs h = ap (list_all is_text_character) (chars-IsAscii bs (ascii bs h)) ∙ weaker is_date_byte is_text_character date_byte bs h

pub digit_bytes : (n : ℕ) → nat_lt n 10 ≡ true → Dates ((48 + n) ∷ [])
digit_bytes n h = dates_cons (48 + n) [] (digit n (grind (arith, nat_tests))) refl

pub day_plain : (d : Date) → PlainText (date_text d)
day_plain d = dates_plain (date_text d) (date_bytes d)

pub digit_plain : (n : ℕ) → nat_lt n 10 ≡ true → PlainText ((48 + n) ∷ [])
digit_plain n h = dates_plain ((48 + n) ∷ []) (digit_bytes n h)
