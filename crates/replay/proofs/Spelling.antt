-- How texts are spelled and read, character by character.
use Rattle.std.specs.Prelude.{◌≡◌, ◌≢◌, ℕ, suc, ◌+◌, ◌*◌, ◌^◌, ◌<◌, cond, Some, None, List, [], ◌∷◌, ◌++◌, length, encode_utf8, refl, zero, ◌/◌, ◌%◌, Bool, true, false, codes, flat_map, IsUtf8}
use Rattle.std.proofs.Common.{ap, sym, ◌∙◌, subst, inl, inr, arith, append_assoc, append-nil, get_or}
use Rattle.std.proofs.lemmas.Bool.{lt-ltb, ne_eqb, cases_eq, and_parts}
use Rattle.std.proofs.lemmas.List.{nil_from_length}
use Rattle.std.proofs.lemmas.Option.{some_pair_parts}
use Rattle.std.proofs.Math.Nat.{pow-suc, mul_assoc}
use Rattle.std.proofs.lemmas.Str.{encode_ascii, inside_one, chars-nil, chars_past_char, chars_from_encodes, digit_value-digit_char}
use Rattle.std.specs.Char.{IsScalar, digit_value, digit_char}
use Rattle.std.specs.Option.{option_map}
use Rattle.replay.specs.Encoding.{Spells, StandFor, code_at, escape_at, PrintedTextsAreRead, WordsSpellOneText, character_spelling, first_mark, hex_digits, is_hidden, letter_character, spelling}
use Rattle.std.proofs.Math.Utf8.{scalar_cases}
use Rattle.std.specs.Str.{chars}
use lib.Utf8.{scalar, scalars, encodes}

spells-plain : (bs word text : List ℕ) → ((k : ℕ) → k < length bs → get_or bs k 0 ≢ 92) → Spells word text → Spells (bs ++ word) (bs ++ text)
spells-plain [] word text p s = s
spells-plain (b ∷ bs) word text p s =
    Spells.mark (b ∷ []) (bs ++ word) (bs ++ text) (rw (ne_eqb b 92 (p 0 (omega arith))) refl) refl (spells-plain bs word text (λ k l. p (suc k) (omega arith)) s)

-- no byte of another character is a backslash
pub itself : (c : ℕ) (rest : List ℕ) → c ≢ 92 → StandFor (encode_utf8 c ++ rest) rest c
itself c rest ne text s =
    spells-plain (encode_utf8 c) rest text (λ k h e. ne (inside_one c [] (encode_utf8 c) k (sym (append-nil (encode_utf8 c))) h (omega arith) ∙ e)) s

pub escaped : (c : ℕ) (marks rest : List ℕ) → escape_at marks ≡ Some (c, rest) → StandFor (92 ∷ marks) rest c
escaped c marks rest found text s = Spells.mark (encode_utf8 c) rest text (ap (option_map (λ f. (encode_utf8 f.0, f.1))) found) refl s

-- the same after a character that is a backslash
pub escaped_by : (c mark : ℕ) (marks rest : List ℕ) → mark ≡ 92 → escape_at marks ≡ Some (c, rest) → StandFor (encode_utf8 mark ++ marks) rest c
escaped_by c mark marks rest is found = rw (is, encode_ascii 92 (omega arith)) (escaped c marks rest found)

-- the word spells what was read, and then what the rest spells
abbrev pub ReadTo : List ℕ → List ℕ → List ℕ → Type 0
ReadTo word text rest = (more : List ℕ) → Spells rest more → Spells word (text ++ more)

pub read_whole : (word text rest : List ℕ) → length rest ≡ 0 → ReadTo word text rest → Spells word text
read_whole word text rest none read = subst (Spells word) (append-nil text) (read [] (Spells.nothing (nil_from_length rest none) refl))

pub printed_step : (out more rest after whole : List ℕ) (c : ℕ) → IsUtf8 rest → rest ≡ encode_utf8 c ++ after → out ++ spelling rest ≡ whole → more ≡ out ++ character_spelling c → more ++ spelling after ≡ whole
printed_step out more rest after whole c utf8 e w m =
    ap (λ x. x ++ spelling after) m
    ∙ append_assoc out (character_spelling c) (spelling after)
    ∙ ap (λ cs. out ++ flat_map character_spelling cs) (sym (chars_past_char rest after c utf8 e))
    ∙ w

pub printed_end : (out rest whole : List ℕ) → length rest ≡ 0 → out ++ spelling rest ≡ whole → out ≡ whole
printed_end out [] whole n w = sym (append-nil out) ∙ ap (λ cs. out ++ flat_map character_spelling cs) (sym chars-nil) ∙ w
printed_end out (b ∷ rest) whole n w = absurd (omega arith)

pub digits_read : (count more number code : ℕ) (word : List ℕ) → code < 16 ^ count → code_at (count + more) number (hex_digits count code ++ word) ≡ code_at more (number * 16 ^ count + code) word
digits_read zero more number code word h =
    let a : 0 + more ≡ more = omega arith in
    let b : number * 16 ^ 0 + code ≡ number = omega arith in
    rw (a, b) refl
digits_read (suc count) more number code word h =
    let power : 16 ^ suc count ≡ 16 ^ count * 16 = pow-suc 16 count in
    let small : code / 16 < 16 ^ count = omega (arith, power) in
    let counts : suc count + more ≡ count + suc more = omega arith in
    let digit = digit_char (code % 16) in
    let value : digit_value digit ≡ code % 16 = digit_value-digit_char (code % 16) (omega arith) in
    let below : digit_value digit < 16 = omega (arith, value) in
    let product : number * 16 ^ suc count ≡ number * 16 ^ count * 16 = ap (λ p. number * p) power ∙ sym (mul_assoc number (16 ^ count) 16) in
    let sum : (number * 16 ^ count + code / 16) * 16 + digit_value digit ≡ number * 16 ^ suc count + code = omega (arith, product, value) in
    ap (λ n. code_at n number ((hex_digits count (code / 16) ++ digit ∷ []) ++ word)) counts
    ∙ ap (λ w. code_at (count + suc more) number w) (append_assoc (hex_digits count (code / 16)) (digit ∷ []) word)
    ∙ digits_read count (suc more) number (code / 16) (digit ∷ word) small
    ∙ ap (λ t. cond t (code_at more ((number * 16 ^ count + code / 16) * 16 + digit_value digit) word) None) (lt-ltb (digit_value digit) 16 below)
    ∙ ap (λ n. code_at more n word) sum

scalar_below : (c : ℕ) → IsScalar c → c < 16 ^ 6
scalar_below c h = elim (scalar_cases c h) [ inl low ↦ omega arith | inr high ↦ omega (arith, high.1) ]

module _ (word text : List ℕ) (s : Spells word text) where
  -- a character with a letter
  by_letter : (c letter : ℕ) → letter ≢ 117 → letter_character letter ≡ Some c → Spells ((92 ∷ letter ∷ []) ++ word) (encode_utf8 c ++ text)
  by_letter c letter ne l =
      let found : escape_at (letter ∷ word) ≡ Some (c, word) = rw (ne_eqb letter 117 ne, l) refl in
      escaped c (letter ∷ word) word found text s

  -- a character by its code
  by_code : (c : ℕ) → IsScalar c → Spells ((codes "\\u" ++ hex_digits 6 c) ++ word) (encode_utf8 c ++ text)
  by_code c is_scalar =
      let same : 0 * 16 ^ 6 + c ≡ c = omega arith in
      let found : escape_at (117 ∷ (hex_digits 6 c ++ word)) ≡ Some (c, word) =
      digits_read 6 0 0 c word (scalar_below c is_scalar) ∙ ap (λ n. code_at 0 n word) same ∙ ap (λ b. cond b (Some (c, word)) None) is_scalar in
      escaped c (117 ∷ (hex_digits 6 c ++ word)) word found text s

  spelled_character : (c : ℕ) → IsScalar c → Spells (character_spelling c ++ word) (encode_utf8 c ++ text)
  spelled_character c is_scalar =
      unless 92 (λ e. at 92 e (by_letter 92 92 (omega arith) refl)) (λ n92.
      unless 32 (λ e. at 32 e (by_letter 32 115 (omega arith) refl)) (λ n32.
      unless 10 (λ e. at 10 e (by_letter 10 110 (omega arith) refl)) (λ n10.
      unless 9 (λ e. at 9 e (by_letter 9 116 (omega arith) refl)) (λ n9.
      unless 13 (λ e. at 13 e (by_letter 13 114 (omega arith) refl)) (λ n13.
      let other : character_spelling c ≡ cond (is_hidden c) (codes "\\u" ++ hex_digits 6 c) (encode_utf8 c) =
      rw (ne_eqb c 92 n92, ne_eqb c 32 n32, ne_eqb c 10 n10, ne_eqb c 9 n9, ne_eqb c 13 n13) refl in
      subst (λ w. Spells (w ++ word) (encode_utf8 c ++ text)) (sym other) (by_kind (is_hidden c) n92))))))
    where
      unless : {P : Type 0} (d : ℕ) → (c ≡ d → P) → (c ≢ d → P) → P
      unless d same other = elim (cases_eq c d) [ inl e ↦ same e | inr ne ↦ other ne ]

      at : (d : ℕ) → c ≡ d → Spells (character_spelling d ++ word) (encode_utf8 d ++ text) → Spells (character_spelling c ++ word) (encode_utf8 c ++ text)
      at d e h = subst (λ x. Spells (character_spelling x ++ word) (encode_utf8 x ++ text)) (sym e) h

      by_kind : (b : Bool) → c ≢ 92 → Spells (cond b (codes "\\u" ++ hex_digits 6 c) (encode_utf8 c) ++ word) (encode_utf8 c ++ text)
      by_kind true ne = by_code c is_scalar
      by_kind false ne = itself c word ne text s

spelled_characters : (cs : List ℕ) → scalars cs ≡ true → Spells (flat_map character_spelling cs) (encodes cs)
spelled_characters [] h = Spells.nothing refl refl
spelled_characters (c ∷ cs) h =
    let both = and_parts (scalar c) (scalars cs) h in
    spelled_character (flat_map character_spelling cs) (encodes cs) (spelled_characters cs both.1) c both.0

pub printed_texts_are_read : PrintedTextsAreRead
printed_texts_are_read text utf8 =
    let same : utf8.0 ≡ chars text = chars_from_encodes utf8.0 text utf8 utf8.1.1 in
    subst (λ bytes. Spells (spelling text) bytes) utf8.1.1
    (subst (λ cs. Spells (flat_map character_spelling cs) (encodes utf8.0)) same (spelled_characters utf8.0 utf8.1.0))

pub words_spell_one_text : WordsSpellOneText
words_spell_one_text word text other (Spells.nothing w t) (Spells.nothing v u) = t ∙ sym u
words_spell_one_text word text other (Spells.nothing w t) (Spells.mark bytes rest more f u s) = let no : None ≡ Some (bytes, rest) = ap first_mark (sym w) ∙ f in absurd cc
words_spell_one_text word text other (Spells.mark bytes rest more f t s) (Spells.nothing v u) = let no : None ≡ Some (bytes, rest) = ap first_mark (sym v) ∙ f in absurd cc
words_spell_one_text word text other (Spells.mark bytes rest more f t s) (Spells.mark others after end g u r) =
    let same = some_pair_parts bytes others rest after (sym f ∙ g) in
    let ends : more ≡ end = words_spell_one_text rest more end s (subst (λ x. Spells x end) (sym same.1) r) in
    t ∙ ap (λ x. x ++ more) same.0 ∙ ap (λ x. others ++ x) ends ∙ sym u
