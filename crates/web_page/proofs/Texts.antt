-- Texts that hold nothing but characters that may be written.
use Rattle.std.proofs.Common.{◌≡◌, ◌≢◌, ℕ, ◌<◌, Bool, true, false, ◌&&◌, suc, List, [], ◌∷◌, ◌++◌, length, refl, sym, ap, ◌∙◌, subst, inl, inr, append-nil, get_or, arith}
use Rattle.std.specs.Prelude.{encode_utf8, encode_utf8_all, codes, nat_lt}
use Rattle.std.specs.List.{list_all}
use Rattle.std.specs.Str.{IsUtf8, IsAscii, chars}
use Rattle.std.proofs.lemmas.Bool.{and_parts, and_from, ne_eqb, cases_eq}
use Rattle.std.proofs.lemmas.Bool.Decides.{nat_tests}
use lib.Utf8.{scalar, scalars}
use Rattle.std.proofs.lemmas.List.Folds.{list_all-append}
use Rattle.std.proofs.lemmas.List.Concat.{flat_map-append}
use Rattle.std.proofs.lemmas.Str.{IsUtf8-append, IsUtf8-encode, IsUtf8-nil, IsUtf8-from_ascii, chars-IsAscii, chars-append, chars-encodes, chars-nil}
use Rattle.web_page.specs.Reader.{is_kept, is_permitted}
use Rattle.web_page.specs.Calls.{are_written, is_written}
use Rattle.web_page.specs.Exact.{escaped, escaped_byte}
use Rattle.web_page.specs.Steps.Bytes.{is_written_byte}
use Rattle.web_page.proofs.Escapes.{other_byte, plain_character, signed_character}

-- a text that may stand in a page
pub record IsClean (bytes : List ℕ) : Type 0 where
  pub utf8 : IsUtf8 bytes
  pub permitted : list_all is_permitted (chars bytes) ≡ true

pub clean-append : (a b : List ℕ) → IsClean a → IsClean b → IsClean (a ++ b)
clean-append a b p q = grind (arith, IsUtf8-append, chars-append, list_all-append, and_from)

pub clean-nil : IsClean []
clean-nil = record { utf8 = IsUtf8-nil; permitted = ap (list_all is_permitted) chars-nil }

-- a byte that is a character that may be written
abbrev pub is_ascii_byte : ℕ → Bool
is_ascii_byte b = nat_lt b 128 && is_permitted b

ascii : (bytes : List ℕ) → list_all is_ascii_byte bytes ≡ true → IsAscii bytes
ascii (b ∷ bytes) h (suc i) = ascii bytes (and_parts (is_ascii_byte b) (list_all is_ascii_byte bytes) h).1 i
ascii x h y = grind (arith, and_parts, nat_tests)

all_permitted : (bytes : List ℕ) → list_all is_ascii_byte bytes ≡ true → list_all is_permitted bytes ≡ true
all_permitted [] h = refl
all_permitted (b ∷ bytes) h = grind (arith, all_permitted bytes, and_parts, and_from)

pub clean-ascii : (bytes : List ℕ) → list_all is_ascii_byte bytes ≡ true → IsClean bytes
clean-ascii bytes h = grind (arith, IsUtf8-from_ascii, ascii, chars-IsAscii, all_permitted)

-- ---- characters that may be written

permitted : (c : ℕ) → is_written c ≡ true → is_permitted c ≡ true
permitted c h = grind arith

not_return : (c : ℕ) → is_written c ≡ true → c ≢ 13
not_return c h e = let f : is_written 13 ≡ true = subst (λ x. is_written x ≡ true) e h in cc

kept_bytes : (bytes : List ℕ) → ((k : ℕ) → k < length bytes → get_or bytes k 0 ≢ 13) → list_all is_kept bytes ≡ true
kept_bytes [] p = refl
kept_bytes (b ∷ bytes) p =
    let first : is_kept b ≡ true = rw (ne_eqb b 13 (p 0 (omega arith))) refl in
    and_from (is_kept b) (list_all is_kept bytes) first (kept_bytes bytes (λ k h. p (suc k) (omega arith)))

kept_characters : (cs : List ℕ) → list_all is_written cs ≡ true → list_all is_kept (encode_utf8_all cs) ≡ true
kept_characters [] h = refl
kept_characters (c ∷ cs) h =
    let p = and_parts (is_written c) (list_all is_written cs) h in
    list_all-append is_kept (encode_utf8 c) (encode_utf8_all cs)
    ∙ and_from (list_all is_kept (encode_utf8 c)) (list_all is_kept (encode_utf8_all cs)) (kept_bytes (encode_utf8 c) (λ k g. other_byte c 13 k (omega arith) (not_return c p.0) g)) (kept_characters cs p.1)

clean_character : (c : ℕ) → scalar c ≡ true → is_written c ≡ true → IsClean (encode_utf8 c)
clean_character c s w = grind (arith, and_from (scalar c) true s refl, append-nil (encode_utf8 c), chars-encodes (c ∷ []), IsUtf8-encode c, permitted, and_from (is_permitted c) true, permitted c w)

-- a character that something else stands for
clean_reference : (v : Bool) (c d : ℕ) (name : List ℕ) → c ≡ d → d < 128 → escaped_byte v d ≡ name → list_all is_ascii_byte name ≡ true → IsClean (escaped v (encode_utf8 c))
clean_reference v c d name e small is h = grind (arith, signed_character v d name small is, clean-ascii name h)

clean_written : (v : Bool) (c : ℕ) → scalar c ≡ true → is_written c ≡ true → IsClean (escaped v (encode_utf8 c))
clean_written v c s w =
    elim (cases_eq c 38) [
      | inl e ↦ clean_reference v c 38 (codes "&amp;") e (omega arith) refl refl
      | inr not_and ↦ elim (cases_eq c 60) [
        | inl e ↦ clean_reference v c 60 (codes "&lt;") e (omega arith) refl refl
        | inr not_less ↦ elim (cases_eq c 62) [
          | inl e ↦ clean_reference v c 62 (codes "&gt;") e (omega arith) refl refl
          | inr not_greater ↦ elim (cases_eq c 34) [
            | inl e ↦ quote v e
            | inr not_quote ↦ subst IsClean (sym (plain_character v c (not_and, not_less, not_greater, λ _. not_quote))) (clean_character c s w)
          ]
        ]
      ]
    ]
  where
    quote : (v : Bool) → c ≡ 34 → IsClean (escaped v (encode_utf8 c))
    quote true e = clean_reference true c 34 (codes "&quot;") e (omega arith) refl refl
    quote false e = clean_reference false c 34 (34 ∷ []) e (omega arith) refl refl

clean_characters : (v : Bool) (cs : List ℕ) → scalars cs ≡ true → list_all is_written cs ≡ true → IsClean (escaped v (encode_utf8_all cs))
clean_characters v [] s w = clean-nil
clean_characters v (c ∷ cs) s w =
    let p = and_parts (scalar c) (scalars cs) s in
    let q = and_parts (is_written c) (list_all is_written cs) w in
    subst IsClean (sym (flat_map-append (escaped_byte v) (encode_utf8 c) (encode_utf8_all cs)))
    (clean-append (escaped v (encode_utf8 c)) (escaped v (encode_utf8_all cs)) (clean_written v c p.0 q.0) (clean_characters v cs p.1 q.1))

-- ---- a text of such characters

written_characters : (bytes : List ℕ) (u : IsUtf8 bytes) → are_written bytes ≡ true → list_all is_written u.0 ≡ true
written_characters bytes u w = ap (list_all is_written) (sym (ap chars (sym u.1.1) ∙ chars-encodes u.0 u.1.0)) ∙ w

-- a text of characters of one byte each
ascii_of : (bytes : List ℕ) → list_all is_written_byte bytes ≡ true → list_all is_ascii_byte bytes ≡ true
ascii_of [] h = refl
ascii_of (b ∷ bytes) h = grind (arith, ascii_of bytes, and_parts, and_from, nat_tests)

characters_of : (bytes : List ℕ) → list_all is_written_byte bytes ≡ true → list_all is_written bytes ≡ true
characters_of [] h = refl
characters_of (b ∷ bytes) h = grind (arith, characters_of bytes, and_parts, and_from, nat_tests)

pub written_bytes : (bytes : List ℕ) → list_all is_written_byte bytes ≡ true → are_written bytes ≡ true
written_bytes bytes h = ap (list_all is_written) (chars-IsAscii bytes (ascii bytes (ascii_of bytes h))) ∙ characters_of bytes h

-- a hash before a text
one_hash : chars (codes "#") ≡ 35 ∷ []
unfolding chars
one_hash = refl

pub hash_utf8 : IsUtf8 (codes "#")
hash_utf8 = (clean-ascii (codes "#") refl).utf8

pub written_after_hash : (bytes : List ℕ) → are_written (codes "#" ++ bytes) ≡ are_written bytes
written_after_hash bytes = ap (list_all is_written) (chars-append (codes "#") bytes hash_utf8 ∙ ap (λ cs. cs ++ chars bytes) one_hash)

pub clean-escaped : (v : Bool) (bytes : List ℕ) → IsUtf8 bytes → are_written bytes ≡ true → IsClean (escaped v bytes)
clean-escaped v bytes u w = subst (λ x. IsClean (escaped v x)) u.1.1 (clean_characters v u.0 u.1.0 (written_characters bytes u w))

pub kept_text : (bytes : List ℕ) → IsUtf8 bytes → are_written bytes ≡ true → list_all is_kept bytes ≡ true
kept_text bytes u w = subst (λ x. list_all is_kept x ≡ true) u.1.1 (kept_characters u.0 (written_characters bytes u w))

-- a text that is written as it is
plain_characters : (cs : List ℕ) → list_all is_written cs ≡ true → list_all is_permitted cs ≡ true
plain_characters [] w = refl
plain_characters (c ∷ cs) w = grind (arith, plain_characters cs, and_parts, and_from, permitted)

pub clean-plain : (bytes : List ℕ) → IsUtf8 bytes → are_written bytes ≡ true → IsClean bytes
clean-plain bytes u w = record { utf8 = u; permitted = plain_characters (chars bytes) w }
