-- White space around the content of a body.
use Rattle.std.proofs.Common.{◌≡◌, ◌≢◌, ℕ, true, false, List, [], ◌∷◌, ◌++◌, refl, sym, ap, ◌∙◌, subst, inl, inr, arith}
use Rattle.std.specs.Prelude.{Some}
use Rattle.std.specs.List.{list_all}
use Rattle.std.proofs.lemmas.Bool.{and_parts, and_from, cases_eq, ne_eqb}
use Rattle.std.proofs.lemmas.List.Folds.{list_all-append}
use Rattle.web_page.specs.Tree.{Nodes, none, text, element}
use Rattle.web_page.specs.Reader.{Draft, Content, elements_of, is_white, joined, reading, with_byte}
use Rattle.web_page.specs.Calls.{with_text, with_words}
use Rattle.web_page.specs.Exact.{escaped, escaped_byte}
use Rattle.web_page.proofs.Readings.{run, text_reads}
use Rattle.web_page.proofs.TextLaws.{at_front}
use Rattle.web_page.proofs.Texts.{IsClean, clean-ascii, is_ascii_byte}

-- what holds of each character that is white space
not_white : (b : ℕ) → b ≢ 9 → b ≢ 10 → b ≢ 12 → b ≢ 13 → b ≢ 32 → is_white b ≡ false
not_white b p q r s t = rw (ne_eqb b 9 p, ne_eqb b 10 q, ne_eqb b 12 r, ne_eqb b 13 s, ne_eqb b 32 t) refl

each_white : (P : ℕ → Type 0) → P 9 → P 10 → P 12 → P 13 → P 32 → (b : ℕ) → is_white b ≡ true → P b
each_white P p q r s t b h =
    elim (cases_eq b 9) [
      | inl e ↦ subst P (sym e) p
      | inr not_tab ↦ elim (cases_eq b 10) [
        | inl e ↦ subst P (sym e) q
        | inr not_newline ↦ elim (cases_eq b 12) [
          | inl e ↦ subst P (sym e) r
          | inr not_feed ↦ elim (cases_eq b 13) [
            | inl e ↦ subst P (sym e) s
            | inr not_return ↦ elim (cases_eq b 32) [
              | inl e ↦ subst P (sym e) t
              | inr not_blank ↦ absurd (other not_tab not_newline not_feed not_return not_blank)
            ]
          ]
        ]
      ]
    ]
  where
    other : b ≢ 9 → b ≢ 10 → b ≢ 12 → b ≢ 13 → b ≢ 32 → ⊥
    other a c d e f = let no : is_white b ≡ false = not_white b a c d e f in cc

are_ascii : (bytes : List ℕ) → list_all is_white bytes ≡ true → list_all is_ascii_byte bytes ≡ true
are_ascii [] h = refl
are_ascii (b ∷ bytes) h =
    let both = and_parts (is_white b) (list_all is_white bytes) h in
    and_from (is_ascii_byte b) (list_all is_ascii_byte bytes) (each_white (λ c. is_ascii_byte c ≡ true) refl refl refl refl refl b both.0) (are_ascii bytes both.1)

pub clean_white : (bytes : List ℕ) → list_all is_white bytes ≡ true → IsClean bytes
clean_white bytes h = clean-ascii bytes (are_ascii bytes h)

plain_white : (bytes : List ℕ) → list_all is_white bytes ≡ true → escaped false bytes ≡ bytes
plain_white [] h = refl
plain_white (b ∷ bytes) h =
    let both = and_parts (is_white b) (list_all is_white bytes) h in
    ap (λ x. x ++ escaped false bytes) (each_white (λ c. escaped_byte false c ≡ c ∷ []) refl refl refl refl refl b both.0) ∙ ap (λ x. b ∷ x) (plain_white bytes both.1)

pub white_reads : (draft : Draft) (bytes : List ℕ) → list_all is_white bytes ≡ true → run (reading Content (Some draft)) bytes ≡ reading Content (Some (with_text draft bytes))
white_reads draft bytes h = ap (run (reading Content (Some draft))) (sym (plain_white bytes h)) ∙ text_reads draft bytes

-- ---- it is nothing

one_more : (bytes : List ℕ) (b : ℕ) → is_white b ≡ true → list_all is_white (bytes ++ b ∷ []) ≡ list_all is_white bytes
one_more bytes b h = grind (arith, list_all-append is_white bytes (b ∷ []))

elements-with_byte : (nodes : Nodes) (b : ℕ) → is_white b ≡ true → elements_of (with_byte nodes b) ≡ elements_of nodes
elements-with_byte none b h = rw h refl
elements-with_byte (text bytes none) b h = rw (one_more bytes b h) refl
elements-with_byte (text bytes (text more rest)) b h = rw (elements-with_byte (text more rest) b h) refl
elements-with_byte (text bytes (element tag given content rest)) b h = rw (elements-with_byte (element tag given content rest) b h) refl
elements-with_byte (element tag given content rest) b h = rw (elements-with_byte rest b h) refl

pub elements-with_words : (nodes : Nodes) (bytes : List ℕ) → list_all is_white bytes ≡ true → elements_of (with_words nodes bytes) ≡ elements_of nodes
elements-with_words nodes [] h = refl
elements-with_words nodes (b ∷ bytes) h =
    let both = and_parts (is_white b) (list_all is_white bytes) h in
    elements-with_words (with_byte nodes b) bytes both.1 ∙ elements-with_byte nodes b both.0

pub elements-after : (bytes : List ℕ) (nodes : Nodes) → list_all is_white bytes ≡ true → elements_of (joined (with_words none bytes) nodes) ≡ elements_of nodes
elements-after [] nodes h = refl
elements-after (b ∷ bytes) nodes h = ap (λ x. elements_of (joined x nodes)) (at_front b bytes) ∙ rw h refl
