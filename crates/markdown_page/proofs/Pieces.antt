-- How links, the pieces of a line and the terms of an entry are read.
use Rattle.std.proofs.Common.{◌≡◌, ◌<◌, ◌/◌, ◌%◌, arith, ℕ, zero, suc, Bool, true, false, not, ◌&&◌, ◌||◌, List, [], ◌∷◌, ◌++◌, get_or, refl, sym, ap, ◌∙◌, subst, inl, inr, append-nil, append_assoc}
use Rattle.std.specs.Prelude.{Option, Some, None, codes, map, flat_map, ◌==◌, nat_lt, if◌then◌else◌}
use Rattle.std.specs.List.{list_all}
use Rattle.std.specs.Str.{chars}
use Rattle.std.proofs.lemmas.Bool.{and_parts, and_from, ne_eqb, eqb-true, le-ltb, ltb-true}
use Rattle.std.proofs.Math.Bool.{and-true}
use Rattle.std.proofs.lemmas.List.{map-append}
use Rattle.page_model.specs.Content.{words, literal, value, link, page, Line, TargetSaid, to_page, to_heading}
use Rattle.page_model.specs.Permitted.{are_permitted, is_permitted, is_permitted_byte, is_permitted_line}
use Rattle.markdown_page.specs.Bytes.{holds_definition, is_word}
use Rattle.markdown_page.specs.Sheet.{Glyph}
use Rattle.markdown_page.specs.Kept.{dash, encoded_byte, first_term, further_term, hex_digit, is_link, is_link_byte, is_unreserved, leading_to, line_bytes, line_shown, page_address, piece_shown, plain, shown_byte, spanned, target_address, terms_shown}
use Rattle.markdown_page.specs.Slugs.{slug}
use Rattle.markdown_page.specs.Exact.{auto_byte, auto_text, after_literal, escaped, first_span, further_span, is_escaped, leading_span, leading_text, link_text, mark_if, page_link, pieces_text, span_left, span_text, term_span, terms_text}
use Rattle.markdown_page.specs.Reader
use Rattle.markdown_page.specs.Reader.{Address, Auto, Before, Bang, Mode, Other, Text, Word, code_glyph, end_of_line, is_address_byte, is_control, is_web_address, next_byte, plain_glyph}
use Rattle.markdown_page.proofs.Bools.{all_both, bool_cases, not_false, not_true, or_cases, or_false, or_from}
use Rattle.markdown_page.proofs.Texts.{Shows, at, finish, is_bang, run, run_both, text_reads, word_control}
use Rattle.markdown_page.proofs.Spans.{IsGuarded, Reaches, is_solid, reaches_nothing, reaches_then, reaches_to, span_reaches}

pub bytes_of : (text : List ℕ) → are_permitted text ≡ true → list_all is_permitted_byte text ≡ true
bytes_of text h = (and_parts (list_all is_permitted_byte text) (list_all is_permitted (chars text)) h).0

-- ---- whatever follows

module _ (heading : Bool) (outside : Option (List Glyph)) where
  -- a text that leads from a reading to one that shows this
  pub record Ends (bytes : List ℕ) (from : Option Reader.Line) (shown : List Glyph) : Type 0 where
    pub after : Before
    pub calm : is_bang after ≡ false
    pub leads : (rest : List ℕ) → finish heading from (bytes ++ rest) ≡ finish heading (at outside shown (Text after)) rest

  pub shows_end : {bytes : List ℕ} {from : Option Reader.Line} {shown : List Glyph} → Shows heading outside bytes from shown → Ends bytes from shown
  shows_end {bytes} {from} p = record { after = p.after; calm = p.calm; leads = λ rest. ap end_of_line (run_both heading from bytes rest ∙ ap (λ x. run heading x rest) p.leads) }

  pub ends_reach : {bytes : List ℕ} {from : Option Reader.Line} {shown : List Glyph} → Ends bytes from shown → Reaches heading outside bytes from shown
  ends_reach p = record { after = p.after; calm = p.calm; leads = λ rest _. p.leads rest }

  pub ends_then : {a b : List ℕ} {from : Option Reader.Line} {first shown : List Glyph} (p : Ends a from first) → Reaches heading outside b (at outside first (Text p.after)) shown → Reaches heading outside (a ++ b) from shown
  ends_then {a} {b} {from} p q = record { after = q.after; calm = q.calm; leads = λ rest free. ap (finish heading from) (append_assoc a b rest) ∙ p.leads (b ++ rest) ∙ q.leads rest free }

  -- plain words
  pub words_end : (text : List ℕ) (before : Before) (shown : List Glyph) → list_all is_permitted_byte text ≡ true → is_bang before ≡ false
      → Ends (escaped heading false text) (at outside shown (Text before)) (shown ++ plain text)
  words_end text before shown h calm = shows_end (text_reads heading outside text h before false shown (λ e. absurd cc) (λ _. calm))

-- ---- texts that begin with another byte than a backquote

abbrev pub begins_free : List ℕ → Bool
begins_free [] = false
begins_free (b ∷ text) = not (b == 96)

guarded_by : (a b : List ℕ) → begins_free a ≡ true → IsGuarded false None (a ++ b)
guarded_by [] b h rest free = absurd cc
guarded_by (x ∷ a) b h rest free = h

no_grave_shown : (spaced : Bool) (b : ℕ) → (b == 96) ≡ false → ((if spaced then 32 else b) == 96) ≡ false
no_grave_shown true b h = refl
no_grave_shown false b h = h

unescaped : (heading after : Bool) (b : ℕ) (text : List ℕ) → is_escaped heading after b text ≡ false → (b == 96) ≡ false
unescaped heading after b text h = elim (bool_cases (b == 96)) [
  | inl e ↦ let is : b ≡ 96 = eqb-true b 96 e in let sign : is_escaped heading after 96 text ≡ false = subst (λ x. is_escaped heading after x text ≡ false) is h in absurd cc
  | inr e ↦ e
]

mark_free : (marked braced : Bool) (b : ℕ) (more : List ℕ) → (marked ≡ false → (b == 96) ≡ false) → begins_free (mark_if marked ++ ((if braced then codes "&#123;" else b ∷ []) ++ more)) ≡ true
mark_free true braced b more h = refl
mark_free false true b more h = refl
mark_free false false b more h = not_false (b == 96) (h refl)

pub escaped_free : (heading after : Bool) (b : ℕ) (text : List ℕ) → begins_free (escaped heading after (b ∷ text)) ≡ true
escaped_free heading after b text =
    mark_free (is_escaped heading after b text) (b == 123) (shown_byte b) (escaped heading (is_word b) text)
    (λ h. no_grave_shown (b == 9 || b == 10) b (unescaped heading after b text h))

-- ---- autolinks

link_byte_parts : (b : ℕ) → is_link_byte b ≡ true → (is_control b ≡ false) × (((b == 60) ≡ false) × ((b == 62) ≡ false)) × ((b == 32) ≡ false)
link_byte_parts b h =
    let parts = and_parts (nat_lt 32 b) (not (b == 60 || b == 62 || b == 123 || b == 127)) h in
    let more : 32 < b = ltb-true 32 b parts.0 in
    let none = or_false (b == 60 || b == 62 || b == 123) (b == 127) (not_true (b == 60 || b == 62 || b == 123 || b == 127) parts.1) in
    let angle = or_false (b == 60 || b == 62) (b == 123) none.0 in
    (or_from (nat_lt b 32) (b == 127) (le-ltb b 32 (omega arith)) none.1, or_false (b == 60) (b == 62) angle.0, ne_eqb b 32 (λ e. absurd (omega arith)))

module _ (shown : List Glyph) where
  auto_read : (address bytes : List ℕ) → list_all is_link_byte bytes ≡ true → run false (at None shown (Auto address)) (flat_map auto_byte bytes) ≡ at None shown (Auto (address ++ bytes))
  auto_read address [] h = ap (λ x. at None shown (Auto x)) (sym (append-nil address))
  auto_read address (b ∷ bytes) h =
      let both = and_parts (is_link_byte b) (list_all is_link_byte bytes) h in
      let parts = link_byte_parts b both.0 in
      let step : run false (at None shown (Auto address)) (auto_byte b) ≡ at None shown (Auto (address ++ b ∷ [])) =
      elim (bool_cases (b == 38)) [
        | inl e ↦ let is : b ≡ 38 = eqb-true b 38 e in rw is refl
        | inr e ↦ rw (e, parts.0, parts.1.1, e, parts.1.0, parts.2) refl
      ] in
      run_both false (at None shown (Auto address)) (auto_byte b) (flat_map auto_byte bytes)
      ∙ ap (λ x. run false x (flat_map auto_byte bytes)) step
      ∙ auto_read (address ++ b ∷ []) bytes both.1
      ∙ ap (λ x. at None shown (Auto x)) (append_assoc address (b ∷ []) bytes)

  plain_same : (bytes : List ℕ) → list_all is_link_byte bytes ≡ true → map plain_glyph bytes ≡ plain bytes
  plain_same [] h = refl
  plain_same (b ∷ bytes) h =
      let both = and_parts (is_link_byte b) (list_all is_link_byte bytes) h in
      let more : 32 < b = ltb-true 32 b (and_parts (nat_lt 32 b) (not (b == 60 || b == 62 || b == 123 || b == 127)) both.0).0 in
      let same : shown_byte b ≡ b = rw (ne_eqb b 9 (λ e. absurd (omega arith)), ne_eqb b 10 (λ e. absurd (omega arith))) refl in
      ap (λ x. x ∷ map plain_glyph bytes) (ap plain_glyph (sym same)) ∙ ap (λ xs. plain_glyph (shown_byte b) ∷ xs) (plain_same bytes both.1)

  auto_end : (address : List ℕ) (before : Before) → is_link address ≡ true → Ends false None (auto_text address) (at None shown (Text before)) (shown ++ leading_to address (plain address))
  auto_end address before h =
      let both = and_parts (is_web_address address) (list_all is_link_byte address) h in
      let web : is_web_address address ≡ true = both.0 in
      let last : run false (at None shown (Auto address)) (codes ">") ≡ at None (shown ++ leading_to address (plain address)) (Text Other) =
      rw web (ap (λ x. at None (shown ++ leading_to address x) (Text Other)) (plain_same address both.1)) in
      shows_end false None (record {
        after = Other;
        calm = refl;
        leads = run_both false (at None shown (Auto [])) (flat_map auto_byte address) (codes ">") ∙ ap (λ x. run false x (codes ">")) (auto_read [] address both.1) ∙ last;
      })

-- ---- links to pages

all_at : (p : ℕ → Bool) (xs : List ℕ) (n d : ℕ) → list_all p xs ≡ true → p d ≡ true → p (get_or xs n d) ≡ true
all_at p [] n d h e = e
all_at p (x ∷ xs) zero d h e = (and_parts (p x) (list_all p xs) h).0
all_at p (x ∷ xs) (suc n) d h e = all_at p xs n d (and_parts (p x) (list_all p xs) h).1 e

or_more : (x y z : Bool) → (x || y) ≡ true → (x || (z || y)) ≡ true
or_more true y z h = refl
or_more false true true h = refl
or_more false true false h = refl
or_more false false z h = absurd cc

unreserved_is : (b : ℕ) → is_unreserved b ≡ true → is_address_byte b ≡ true
unreserved_is b h = elim (bool_cases (is_word b)) [
  | inl w ↦ rw w refl
  | inr n ↦
      let other : (b == 45 || b == 46 || b == 95 || b == 126) ≡ true = rw n at h in
      elim (bool_cases (b == 35)) [
        | inl e ↦ let is : b ≡ 35 = eqb-true b 35 e in rw is refl
        | inr d ↦ elim (bool_cases (b == 37)) [ inl e ↦ let is : b ≡ 37 = eqb-true b 37 e in rw is refl | inr e ↦ rw (n, d, e) other ]
      ]
]

encoded_byte_is : (b : ℕ) → list_all is_address_byte (encoded_byte b) ≡ true
encoded_byte_is b = elim (bool_cases (is_unreserved b)) [
  | inl e ↦ rw e (and_from (is_address_byte b) true (unreserved_is b e) refl)
  | inr e ↦ rw e (and_from (is_address_byte (hex_digit (b / 16))) (is_address_byte (hex_digit (b % 16)) && true) (all_at is_address_byte (codes "0123456789ABCDEF") (b / 16) 48 refl refl) (and_from (is_address_byte (hex_digit (b % 16))) true (all_at is_address_byte (codes "0123456789ABCDEF") (b % 16) 48 refl refl) refl))
]

encoded_is : (name : List ℕ) → list_all is_address_byte (flat_map encoded_byte name) ≡ true
encoded_is [] = refl
encoded_is (b ∷ name) = all_both is_address_byte (encoded_byte b) (flat_map encoded_byte name) (encoded_byte_is b) (encoded_is name)

page_is : (name : List ℕ) → list_all is_address_byte (page_address name) ≡ true
page_is name = all_both is_address_byte (flat_map encoded_byte name) (codes ".md") (encoded_is name) refl

target_is : (target : TargetSaid) → list_all is_address_byte (target_address target) ≡ true
target_is (to_page name) = page_is name
target_is (to_heading title) = all_both is_address_byte (codes "#") (flat_map encoded_byte (slug title)) refl (encoded_is (slug title))

one_of : (P : ℕ → Type 0) (b c : ℕ) → P c → (b == c) ≡ true → P b
one_of P b c known e = subst P (sym (eqb-true b c e)) known

address_free : (b : ℕ) → is_address_byte b ≡ true → is_control b ≡ false
address_free b h =
    let P : ℕ → Type 0 = λ c. is_control c ≡ false in
    elim (or_cases (is_word b) (b == 35 || b == 37 || b == 45 || b == 46 || b == 95 || b == 126) h) [
      | inl w ↦ word_control false None b w
      | inr e ↦ elim (or_cases (b == 35 || b == 37 || b == 45 || b == 46 || b == 95) (b == 126) e) [
        | inr x ↦ one_of P b 126 refl x
        | inl y ↦ elim (or_cases (b == 35 || b == 37 || b == 45 || b == 46) (b == 95) y) [
          | inr x ↦ one_of P b 95 refl x
          | inl z ↦ elim (or_cases (b == 35 || b == 37 || b == 45) (b == 46) z) [
            | inr x ↦ one_of P b 46 refl x
            | inl v ↦ elim (or_cases (b == 35 || b == 37) (b == 45) v) [
              | inr x ↦ one_of P b 45 refl x
              | inl u ↦ elim (or_cases (b == 35) (b == 37) u) [ inl x ↦ one_of P b 35 refl x | inr x ↦ one_of P b 37 refl x ]
            ]
          ]
        ]
      ]
    ]

address_goes_on : (b : ℕ) → is_address_byte b ≡ true → (b == 41) ≡ false
address_goes_on b h = elim (bool_cases (b == 41)) [ inl e ↦ let is : is_address_byte 41 ≡ true = subst (λ x. is_address_byte x ≡ true) (eqb-true b 41 e) h in absurd cc | inr e ↦ e ]

module _ (outside : List Glyph) (shown : List Glyph) where
  address_read : (address bytes : List ℕ) → list_all is_address_byte bytes ≡ true → run false (at (Some outside) shown (Address address)) bytes ≡ at (Some outside) shown (Address (address ++ bytes))
  address_read address [] h = ap (λ x. at (Some outside) shown (Address x)) (sym (append-nil address))
  address_read address (b ∷ bytes) h =
      let both = and_parts (is_address_byte b) (list_all is_address_byte bytes) h in
      let step : next_byte false (at (Some outside) shown (Address address)) b ≡ at (Some outside) shown (Address (address ++ b ∷ [])) = rw (address_free b both.0, address_goes_on b both.0, both.0) refl in
      ap (λ x. run false x bytes) step ∙ address_read (address ++ b ∷ []) bytes both.1 ∙ ap (λ x. at (Some outside) shown (Address x)) (append_assoc address (b ∷ []) bytes)

  address_ends : (address rest : List ℕ) (after : Before) → list_all is_address_byte address ≡ true
      → finish false (at (Some outside) shown (Text after)) (codes "](" ++ (address ++ (codes ")" ++ rest))) ≡ finish false (at None (outside ++ leading_to address shown) (Text Other)) rest
  address_ends address rest after h =
      ap end_of_line (run_both false (at (Some outside) shown (Address [])) address (codes ")" ++ rest)
      ∙ ap (λ x. run false x (codes ")" ++ rest)) (address_read [] address h))

link_opens : (before : Before) (shown : List Glyph) (rest : List ℕ) → is_bang before ≡ false → finish false (at None shown (Text before)) (codes "[" ++ rest) ≡ finish false (at (Some shown) [] (Text Other)) rest
link_opens Word shown rest calm = refl
link_opens Bang shown rest calm = absurd cc
link_opens Other shown rest calm = refl

link_is : (text tail rest : List ℕ) (address : List ℕ) → (codes "[" ++ (text ++ (codes "](" ++ (address ++ codes ")")))) ++ rest ≡ codes "[" ++ (text ++ (codes "](" ++ (address ++ (codes ")" ++ rest))))
link_is text tail rest address = ap (λ x. 91 ∷ x) (append_assoc text (codes "](" ++ (address ++ codes ")")) rest ∙ ap (λ x. text ++ (codes "](" ++ x)) (append_assoc address (codes ")") rest))

pub link_ends : (address text : List ℕ) (before : Before) (shown glyphs : List Glyph) → list_all is_address_byte address ≡ true → is_bang before ≡ false → Reaches false (Some shown) text (at (Some shown) [] (Text Other)) glyphs
    → Ends false None (leading_text address text) (at None shown (Text before)) (shown ++ leading_to address glyphs)
link_ends address text before shown glyphs h calm p = record {
  after = Other;
  calm = refl;
  leads = λ rest.
      ap (finish false (at None shown (Text before))) (link_is text [] rest address)
      ∙ link_opens before shown (text ++ (codes "](" ++ (address ++ (codes ")" ++ rest)))) calm
      ∙ p.leads (codes "](" ++ (address ++ (codes ")" ++ rest))) refl
      ∙ address_ends shown glyphs address rest p.after h;
}

-- ---- pieces

-- how a text in a span is shown
pub spanned_is : (text : List ℕ) → map code_glyph (map shown_byte text) ≡ spanned text
spanned_is [] = refl
spanned_is (b ∷ text) = ap (λ x. code_glyph (shown_byte b) ∷ x) (spanned_is text)

solid_byte : (b : ℕ) → is_permitted_byte b ≡ true → is_solid (shown_byte b) ≡ true
solid_byte b h =
    let may : ((nat_lt b 32 && not (b == 9 || b == 10)) || b == 127) ≡ false = not_true ((nat_lt b 32 && not (b == 9 || b == 10)) || b == 127) h in
    elim (bool_cases (b == 9 || b == 10)) [
      | inl e ↦ rw e refl
      | inr e ↦ rw e (not_false (is_control b) (ap (λ (x : Bool). x || b == 127) (sym (and-true (nat_lt b 32))) ∙ (rw e at may)))
    ]

pub solid_text : (text : List ℕ) → list_all is_permitted_byte text ≡ true → list_all is_solid (map shown_byte text) ≡ true
solid_text [] h = refl
solid_text (b ∷ text) h =
    let parts = and_parts (is_permitted_byte b) (list_all is_permitted_byte text) h in
    and_from (is_solid (shown_byte b)) (list_all is_solid (map shown_byte text)) (solid_byte b parts.0) (solid_text text parts.1)

-- what a line reaches from where text may stand
abbrev pub LineReaches : List ℕ → List Glyph → Type 0
LineReaches bytes glyphs = (before : Before) (shown : List Glyph) → is_bang before ≡ false → Reaches false None bytes (at None shown (Text before)) (shown ++ glyphs)

abbrev LineEnds : List ℕ → List Glyph → Type 0
LineEnds bytes glyphs = (before : Before) (shown : List Glyph) → is_bang before ≡ false → Ends false None bytes (at None shown (Text before)) (shown ++ glyphs)

then_reaches : (a b : List ℕ) (g h : List Glyph) → LineEnds a g → LineReaches b h → LineReaches (a ++ b) (g ++ h)
then_reaches a b g h p q before shown calm =
    let first = p before shown calm in
    ends_then false None first (reaches_to false None (append_assoc shown g h) (q first.after (shown ++ g) first.calm))

-- a span, and a text that begins with another byte than a backquote
span_then : (span a : List ℕ) (glyphs : List Glyph) → list_all is_solid span ≡ true → IsGuarded false None a → LineReaches a glyphs → LineReaches (span_text span ++ a) (map code_glyph span ++ glyphs)
span_then span a glyphs solid guarded p before shown calm =
    let first = span_reaches false None span before shown calm solid refl in
    reaches_then false None guarded first (reaches_to false None (append_assoc shown (map code_glyph span) glyphs) (p first.after (shown ++ map code_glyph span) first.calm))

-- a piece that is not a literal, after a span and before others
piece_then : (span written more : List ℕ) (g h : List Glyph) → list_all is_solid span ≡ true → begins_free written ≡ true → LineEnds written g → LineReaches more h
    → LineReaches ((span_text span ++ written) ++ more) (map code_glyph span ++ (g ++ h))
piece_then span written more g h solid free p q before shown calm =
    subst (λ x. Reaches false None x (at None shown (Text before)) (shown ++ (map code_glyph span ++ (g ++ h)))) (sym (append_assoc (span_text span) written more))
    (span_then span (written ++ more) (g ++ h) solid (guarded_by written more free) (then_reaches written more g h p q) before shown calm)

pub link_written : (linked : Bool) (b : ℕ) (text : List ℕ) → begins_free (if linked then auto_text (b ∷ text) else escaped false false (b ∷ text)) ≡ true
link_written true b text = refl
link_written false b text = escaped_free false false b text

link_piece : (text : List ℕ) → list_all is_permitted_byte text ≡ true → LineEnds (link_text text) (piece_shown (link text))
link_piece text h before shown calm = elim (bool_cases (is_link text)) [
  | inl e ↦ rw e (auto_end shown text before e)
  | inr e ↦ rw e (words_end false None text before shown h calm)
]

page_piece : (name : List ℕ) → list_all is_permitted_byte name ≡ true → LineEnds (page_link name) (piece_shown (page name))
page_piece name h before shown calm = link_ends (page_address name) (escaped false false name) before shown (plain name) (page_is name) calm (ends_reach false (Some shown) (words_end false (Some shown) name Other [] h refl))

abbrev PiecesReach : List ℕ → Line → Type 0
PiecesReach span line = LineReaches (pieces_text span line) (map code_glyph span ++ line_shown line)

-- a text without a style
plain_then : (span text : List ℕ) (line : Line) → list_all is_solid span ≡ true → list_all is_permitted_byte text ≡ true → ((left : List ℕ) → list_all is_solid left ≡ true → PiecesReach left line)
    → LineReaches (after_literal span text (escaped false false text) ++ pieces_text (span_left span text) line) (map code_glyph span ++ (plain text ++ line_shown line))
plain_then span [] line solid h later = later span solid
plain_then span (b ∷ text) line solid h later = piece_then span (escaped false false (b ∷ text)) (pieces_text [] line) (plain (b ∷ text)) (line_shown line) solid (escaped_free false false b text) (λ before shown calm. words_end false None (b ∷ text) before shown h calm) (later [] refl)

link_then : (span text : List ℕ) (line : Line) → list_all is_solid span ≡ true → list_all is_permitted_byte text ≡ true → ((left : List ℕ) → list_all is_solid left ≡ true → PiecesReach left line)
    → LineReaches (after_literal span text (link_text text) ++ pieces_text (span_left span text) line) (map code_glyph span ++ (piece_shown (link text) ++ line_shown line))
link_then span [] line solid h later = later span solid
link_then span (b ∷ text) line solid h later = piece_then span (link_text (b ∷ text)) (pieces_text [] line) (piece_shown (link (b ∷ text))) (line_shown line) solid (link_written (is_link (b ∷ text)) b text) (link_piece (b ∷ text) h) (later [] refl)

page_then : (span name : List ℕ) (line : Line) → list_all is_solid span ≡ true → list_all is_permitted_byte name ≡ true → ((left : List ℕ) → list_all is_solid left ≡ true → PiecesReach left line)
    → LineReaches (after_literal span name (page_link name) ++ pieces_text (span_left span name) line) (map code_glyph span ++ (piece_shown (page name) ++ line_shown line))
page_then span [] line solid h later = later span solid
page_then span (b ∷ name) line solid h later = piece_then span (page_link (b ∷ name)) (pieces_text [] line) (piece_shown (page (b ∷ name))) (line_shown line) solid refl (page_piece (b ∷ name) h) (later [] refl)

pub more_span : (span text : List ℕ) (glyphs : List Glyph) → map code_glyph (span ++ map shown_byte text) ++ glyphs ≡ map code_glyph span ++ (spanned text ++ glyphs)
more_span span text glyphs =
    ap (λ x. x ++ glyphs) (map-append code_glyph span (map shown_byte text) ∙ ap (λ x. map code_glyph span ++ x) (spanned_is text))
    ∙ append_assoc (map code_glyph span) (spanned text) glyphs

pub pieces_reach : (line : Line) (span : List ℕ) → list_all is_solid span ≡ true → is_permitted_line line ≡ true → PiecesReach span line
pieces_reach [] span solid h = λ before shown calm. reaches_to false None (ap (λ x. shown ++ x) (sym (append-nil (map code_glyph span)))) (span_reaches false None span before shown calm solid refl)
pieces_reach (words text ∷ line) span solid h =
    let parts = and_parts (are_permitted text) (is_permitted_line line) h in
    plain_then span text line solid (bytes_of text parts.0) (λ left s. pieces_reach line left s parts.1)
pieces_reach (value text ∷ line) span solid h =
    let parts = and_parts (are_permitted text) (is_permitted_line line) h in
    plain_then span text line solid (bytes_of text parts.0) (λ left s. pieces_reach line left s parts.1)
pieces_reach (link text ∷ line) span solid h =
    let parts = and_parts (are_permitted text) (is_permitted_line line) h in
    link_then span text line solid (bytes_of text parts.0) (λ left s. pieces_reach line left s parts.1)
pieces_reach (page name ∷ line) span solid h =
    let parts = and_parts (are_permitted name) (is_permitted_line line) h in
    page_then span name line solid (bytes_of name parts.0) (λ left s. pieces_reach line left s parts.1)
pieces_reach (literal text ∷ line) span solid h =
    let parts = and_parts (are_permitted text) (is_permitted_line line) h in
    λ before shown calm. reaches_to false None (ap (λ x. shown ++ x) (more_span span text (line_shown line)))
    (pieces_reach line (span ++ map shown_byte text) (all_both is_solid span (map shown_byte text) solid (solid_text text (bytes_of text parts.0))) parts.1 before shown calm)

-- ---- terms

pub line_permitted : (line : Line) → is_permitted_line line ≡ true → list_all is_permitted_byte (line_bytes line) ≡ true
line_permitted [] h = refl
line_permitted (words text ∷ line) h = let parts = and_parts (are_permitted text) (is_permitted_line line) h in all_both is_permitted_byte text (line_bytes line) (bytes_of text parts.0) (line_permitted line parts.1)
line_permitted (literal text ∷ line) h = let parts = and_parts (are_permitted text) (is_permitted_line line) h in all_both is_permitted_byte text (line_bytes line) (bytes_of text parts.0) (line_permitted line parts.1)
line_permitted (value text ∷ line) h = let parts = and_parts (are_permitted text) (is_permitted_line line) h in all_both is_permitted_byte text (line_bytes line) (bytes_of text parts.0) (line_permitted line parts.1)
line_permitted (link text ∷ line) h = let parts = and_parts (are_permitted text) (is_permitted_line line) h in all_both is_permitted_byte text (line_bytes line) (bytes_of text parts.0) (line_permitted line parts.1)
line_permitted (page text ∷ line) h = let parts = and_parts (are_permitted text) (is_permitted_line line) h in all_both is_permitted_byte text (line_bytes line) (bytes_of text parts.0) (line_permitted line parts.1)

-- a span by itself
span_alone : (text : List ℕ) → list_all is_permitted_byte text ≡ true → LineReaches (span_text (map shown_byte text)) (spanned text)
span_alone text h before shown calm = reaches_to false None (ap (λ x. shown ++ x) (spanned_is text)) (span_reaches false None (map shown_byte text) before shown calm (solid_text text h) refl)

pub term_reaches : (term : Line) → is_permitted_line term ≡ true → LineReaches (term_span term) (spanned (line_bytes term))
term_reaches term h = span_alone (line_bytes term) (line_permitted term h)

-- a byte is shown as this one where it is this one
shown_same : (b k : ℕ) → (32 == k) ≡ false → (9 == k) ≡ false → (10 == k) ≡ false → (shown_byte b == k) ≡ (b == k)
shown_same b k blank tab line = elim (bool_cases (b == 9 || b == 10)) [
  | inl e ↦ rw e (elim (or_cases (b == 9) (b == 10) e) [ inl x ↦ let is : b ≡ 9 = eqb-true b 9 x in blank ∙ sym tab ∙ ap (λ x. x == k) (sym is) | inr x ↦ let is : b ≡ 10 = eqb-true b 10 x in blank ∙ sym line ∙ ap (λ x. x == k) (sym is) ])
  | inr e ↦ rw e refl
]

pub shown_definition : (text : List ℕ) → holds_definition (map shown_byte text) ≡ holds_definition text
shown_definition [] = refl
shown_definition (b ∷ []) = refl
shown_definition (b ∷ c ∷ text) = ap (λ (x : Bool). x || holds_definition (map shown_byte (c ∷ text))) (ap (λ (x : Bool). x && shown_byte c == 58) (shown_same b 93 refl refl refl) ∙ ap (λ (x : Bool). b == 93 && x) (shown_same c 58 refl refl refl)) ∙ ap (λ (x : Bool). (b == 93 && c == 58) || x) (shown_definition (c ∷ text))

leading_reaches : (target : TargetSaid) (text : List ℕ) → list_all is_permitted_byte text ≡ true → LineReaches (leading_span (target_address target) text) (first_term (Some target) text)
leading_reaches target [] h before shown calm = reaches_to false None (sym (append-nil shown)) (reaches_nothing false None before calm)
leading_reaches target (b ∷ text) h before shown calm = elim (bool_cases (holds_definition (b ∷ text))) [
  | inl e ↦ rw e (span_alone (b ∷ text) h before shown calm)
  | inr e ↦ rw e (ends_reach false None (link_ends (target_address target) (span_text (map shown_byte (b ∷ text))) before shown (spanned (b ∷ text)) (target_is target) calm
      (reaches_to false (Some shown) (spanned_is (b ∷ text)) (span_reaches false (Some shown) (map shown_byte (b ∷ text)) Other [] refl (solid_text (b ∷ text) h) (shown_definition (b ∷ text) ∙ e)))))
]

first_reaches : (target : Option TargetSaid) (term : Line) → is_permitted_line term ≡ true → LineReaches (first_span target term) (first_term target (line_bytes term))
first_reaches None term h = term_reaches term h
first_reaches (Some target) term h = leading_reaches target (line_bytes term) (line_permitted term h)

comma_ends : LineEnds (codes ", ") (plain (codes ", "))
comma_ends before shown calm = words_end false None (codes ", ") before shown refl calm

pub dash_ends : LineEnds dash (plain dash)
dash_ends before shown calm = words_end false None dash before shown refl calm

further_guarded : (terms : List Line) → IsGuarded false None (flat_map further_span terms)
further_guarded [] rest free = free
further_guarded (term ∷ terms) rest free = refl

further_reach : (terms : List Line) → list_all is_permitted_line terms ≡ true → LineReaches (flat_map further_span terms) (flat_map further_term terms)
further_reach [] h before shown calm = reaches_to false None (sym (append-nil shown)) (reaches_nothing false None before calm)
further_reach (term ∷ terms) h before shown calm =
    let parts = and_parts (is_permitted_line term) (list_all is_permitted_line terms) h in
    let span = then_reaches (codes ", ") (term_span term) (plain (codes ", ")) (spanned (line_bytes term)) comma_ends (term_reaches term parts.0) before shown calm in
    reaches_then false None (further_guarded terms) span
    (reaches_to false None (append_assoc shown (further_term term) (flat_map further_term terms)) (further_reach terms parts.1 span.after (shown ++ further_term term) span.calm))

pub terms_reach : (name : Option TargetSaid) (terms : List Line) → list_all is_permitted_line terms ≡ true → LineReaches (terms_text name terms) (terms_shown name terms)
terms_reach name [] h before shown calm = reaches_to false None (sym (append-nil shown)) (reaches_nothing false None before calm)
terms_reach name (term ∷ terms) h before shown calm =
    let parts = and_parts (is_permitted_line term) (list_all is_permitted_line terms) h in
    let first = first_reaches name term parts.0 before shown calm in
    reaches_then false None (further_guarded terms) first
    (reaches_to false None (append_assoc shown (first_term name (line_bytes term)) (flat_map further_term terms)) (further_reach terms parts.1 first.after (shown ++ first_term name (line_bytes term)) first.calm))

-- terms, a dash and a line
pub dashed_reaches : (terms line : List ℕ) (g h : List Glyph) → LineReaches terms g → LineReaches line h → LineReaches (terms ++ (dash ++ line)) (g ++ (plain dash ++ h))
dashed_reaches terms line g h p q before shown calm =
    let first = p before shown calm in
    reaches_then false None (λ rest free. refl) first
    (reaches_to false None (append_assoc shown g (plain dash ++ h)) (then_reaches dash line (plain dash) h dash_ends q first.after (shown ++ g) first.calm))
