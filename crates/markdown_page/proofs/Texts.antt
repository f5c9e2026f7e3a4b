-- How what is written of a text is read, byte by byte.
use Rattle.std.proofs.Common.{◌≡◌, ◌≢◌, ◌≤◌, arith, ℕ, Bool, true, false, not, ◌&&◌, ◌||◌, List, [], ◌∷◌, ◌++◌, refl, sym, ap, ◌∙◌, subst, inl, inr, append-nil, append_assoc}
use Rattle.std.specs.Prelude.{codes, Option, Some, None, fold, ◌==◌, nat_lt, if◌then◌else◌}
use Rattle.std.specs.List.{list_all}
use Rattle.std.proofs.lemmas.Bool.{and_parts, ne_eqb, cases_eq, le-ltb}
use Rattle.std.proofs.Math.Bool.{and-true}
use Rattle.std.proofs.lemmas.List.Sums.{fold-append}
use Rattle.page_model.specs.Permitted.{is_permitted_byte}
use Rattle.markdown_page.specs.Bytes.{is_letter, is_word}
use Rattle.markdown_page.specs.Sheet.{Glyph}
use Rattle.markdown_page.specs.Kept.{plain, shown_byte}
use Rattle.markdown_page.specs.Exact.{escaped, is_end, is_escaped, mark_if, stand_for}
use Rattle.markdown_page.specs.Reader.{Ampersand, Bang, Before, Line, Mode, Other, Text, Underscore, Word, before_of, end_of_line, Inlines, is_control, next_byte, plain_glyph, text_byte}
use Rattle.markdown_page.proofs.Bools.{bool_cases, not_true, or_false, or_from, word_range}

-- ---- signs

-- what holds of each byte that has a meaning of its own
abbrev pub OfSigns : (ℕ → Type 0) → Type 0
OfSigns P = P 92 × P 96 × P 42 × P 91 × P 93 × P 60 × P 123 × P 35 × P 95 × P 38 × P 33 × P 9 × P 10

pub record IsPlain (b : ℕ) : Type 0 where
  pub no_backslash : b ≢ 92
  pub no_grave : b ≢ 96
  pub no_asterisk : b ≢ 42
  pub no_open : b ≢ 91
  pub no_close : b ≢ 93
  pub no_less : b ≢ 60
  pub no_brace : b ≢ 123
  pub no_number_sign : b ≢ 35
  pub no_underscore : b ≢ 95
  pub no_ampersand : b ≢ 38
  pub no_bang : b ≢ 33
  pub no_tab : b ≢ 9
  pub no_newline : b ≢ 10

one_sign : (P : ℕ → Type 0) (b c : ℕ) → P c → (b ≢ c → P b) → P b
one_sign P b c known other = elim (cases_eq b c) [ inl e ↦ subst P (sym e) known | inr n ↦ other n ]

pub by_signs : (P : ℕ → Type 0) → OfSigns P → ((b : ℕ) → IsPlain b → P b) → (b : ℕ) → P b
by_signs P known plain b =
    one_sign P b 92 known.0 (λ n0.
    one_sign P b 96 known.1 (λ n1.
    one_sign P b 42 known.2 (λ n2.
    one_sign P b 91 known.3 (λ n3.
    one_sign P b 93 known.4 (λ n4.
    one_sign P b 60 known.5 (λ n5.
    one_sign P b 123 known.6 (λ n6.
    one_sign P b 35 known.7 (λ n7.
    one_sign P b 95 known.8 (λ n8.
    one_sign P b 38 known.9 (λ n9.
    one_sign P b 33 known.10 (λ n10.
    one_sign P b 9 known.11 (λ n11.
    one_sign P b 10 known.12 (λ n12.
    plain b (record { no_backslash = n0; no_grave = n1; no_asterisk = n2; no_open = n3; no_close = n4; no_less = n5; no_brace = n6; no_number_sign = n7; no_underscore = n8; no_ampersand = n9; no_bang = n10; no_tab = n11; no_newline = n12 }))))))))))))))

-- a letter or a digit is not one of them
pub word_is_plain : (b : ℕ) → is_word b ≡ true → IsPlain b
word_is_plain b h = by_signs (λ c. is_word c ≡ true → IsPlain c) (λ e. absurd cc, λ e. absurd cc, λ e. absurd cc, λ e. absurd cc, λ e. absurd cc, λ e. absurd cc, λ e. absurd cc, λ e. absurd cc, λ e. absurd cc, λ e. absurd cc, λ e. absurd cc, λ e. absurd cc, λ e. absurd cc) (λ c p _. p) b h

-- ---- readings of a line

abbrev pub at : Option (List Glyph) → List Glyph → Mode → Option Line
at outside shown mode = Some (record { mode = mode; shown = shown; outside = outside })

abbrev pub run : Bool → Option Line → List ℕ → Option Line
run heading line bytes = fold (next_byte heading) line bytes

abbrev pub finish : Bool → Option Line → List ℕ → Option Inlines
finish heading line bytes = end_of_line (run heading line bytes)

abbrev pub is_bang : Before → Bool
is_bang Word = false
is_bang Bang = true
is_bang Other = false

module _ (heading : Bool) where
  pub run_both : (line : Option Line) (a b : List ℕ) → run heading line (a ++ b) ≡ run heading (run heading line a) b
  run_both line a b = fold-append (next_byte heading) line a b

  module _ (outside : Option (List Glyph)) where
    -- a text that leads from a reading to one in text that shows this, not after an exclamation mark
    pub record Shows (bytes : List ℕ) (from : Option Line) (shown : List Glyph) : Type 0 where
      pub after : Before
      pub calm : is_bang after ≡ false
      pub leads : run heading from bytes ≡ at outside shown (Text after)

    shows_from : {a b : List ℕ} {r s : Option Line} {shown : List Glyph} → run heading r a ≡ run heading s b → Shows b s shown → Shows a r shown
    shows_from e p = record { after = p.after; calm = p.calm; leads = e ∙ p.leads }

    shows_to : {a : List ℕ} {r : Option Line} {first shown : List Glyph} → first ≡ shown → Shows a r first → Shows a r shown
    shows_to e p = record { after = p.after; calm = p.calm; leads = p.leads ∙ ap (λ x. at outside x (Text p.after)) e }

    -- ---- one byte

    plain_escaped : (b : ℕ) → IsPlain b → (after : Bool) (text : List ℕ) → is_escaped heading after b text ≡ false
    plain_escaped b p after text = rw (ne_eqb b 92 p.no_backslash, ne_eqb b 96 p.no_grave, ne_eqb b 42 p.no_asterisk, ne_eqb b 91 p.no_open, ne_eqb b 93 p.no_close, ne_eqb b 60 p.no_less, ne_eqb b 35 p.no_number_sign, ne_eqb b 95 p.no_underscore, ne_eqb b 38 p.no_ampersand, ne_eqb b 33 p.no_bang) refl

    plain_shown : (b : ℕ) → IsPlain b → shown_byte b ≡ b
    plain_shown b p = rw (ne_eqb b 9 p.no_tab, ne_eqb b 10 p.no_newline) refl

    plain_stands : (b : ℕ) → IsPlain b → stand_for b ≡ b ∷ []
    plain_stands b p = rw (ne_eqb b 123 p.no_brace, ne_eqb b 9 p.no_tab, ne_eqb b 10 p.no_newline) refl

    no_control : (b : ℕ) → IsPlain b → is_permitted_byte b ≡ true → is_control b ≡ false
    no_control b p h =
        let may = not_true ((nat_lt b 32 && not (b == 9 || b == 10)) || b == 127) h in
        ap (λ (x : Bool). x || b == 127) (sym (and-true (nat_lt b 32))) ∙ (rw (ne_eqb b 9 p.no_tab, ne_eqb b 10 p.no_newline) at may)

    plain_read : (line : Line) (before : Before) (b : ℕ) → IsPlain b → text_byte heading line before b ≡ Some (record line { mode = Text (before_of b); shown = line.shown ++ plain_glyph b ∷ [] })
    plain_read line before b p = rw (ne_eqb b 92 p.no_backslash, ne_eqb b 96 p.no_grave, ne_eqb b 38 p.no_ampersand, ne_eqb b 60 p.no_less, ne_eqb b 91 p.no_open, ne_eqb b 93 p.no_close, ne_eqb b 95 p.no_underscore, ne_eqb b 42 p.no_asterisk, ne_eqb b 35 p.no_number_sign) refl

    pub plain_next : (shown : List Glyph) (before : Before) (b : ℕ) → IsPlain b → is_control b ≡ false → next_byte heading (at outside shown (Text before)) b ≡ at outside (shown ++ plain_glyph b ∷ []) (Text (before_of b))
    plain_next shown before b p h =
        ap (λ (x : Bool). if x then None else text_byte heading (record { mode = Text before; shown = shown; outside = outside }) before b) h
        ∙ plain_read (record { mode = Text before; shown = shown; outside = outside }) before b p

    word_before : (b : ℕ) → is_word b ≡ true → before_of b ≡ Word
    word_before b h = rw h refl

    before_calm : (b : ℕ) → IsPlain b → is_bang (before_of b) ≡ false
    before_calm b p =
        let e : (b == 33) ≡ false = ne_eqb b 33 p.no_bang in
        elim (bool_cases (is_word b)) [ inl w ↦ rw w refl | inr n ↦ rw (n, e) refl ]

    -- ---- a text

    -- what is read of a text, after what stands before it
    abbrev TextReads : List ℕ → Type 0
    TextReads text = (before : Before) (after : Bool) (shown : List Glyph) → (after ≡ true → before ≡ Word) → (is_end text ≡ true → is_bang before ≡ false)
        → Shows (escaped heading after text) (at outside shown (Text before)) (shown ++ plain text)

    -- a byte that is read as this one, and what follows it
    then_text : (text : List ℕ) (b : ℕ) (first : List ℕ) (before : Before) (follows : Bool) (after : Before) (shown : List Glyph) → TextReads text
        → ((more : List ℕ) → run heading (at outside shown (Text before)) (first ++ more) ≡ run heading (at outside (shown ++ plain (b ∷ [])) (Text after)) more)
        → (follows ≡ true → after ≡ Word) → (is_end text ≡ true → is_bang after ≡ false)
        → Shows (first ++ escaped heading follows text) (at outside shown (Text before)) (shown ++ plain (b ∷ text))
    then_text text b first before follows after shown reads e w calm =
        shows_from (e (escaped heading follows text)) (shows_to (append_assoc shown (plain (b ∷ [])) (plain text)) (reads after follows (shown ++ plain (b ∷ [])) w calm))

    -- each byte of it
    abbrev ByteReads : List ℕ → Before → Bool → List Glyph → ℕ → Type 0
    ByteReads text before after shown b = is_permitted_byte b ≡ true → TextReads text → (after ≡ true → before ≡ Word)
        → Shows (escaped heading after (b ∷ text)) (at outside shown (Text before)) (shown ++ plain (b ∷ text))

    bare_word : (shown : List Glyph) (c : ℕ) (more : List ℕ) → IsPlain c → is_word c ≡ true → is_control c ≡ false
        → run heading (at outside shown Underscore) (c ∷ more) ≡ run heading (at outside (shown ++ plain (95 ∷ [])) (Text Other)) (c ∷ more)
    bare_word shown c more p w free =
        let glyphs : List Glyph = plain_glyph 95 ∷ plain_glyph c ∷ [] in
        let one : next_byte heading (at outside shown Underscore) c ≡ at outside (shown ++ glyphs) (Text Word) = rw (free, w) refl in
        let two : next_byte heading (at outside (shown ++ plain (95 ∷ [])) (Text Other)) c ≡ at outside ((shown ++ plain_glyph 95 ∷ []) ++ plain_glyph c ∷ []) (Text (before_of c)) = plain_next (shown ++ plain (95 ∷ [])) Other c p free in
        ap (λ x. run heading x more) (one ∙ ap (λ x. at outside x (Text Word)) (sym (append_assoc shown (plain_glyph 95 ∷ []) (plain_glyph c ∷ []))) ∙ ap (λ x. at outside ((shown ++ plain_glyph 95 ∷ []) ++ plain_glyph c ∷ []) (Text x)) (sym (word_before c w)) ∙ sym two)

    pub word_control : (c : ℕ) → is_word c ≡ true → is_control c ≡ false
    word_control c h =
        let range = word_range c h in
        let low : 48 ≤ c = range.0 in
        let high : c ≤ 122 = range.1 in
        or_from (nat_lt c 32) (c == 127) (le-ltb c 32 (omega arith)) (ne_eqb c 127 (λ e. absurd (omega arith)))

    word_escaped : (c : ℕ) (text : List ℕ) → IsPlain c → escaped heading false (c ∷ text) ≡ c ∷ escaped heading (is_word c) text
    word_escaped c text p = ap (λ x. mark_if x ++ (stand_for c ++ escaped heading (is_word c) text)) (plain_escaped c p false text) ∙ ap (λ x. x ++ escaped heading (is_word c) text) (plain_stands c p)

    -- an underscore between letters
    bare_underscore : (c : ℕ) (text : List ℕ) (shown : List Glyph) → is_word c ≡ true → TextReads (c ∷ text)
        → Shows (95 ∷ escaped heading false (c ∷ text)) (at outside shown (Text Word)) (shown ++ plain (95 ∷ c ∷ text))
    bare_underscore c text shown w reads =
        let p : IsPlain c = word_is_plain c w in
        let e = word_escaped c text p in
        shows_from (ap (λ x. run heading (at outside shown Underscore) x) e ∙ bare_word shown c (escaped heading (is_word c) text) p w (word_control c w) ∙ ap (λ x. run heading (at outside (shown ++ plain (95 ∷ [])) (Text Other)) x) (sym e))
        (shows_to (append_assoc shown (plain (95 ∷ [])) (plain (c ∷ text))) (reads Other false (shown ++ plain (95 ∷ [])) (λ h. absurd cc) (λ h. refl)))

    abbrev mark_underscore : Bool → List ℕ → List ℕ
    mark_underscore plain text = mark_if ((not plain || false) || false) ++ (95 ∷ escaped heading false text)

    underscore_reads : (text : List ℕ) (before : Before) (after : Bool) (shown : List Glyph) → ByteReads text before after shown 95
    underscore_reads text before false shown h reads w = then_text text 95 (92 ∷ 95 ∷ []) before false Other shown reads (λ more. refl) (λ e. absurd cc) (λ e. refl)
    underscore_reads [] before true shown h reads w = then_text [] 95 (92 ∷ 95 ∷ []) before false Other shown reads (λ more. refl) (λ e. absurd cc) (λ e. refl)
    underscore_reads (c ∷ text) before true shown h reads w =
        elim (bool_cases (is_word c)) [
          | inl word ↦
              subst (λ x. Shows (mark_underscore x (c ∷ text)) (at outside shown (Text before)) (shown ++ plain (95 ∷ c ∷ text))) (sym word)
              (subst (λ x. Shows (95 ∷ escaped heading false (c ∷ text)) (at outside shown (Text x)) (shown ++ plain (95 ∷ c ∷ text))) (sym (w refl)) (bare_underscore c text shown word reads))
          | inr none ↦
              subst (λ x. Shows (mark_underscore x (c ∷ text)) (at outside shown (Text before)) (shown ++ plain (95 ∷ c ∷ text))) (sym none)
              (then_text (c ∷ text) 95 (92 ∷ 95 ∷ []) before false Other shown reads (λ more. refl) (λ e. absurd cc) (λ e. refl))
        ]

    -- an ampersand that begins no reference
    abbrev standing : (braced spaced : Bool) (c : ℕ) → List ℕ
    standing braced spaced c = if braced then codes "&#123;" else (if spaced then 32 else c) ∷ []

    after_ampersand : (marked braced spaced : Bool) (shown : List Glyph) (c : ℕ) (more : List ℕ) → (c == 35) ≡ false → is_letter c ≡ false
        → run heading (at outside shown Ampersand) (mark_if marked ++ (standing braced spaced c ++ more)) ≡ run heading (at outside (shown ++ plain (38 ∷ [])) (Text Other)) (mark_if marked ++ (standing braced spaced c ++ more))
    after_ampersand true braced spaced shown c more h g = refl
    after_ampersand false true spaced shown c more h g = refl
    after_ampersand false false true shown c more h g = refl
    after_ampersand false false false shown c more h g =
        let same : next_byte heading (at outside shown Ampersand) c ≡ next_byte heading (at outside (shown ++ plain (38 ∷ [])) (Text Other)) c = rw (h, g) refl in
        ap (λ x. run heading x more) same

    abbrev mark_ampersand : Bool → List ℕ → List ℕ
    mark_ampersand refers text = mark_if (refers || false) ++ (38 ∷ escaped heading false text)

    ampersand_reads : (text : List ℕ) (before : Before) (after : Bool) (shown : List Glyph) → ByteReads text before after shown 38
    ampersand_reads [] before after shown h reads w = then_text [] 38 (92 ∷ 38 ∷ []) before false Other shown reads (λ more. refl) (λ e. absurd cc) (λ e. refl)
    ampersand_reads (c ∷ text) before after shown h reads w =
        elim (bool_cases (c == 35 || is_letter c)) [
          | inl refers ↦
              subst (λ x. Shows (mark_ampersand x (c ∷ text)) (at outside shown (Text before)) (shown ++ plain (38 ∷ c ∷ text))) (sym refers)
              (then_text (c ∷ text) 38 (92 ∷ 38 ∷ []) before false Other shown reads (λ more. refl) (λ e. absurd cc) (λ e. refl))
          | inr none ↦
              let both = or_false (c == 35) (is_letter c) none in
              subst (λ x. Shows (mark_ampersand x (c ∷ text)) (at outside shown (Text before)) (shown ++ plain (38 ∷ c ∷ text))) (sym none)
              (shows_from (after_ampersand (is_escaped heading false c text) (c == 123) (c == 9 || c == 10) shown c (escaped heading (is_word c) text) both.0 both.1)
              (shows_to (append_assoc shown (plain (38 ∷ [])) (plain (c ∷ text))) (reads Other false (shown ++ plain (38 ∷ [])) (λ e. absurd cc) (λ e. refl))))
        ]

    bang_reads : (text : List ℕ) (before : Before) (after : Bool) (shown : List Glyph) → ByteReads text before after shown 33
    bang_reads [] before after shown h reads w = then_text [] 33 (92 ∷ 33 ∷ []) before false Other shown reads (λ more. refl) (λ e. absurd cc) (λ e. refl)
    bang_reads (c ∷ text) before after shown h reads w = then_text (c ∷ text) 33 (33 ∷ []) before false Bang shown reads (λ more. refl) (λ e. absurd cc) (λ e. absurd cc)

    plain_byte_reads : (text : List ℕ) (before : Before) (after : Bool) (shown : List Glyph) (b : ℕ) → IsPlain b → ByteReads text before after shown b
    plain_byte_reads text before after shown b p h reads w =
        let is = plain_escaped b p after text in
        let same = plain_shown b p in
        subst (λ x. Shows (mark_if x ++ (stand_for b ++ escaped heading (is_word b) text)) (at outside shown (Text before)) (shown ++ plain (b ∷ text))) (sym is)
        (then_text text b (stand_for b) before (is_word b) (before_of b) shown reads
        (λ more. ap (λ x. run heading (at outside shown (Text before)) (x ++ more)) (plain_stands b p) ∙ ap (λ x. run heading x more) (plain_next shown before b p (no_control b p h)) ∙ ap (λ x. run heading (at outside (shown ++ plain_glyph x ∷ []) (Text (before_of b))) more) (sym same))
        (word_before b) (λ _. before_calm b p))

-- the number sign, in a heading and in other lines
number_sign_reads : (heading : Bool) (outside : Option (List Glyph)) (text : List ℕ) (before : Before) (after : Bool) (shown : List Glyph) → ByteReads heading outside text before after shown 35
number_sign_reads true outside text before after shown h reads w = then_text true outside text 35 (92 ∷ 35 ∷ []) before false Other shown reads (λ more. refl) (λ e. absurd cc) (λ e. refl)
number_sign_reads false outside text before after shown h reads w = then_text false outside text 35 (35 ∷ []) before false Other shown reads (λ more. refl) (λ e. absurd cc) (λ e. refl)

module _ (heading : Bool) (outside : Option (List Glyph)) where
  sign_reads : (text : List ℕ) (before : Before) (after : Bool) (shown : List Glyph) → OfSigns (ByteReads heading outside text before after shown)
  sign_reads text before after shown = (
    λ h reads w. then_text heading outside text 92 (92 ∷ 92 ∷ []) before false Other shown reads (λ more. refl) (λ e. absurd cc) (λ e. refl),
    λ h reads w. then_text heading outside text 96 (92 ∷ 96 ∷ []) before false Other shown reads (λ more. refl) (λ e. absurd cc) (λ e. refl),
    λ h reads w. then_text heading outside text 42 (92 ∷ 42 ∷ []) before false Other shown reads (λ more. refl) (λ e. absurd cc) (λ e. refl),
    λ h reads w. then_text heading outside text 91 (92 ∷ 91 ∷ []) before false Other shown reads (λ more. refl) (λ e. absurd cc) (λ e. refl),
    λ h reads w. then_text heading outside text 93 (92 ∷ 93 ∷ []) before false Other shown reads (λ more. refl) (λ e. absurd cc) (λ e. refl),
    λ h reads w. then_text heading outside text 60 (92 ∷ 60 ∷ []) before false Other shown reads (λ more. refl) (λ e. absurd cc) (λ e. refl),
    λ h reads w. then_text heading outside text 123 (codes "&#123;") before false Other shown reads (λ more. refl) (λ e. absurd cc) (λ e. refl),
    number_sign_reads heading outside text before after shown,
    underscore_reads heading outside text before after shown,
    ampersand_reads heading outside text before after shown,
    bang_reads heading outside text before after shown,
    λ h reads w. then_text heading outside text 9 (32 ∷ []) before false Other shown reads (λ more. refl) (λ e. absurd cc) (λ e. refl),
    λ h reads w. then_text heading outside text 10 (32 ∷ []) before false Other shown reads (λ more. refl) (λ e. absurd cc) (λ e. refl),
  )

  pub text_reads : (text : List ℕ) → list_all is_permitted_byte text ≡ true → TextReads heading outside text
  text_reads [] h before follows shown w calm = record { after = before; calm = calm refl; leads = ap (λ x. at outside x (Text before)) (sym (append-nil shown)) }
  text_reads (b ∷ text) h before follows shown w calm =
      let parts = and_parts (is_permitted_byte b) (list_all is_permitted_byte text) h in
      by_signs (ByteReads heading outside text before follows shown) (sign_reads text before follows shown) (plain_byte_reads heading outside text before follows shown) b parts.0 (text_reads text parts.1) w
