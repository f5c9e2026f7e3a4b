-- How code spans are read: the backquotes that begin one, its text, and those that end it.
use Rattle.std.proofs.Common.{◌≡◌, arith, ℕ, zero, suc, ◌+◌, Bool, true, false, not, ◌&&◌, ◌||◌, List, [], ◌∷◌, ◌++◌, refl, sym, ap, ◌∙◌, subst, inl, inr, append-nil, append_assoc}
use Rattle.std.specs.Prelude.{Option, Some, None, map, ◌==◌, if◌then◌else◌}
use Rattle.std.specs.List.{list_all}
use Rattle.std.proofs.lemmas.Bool.{and_parts, ne_eqb, eqb-true, eq-eqb}
use Rattle.std.proofs.lemmas.List.Folds.{list_all-append}
use Rattle.markdown_page.specs.Bytes.{graves, has_run, holds_definition, is_blank}
use Rattle.markdown_page.specs.Sheet.{Glyph}
use Rattle.markdown_page.specs.Exact.{is_edge, padding, span_text, spare_run}
use Rattle.markdown_page.specs.Reader.{Before, Line, Opening, Other, Span, Text, but_last, code_glyph, end_of_line, is_control, is_within_link, last_or, next_byte, unpadded}
use Rattle.markdown_page.proofs.Bools.{all_both, and_right, bool_cases, not_true, or_false}
use Rattle.markdown_page.proofs.Runs.{is_spare}
use Rattle.markdown_page.proofs.Texts.{Shows, at, finish, is_bang, run, run_both}

abbrev pub is_solid : ℕ → Bool
is_solid b = not (is_control b)

-- ---- the text between them

-- whether a text, after that many backquotes, ends with another byte
abbrev pub open_end : ℕ → List ℕ → Bool
open_end zero [] = true
open_end (suc run) [] = false
open_end run (b ∷ text) = if b == 96 then open_end (suc run) text else open_end 0 text

ends_open : (run b : ℕ) (text : List ℕ) → (last_or b text == 96) ≡ false → ((b == 96) ≡ false → run ≡ 0) → open_end run text ≡ true
ends_open zero b [] h e = refl
ends_open (suc run) b [] h e = let none : suc run ≡ 0 = e h in absurd (omega arith)
ends_open run b (c ∷ text) h e =
    elim (bool_cases (c == 96)) [
      | inl is ↦ rw is (ends_open (suc run) c text h (λ other. absurd cc))
      | inr other ↦ rw other (ends_open 0 c text h (λ _. refl))
    ]

graves_after : (n : ℕ) (text : List ℕ) → graves n ++ 96 ∷ text ≡ 96 ∷ (graves n ++ text)
graves_after zero text = refl
graves_after (suc n) text = ap (λ x. 96 ∷ x) (graves_after n text)

-- a text followed by a blank
has_run_blank : (n run : ℕ) (text : List ℕ) → has_run (suc n) run (text ++ 32 ∷ []) ≡ has_run (suc n) run text
has_run_blank n run [] = elim (bool_cases (run == suc n)) [ inl e ↦ rw e refl | inr e ↦ rw (e, ne_eqb 0 (suc n) (λ h. absurd (omega arith))) refl ]
has_run_blank n run (b ∷ text) = elim (bool_cases (b == 96)) [ inl e ↦ rw e (has_run_blank n (suc run) text) | inr e ↦ rw e (ap (λ (x : Bool). run == suc n || x) (has_run_blank n 0 text)) ]

open_blank : (run : ℕ) (text : List ℕ) → open_end run (text ++ 32 ∷ []) ≡ true
open_blank run [] = refl
open_blank run (b ∷ text) = elim (bool_cases (b == 96)) [ inl e ↦ rw e (open_blank (suc run) text) | inr e ↦ rw e (open_blank 0 text) ]

last_blank : (b : ℕ) (text : List ℕ) → last_or b (text ++ 32 ∷ []) ≡ 32
last_blank b [] = refl
last_blank b (c ∷ text) = last_blank c text

but_last_blank : (text : List ℕ) → but_last (text ++ 32 ∷ []) ≡ text
but_last_blank [] = refl
but_last_blank (b ∷ []) = refl
but_last_blank (b ∷ c ∷ text) = ap (λ x. b ∷ x) (but_last_blank (c ∷ text))

last_all : (b : ℕ) (text : List ℕ) → list_all is_blank (b ∷ text) ≡ true → (last_or b text == 32) ≡ true
last_all b [] h = (and_parts (b == 32) true h).0
last_all b (c ∷ text) h = last_all c text (and_parts (b == 32) (list_all is_blank (c ∷ text)) h).1

no_edge : (b : ℕ) → is_edge b ≡ false → ((b == 32) ≡ false) × ((b == 96) ≡ false)
no_edge b h = or_false (b == 32) (b == 96) h

blank_no_grave : (b : ℕ) → (b == 32) ≡ true → (b == 96) ≡ false
blank_no_grave b h = let e : b ≡ 32 = eqb-true b 32 h in rw e refl

-- what stands between the backquotes, and is read as this text
pub record Inner (n : ℕ) (text : List ℕ) : Type 0 where
  pub first : ℕ
  pub more : List ℕ
  pub is : padding text ++ (text ++ padding text) ≡ first ∷ more
  pub no_grave : (first == 96) ≡ false
  pub spare : has_run (suc n) 0 more ≡ false
  pub ends : open_end 0 more ≡ true
  pub shows : unpadded (first ∷ more) ≡ text
  pub solid : list_all is_solid (first ∷ more) ≡ true

-- how a text is padded, by whether it is
abbrev padded : Bool → List ℕ → List ℕ
padded true text = 32 ∷ (text ++ 32 ∷ [])
padded false text = text ++ []

padded_is : (wanted : Bool) (text : List ℕ) → (if wanted then 32 ∷ [] else []) ++ (text ++ (if wanted then 32 ∷ [] else [])) ≡ padded wanted text
padded_is true text = refl
padded_is false text = refl

with_blanks : (n b : ℕ) (text : List ℕ) → has_run (suc n) 0 (b ∷ text) ≡ false → list_all is_solid (b ∷ text) ≡ true → list_all is_blank (b ∷ text) ≡ false → padding (b ∷ text) ≡ 32 ∷ [] → Inner n (b ∷ text)
with_blanks n b text h solid none pad =
    let whole : List ℕ = b ∷ text in
    let all : list_all is_blank (32 ∷ (whole ++ 32 ∷ [])) ≡ false = list_all-append is_blank whole (32 ∷ []) ∙ ap (λ (x : Bool). x && true) none in
    record {
      first = 32;
      more = whole ++ 32 ∷ [];
      is = ap (λ x. x ++ (whole ++ x)) pad;
      no_grave = refl;
      spare = has_run_blank n 0 whole ∙ h;
      ends = open_blank 0 whole;
      shows = rw (last_blank b text, all) (but_last_blank whole);
      solid = all_both is_solid whole (32 ∷ []) solid refl;
    }

bare : (n b : ℕ) (text : List ℕ) → has_run (suc n) 0 (b ∷ text) ≡ false → list_all is_solid (b ∷ text) ≡ true → padding (b ∷ text) ≡ [] → (b == 96) ≡ false → (last_or b text == 96) ≡ false → unpadded (b ∷ text) ≡ b ∷ text → Inner n (b ∷ text)
bare n b text h solid pad first last same =
    record {
      first = b;
      more = text;
      is = ap (λ x. x ++ (b ∷ text ++ x)) pad ∙ append-nil (b ∷ text);
      no_grave = first;
      spare = (or_false (0 == suc n) (has_run (suc n) 0 text) (rw first at h)).1;
      ends = ends_open 0 b text last (λ _. refl);
      shows = same;
      solid = solid;
    }

pub inner : (n b : ℕ) (text : List ℕ) → has_run (suc n) 0 (b ∷ text) ≡ false → list_all is_solid (b ∷ text) ≡ true → Inner n (b ∷ text)
inner n b text h solid =
    elim (bool_cases (list_all is_blank (b ∷ text))) [
      | inl all ↦
          let first : (b == 32) ≡ true = (and_parts (b == 32) (list_all is_blank text) all).0 in
          bare n b text h solid (rw (all, and_right (is_edge b || is_edge (last_or b text)) false refl) refl) (blank_no_grave b first) (blank_no_grave (last_or b text) (last_all b text all))
          (rw (all, and_right (last_or b text == 32) false refl, and_right (b == 32) false refl) refl)
      | inr none ↦
          elim (bool_cases (is_edge b || is_edge (last_or b text))) [
            | inl edge ↦ with_blanks n b text h solid none (rw (edge, none) refl)
            | inr inside ↦
                let both = or_false (is_edge b) (is_edge (last_or b text)) inside in
                let first = no_edge b both.0 in
                let last = no_edge (last_or b text) both.1 in
                bare n b text h solid (rw inside refl) first.1 last.1 (rw first.0 refl)
          ]
    ]

-- ---- readings

abbrev pub no_grave_first : List ℕ → Bool
no_grave_first [] = true
no_grave_first (b ∷ text) = not (b == 96)

module _ (heading : Bool) (outside : Option (List Glyph)) where
  -- A text that leads from a reading to one that shows this, where no backquote follows it.
  pub record Reaches (bytes : List ℕ) (from : Option Line) (shown : List Glyph) : Type 0 where
    pub after : Before
    pub calm : is_bang after ≡ false
    pub leads : (rest : List ℕ) → no_grave_first rest ≡ true → finish heading from (bytes ++ rest) ≡ finish heading (at outside shown (Text after)) rest

  pub shows_reach : {bytes : List ℕ} {from : Option Line} {shown : List Glyph} → Shows heading outside bytes from shown → Reaches bytes from shown
  shows_reach {bytes} {from} p = record { after = p.after; calm = p.calm; leads = λ rest _. ap end_of_line (run_both heading from bytes rest ∙ ap (λ x. run heading x rest) p.leads) }

  pub reaches_nothing : {shown : List Glyph} (before : Before) → is_bang before ≡ false → Reaches [] (at outside shown (Text before)) shown
  reaches_nothing before calm = record { after = before; calm = calm; leads = λ rest _. refl }

  pub reaches_to : {bytes : List ℕ} {from : Option Line} {first shown : List Glyph} → first ≡ shown → Reaches bytes from first → Reaches bytes from shown
  reaches_to e p = record { after = p.after; calm = p.calm; leads = λ rest free_end. p.leads rest free_end ∙ ap (λ x. finish heading (at outside x (Text p.after)) rest) e }

  -- a text that begins with no backquote, whatever follows it
  abbrev pub IsGuarded : List ℕ → Type 0
  IsGuarded bytes = (rest : List ℕ) → no_grave_first rest ≡ true → no_grave_first (bytes ++ rest) ≡ true

  pub reaches_then : {a b : List ℕ} {from : Option Line} {first shown : List Glyph} → IsGuarded b → (p : Reaches a from first) → Reaches b (at outside first (Text p.after)) shown → Reaches (a ++ b) from shown
  reaches_then {a} {b} {from} guarded p q = record { after = q.after; calm = q.calm; leads = λ rest free_end. ap (finish heading from) (append_assoc a b rest) ∙ p.leads (b ++ rest) (guarded rest free_end) ∙ q.leads rest free_end }

  -- ---- spans

  more_graves : (m k n : ℕ) (shown : List Glyph) → m + k ≡ n → run heading (at outside shown (Opening k)) (graves m) ≡ at outside shown (Opening n)
  more_graves zero k n shown h = ap (λ x. at outside shown (Opening x)) (omega arith)
  more_graves (suc m) k n shown h = more_graves m (suc k) n shown (omega arith)

  last_graves : (m k n : ℕ) (count : ℕ) (text : List ℕ) (shown : List Glyph) → m + k ≡ n → run heading (at outside shown (Span count text k)) (graves m) ≡ at outside shown (Span count text n)
  last_graves zero k n count text shown h = ap (λ x. at outside shown (Span count text x)) (omega arith)
  last_graves (suc m) k n count text shown h = last_graves m (suc k) n count text shown (omega arith)

  span_inner : (n : ℕ) (text : List ℕ) (count : ℕ) (before : List ℕ) (shown : List Glyph) → has_run (suc n) count text ≡ false → open_end count text ≡ true → list_all is_solid text ≡ true
      → run heading (at outside shown (Span n before count)) text ≡ at outside shown (Span n (before ++ (graves count ++ text)) 0)
  span_inner n [] zero before shown h o solid = ap (λ x. at outside shown (Span n x 0)) (sym (append-nil before))
  span_inner n [] (suc count) before shown h o solid = absurd cc
  span_inner n (b ∷ text) count before shown h o solid =
      let parts = and_parts (is_solid b) (list_all is_solid text) solid in
      let free : is_control b ≡ false = not_true (is_control b) parts.0 in
      elim (bool_cases (b == 96)) [
        | inl e ↦
            let is : b ≡ 96 = eqb-true b 96 e in
            let step : next_byte heading (at outside shown (Span n before count)) b ≡ at outside shown (Span n before (suc count)) = rw (free, e) refl in
            ap (λ x. run heading x text) step
            ∙ span_inner n text (suc count) before shown (rw e at h) (rw e at o) parts.1
            ∙ ap (λ x. at outside shown (Span n (before ++ x) 0)) (sym (graves_after count text) ∙ ap (λ x. graves count ++ x ∷ text) (sym is))
        | inr e ↦
            let both = or_false (count == suc n) (has_run (suc n) 0 text) (rw e at h) in
            let step : next_byte heading (at outside shown (Span n before count)) b ≡ at outside shown (Span n (before ++ (graves count ++ b ∷ [])) 0) = rw (free, e, both.0) refl in
            ap (λ x. run heading x text) step
            ∙ span_inner n text 0 (before ++ (graves count ++ b ∷ [])) shown both.1 (rw e at o) parts.1
            ∙ ap (λ x. at outside shown (Span n x 0)) (append_assoc before (graves count ++ b ∷ []) text ∙ ap (λ x. before ++ x) (append_assoc (graves count) (b ∷ []) text))
      ]

  -- the backquotes, the text and the backquotes
  span_bytes : (n : ℕ) (text : List ℕ) (i : Inner n text) (before : Before) (shown : List Glyph)
      → run heading (at outside shown (Text before)) (graves (suc n) ++ ((i.first ∷ i.more) ++ graves (suc n))) ≡ at outside shown (Span n (i.first ∷ i.more) (suc n))
  span_bytes n text i before shown =
      let parts = and_parts (is_solid i.first) (list_all is_solid i.more) i.solid in
      let free : is_control i.first ≡ false = not_true (is_control i.first) parts.0 in
      let other : (i.first == 96) ≡ false = i.no_grave in
      let step : next_byte heading (at outside shown (Opening n)) i.first ≡ at outside shown (Span n (i.first ∷ []) 0) = rw (free, other) refl in
      run_both heading (at outside shown (Text before)) (graves (suc n)) ((i.first ∷ i.more) ++ graves (suc n))
      ∙ ap (λ x. run heading x ((i.first ∷ i.more) ++ graves (suc n))) (more_graves n 0 n shown (omega arith))
      ∙ ap (λ x. run heading x (i.more ++ graves (suc n))) step
      ∙ run_both heading (at outside shown (Span n (i.first ∷ []) 0)) i.more (graves (suc n))
      ∙ ap (λ x. run heading x (graves (suc n))) (span_inner n i.more 0 (i.first ∷ []) shown i.spare i.ends parts.1)
      ∙ last_graves (suc n) 0 (suc n) n (i.first ∷ i.more) shown (omega arith)

  -- whether a span may stand here
  abbrev pub MayStand : List ℕ → Type 0
  MayStand text = (is_within_link outside && holds_definition text) ≡ false

-- it ends where no backquote follows it
span_ends : (heading : Bool) (outside : Option (List Glyph)) (n : ℕ) (bytes text : List ℕ) (shown : List Glyph) → unpadded bytes ≡ text → MayStand heading outside text → (rest : List ℕ) → no_grave_first rest ≡ true
    → finish heading (at outside shown (Span n bytes (suc n))) rest ≡ finish heading (at outside (shown ++ map code_glyph text) (Text Other)) rest
span_ends heading None n bytes text shown e may [] free_end = rw (eq-eqb (suc n) (suc n) refl, e) refl
span_ends heading (Some outside) n bytes text shown e may [] free_end = refl
span_ends heading outside n bytes text shown e may (b ∷ rest) free_end =
    let other : (b == 96) ≡ false = not_true (b == 96) free_end in
    let full : (suc n == suc n) ≡ true = eq-eqb (suc n) (suc n) refl in
    let step : next_byte heading (at outside shown (Span n bytes (suc n))) b ≡ next_byte heading (at outside (shown ++ map code_glyph text) (Text Other)) b = rw (other, full, e, may, other) refl in
    ap (λ x. finish heading x rest) step

span_is : (ticks pad text : List ℕ) → ticks ++ (pad ++ (text ++ (pad ++ ticks))) ≡ ticks ++ ((pad ++ (text ++ pad)) ++ ticks)
span_is ticks pad text = ap (λ x. ticks ++ x) (sym (append_assoc pad (text ++ pad) ticks ∙ ap (λ x. pad ++ x) (append_assoc text pad ticks)))

-- a span is backquotes, what stands between them, and as many
pub record Form (b : ℕ) (text : List ℕ) : Type 0 where
  pub count : ℕ
  pub between : Inner count (b ∷ text)
  pub is : span_text (b ∷ text) ≡ graves (suc count) ++ ((between.first ∷ between.more) ++ graves (suc count))

pub span_form : (b : ℕ) (text : List ℕ) → list_all is_solid (b ∷ text) ≡ true → Form b text
span_form b text solid =
    let n : ℕ = spare_run (b ∷ text) in
    let i = inner n b text (is_spare (b ∷ text)) solid in
    record {
      count = n;
      between = i;
      is = span_is (graves (suc n)) (padding (b ∷ text)) (b ∷ text) ∙ ap (λ x. graves (suc n) ++ (x ++ graves (suc n))) i.is;
    }

module _ (heading : Bool) (outside : Option (List Glyph)) where
  some_span : (n b : ℕ) (text : List ℕ) (i : Inner n (b ∷ text)) (before : Before) (shown : List Glyph) → MayStand heading outside (b ∷ text)
      → Reaches heading outside (graves (suc n) ++ ((i.first ∷ i.more) ++ graves (suc n))) (at outside shown (Text before)) (shown ++ map code_glyph (b ∷ text))
  some_span n b text i before shown may = record {
    after = Other;
    calm = refl;
    leads = λ rest free_end.
        let whole : List ℕ = graves (suc n) ++ ((i.first ∷ i.more) ++ graves (suc n)) in
        ap end_of_line (run_both heading (at outside shown (Text before)) whole rest ∙ ap (λ x. run heading x rest) (span_bytes heading outside n (b ∷ text) i before shown))
        ∙ span_ends heading outside n (i.first ∷ i.more) (b ∷ text) shown i.shows may rest free_end;
  }

  pub span_reaches : (text : List ℕ) (before : Before) (shown : List Glyph) → is_bang before ≡ false → list_all is_solid text ≡ true → MayStand heading outside text
      → Reaches heading outside (span_text text) (at outside shown (Text before)) (shown ++ map code_glyph text)
  span_reaches [] before shown calm solid may = reaches_to heading outside (sym (append-nil shown)) (reaches_nothing heading outside before calm)
  span_reaches (b ∷ text) before shown calm solid may =
      let form = span_form b text solid in
      subst (λ x. Reaches heading outside x (at outside shown (Text before)) (shown ++ map code_glyph (b ∷ text))) (sym form.is) (some_span form.count b text form.between before shown may)
