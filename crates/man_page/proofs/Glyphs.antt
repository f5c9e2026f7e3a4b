-- How what is written of a text is read, byte by byte.
use Rattle.std.proofs.Common.{◌≡◌, ◌≢◌, ℕ, Bool, true, false, not, ◌&&◌, ◌||◌, List, [], ◌∷◌, ◌++◌, refl, sym, ap, ◌∙◌, subst, inl, inr, append-nil, append_assoc}
use Rattle.std.specs.Prelude.{Option, Some, fold, map, ◌==◌, nat_lt, if◌then◌else◌}
use Rattle.std.specs.List.{list_all}
use Rattle.std.proofs.lemmas.Bool.{and_parts, and_from, ne_eqb, cases_eq}
use Rattle.std.proofs.lemmas.List.Folds.{list_all-append}
use Rattle.std.proofs.lemmas.List.Sums.{fold-append}
use Rattle.page_model.specs.Permitted.{is_permitted_byte}
use Rattle.man_page.specs.Sheet.{Font, Glyph}
use Rattle.man_page.specs.Kept.{code_byte, in_font, shown_byte}
use Rattle.man_page.specs.Exact.{escaped, escaped_byte, is_blank}
use Rattle.man_page.specs.Reader
use Rattle.man_page.specs.declared.escape.Role.{Role}
use Rattle.man_page.specs.declared.escape.Role.TheVariants.{Text, Item, Code, Title}

-- ---- bytes that are replaced

-- what holds of each of them
abbrev pub OfSigns : (ℕ → Type 0) → Type 0
OfSigns P = P 32 × P 10 × P 9 × P 45 × P 37 × P 92 × P 39 × P 96 × P 94 × P 126 × P 34

pub record IsPlain (b : ℕ) : Type 0 where
  pub no_blank : b ≢ 32
  pub no_newline : b ≢ 10
  pub no_tab : b ≢ 9
  pub no_hyphen : b ≢ 45
  pub no_percent : b ≢ 37
  pub no_backslash : b ≢ 92
  pub no_quote : b ≢ 39
  pub no_grave : b ≢ 96
  pub no_circumflex : b ≢ 94
  pub no_tilde : b ≢ 126
  pub no_double_quote : b ≢ 34

one_sign : (P : ℕ → Type 0) (b c : ℕ) → P c → (b ≢ c → P b) → P b
one_sign P b c known other = elim (cases_eq b c) [ inl e ↦ subst P (sym e) known | inr n ↦ other n ]

pub by_signs : (P : ℕ → Type 0) → OfSigns P → ((b : ℕ) → IsPlain b → P b) → (b : ℕ) → P b
by_signs P known plain b =
    one_sign P b 32 known.0 (λ n0.
    one_sign P b 10 known.1 (λ n1.
    one_sign P b 9 known.2 (λ n2.
    one_sign P b 45 known.3 (λ n3.
    one_sign P b 37 known.4 (λ n4.
    one_sign P b 92 known.5 (λ n5.
    one_sign P b 39 known.6 (λ n6.
    one_sign P b 96 known.7 (λ n7.
    one_sign P b 94 known.8 (λ n8.
    one_sign P b 126 known.9 (λ n9.
    one_sign P b 34 known.10 (λ n10.
    plain b (record { no_blank = n0; no_newline = n1; no_tab = n2; no_hyphen = n3; no_percent = n4; no_backslash = n5; no_quote = n6; no_grave = n7; no_circumflex = n8; no_tilde = n9; no_double_quote = n10 }))))))))))))

pub plain_escaped : (role : Role) (b : ℕ) → IsPlain b → escaped_byte role b ≡ b ∷ []
plain_escaped role b p = rw (ne_eqb b 32 p.no_blank, ne_eqb b 10 p.no_newline, ne_eqb b 9 p.no_tab, ne_eqb b 45 p.no_hyphen, ne_eqb b 37 p.no_percent, ne_eqb b 92 p.no_backslash, ne_eqb b 39 p.no_quote, ne_eqb b 96 p.no_grave, ne_eqb b 94 p.no_circumflex, ne_eqb b 126 p.no_tilde, ne_eqb b 34 p.no_double_quote) refl

-- ---- what is written for a byte is read as that byte

-- a title line is read by programs, for which a hyphen is itself
abbrev pub is_for_programs : Role → Bool
is_for_programs Text = false
is_for_programs Item = false
is_for_programs Code = false
is_for_programs Title = true

-- the byte that is shown
abbrev pub byte_in : Role → ℕ → ℕ
byte_in Text b = shown_byte b
byte_in Item b = shown_byte b
byte_in Code b = code_byte b
byte_in Title b = shown_byte b

abbrev pub glyph_in : Role → Font → ℕ → Glyph
glyph_in role font b = record { byte = byte_in role b; font = font }

abbrev pub in_text : Font → List Glyph → Option Reader.Line
in_text font shown = Some (record { mode = Reader.Text; font = font; shown = shown })

abbrev pub run : Bool → Option Reader.Line → List ℕ → Option Reader.Line
run other line bytes = fold (Reader.next_byte other) line bytes

-- one after another
pub run_then : (other : Bool) (r s t : Option Reader.Line) (a b : List ℕ) → run other r a ≡ s → run other s b ≡ t → run other r (a ++ b) ≡ t
run_then other r s t a b e f = fold-append (Reader.next_byte other) r a b ∙ ap (λ x. run other x b) e ∙ f

-- what is put in or not, where it shows nothing
pub run_if : (other test : Bool) (line : Option Reader.Line) (sign : List ℕ) → (test ≡ true → run other line sign ≡ line) → run other line (if test then sign else []) ≡ line
run_if other true line sign e = e refl
run_if other false line sign e = refl

abbrev ByteReads : Role → Font → List Glyph → ℕ → Type 0
ByteReads role font shown b = is_permitted_byte b ≡ true → run (is_for_programs role) (in_text font shown) (escaped_byte role b) ≡ in_text font (shown ++ glyph_in role font b ∷ [])

sign_reads : (role : Role) (font : Font) (shown : List Glyph) → OfSigns (ByteReads role font shown)
sign_reads Text font shown = (λ _. refl, λ _. refl, λ _. refl, λ _. refl, λ _. refl, λ _. refl, λ _. refl, λ _. refl, λ _. refl, λ _. refl, λ _. refl)
sign_reads Item font shown = (λ _. refl, λ _. refl, λ _. refl, λ _. refl, λ _. refl, λ _. refl, λ _. refl, λ _. refl, λ _. refl, λ _. refl, λ _. refl)
sign_reads Code font shown = (λ _. refl, λ _. refl, λ _. refl, λ _. refl, λ _. refl, λ _. refl, λ _. refl, λ _. refl, λ _. refl, λ _. refl, λ _. refl)
sign_reads Title font shown = (λ _. refl, λ _. refl, λ _. refl, λ _. refl, λ _. refl, λ _. refl, λ _. refl, λ _. refl, λ _. refl, λ _. refl, λ _. refl)

not_true : (x : Bool) → not x ≡ true → x ≡ false
not_true true h = cc
not_true false h = refl

no_control : (b : ℕ) → IsPlain b → is_permitted_byte b ≡ true → Reader.is_control b ≡ false
no_control b p h =
    let may = not_true ((nat_lt b 32 && not (b == 9 || b == 10)) || b == 127) h in
    rw (ne_eqb b 9 p.no_tab) (rw (ne_eqb b 9 p.no_tab, ne_eqb b 10 p.no_newline) at may)

no_other : (b : ℕ) → IsPlain b → Reader.is_other_glyph b ≡ false
no_other b p = rw (ne_eqb b 45 p.no_hyphen, ne_eqb b 39 p.no_quote, ne_eqb b 96 p.no_grave, ne_eqb b 94 p.no_circumflex, ne_eqb b 126 p.no_tilde) refl

plain_read : (other : Bool) (line : Reader.Line) (b : ℕ) → IsPlain b → is_permitted_byte b ≡ true → Reader.text_byte other line b ≡ Some (Reader.with_glyph line b)
plain_read other line b p h = rw (ne_eqb b 92 p.no_backslash, no_control b p h, no_other b p) refl

plain_shown : (role : Role) (b : ℕ) → IsPlain b → byte_in role b ≡ b
plain_shown Text b p = rw (ne_eqb b 9 p.no_tab, ne_eqb b 10 p.no_newline) refl
plain_shown Item b p = rw (ne_eqb b 9 p.no_tab, ne_eqb b 10 p.no_newline) refl
plain_shown Code b p = rw (ne_eqb b 10 p.no_newline) refl
plain_shown Title b p = rw (ne_eqb b 9 p.no_tab, ne_eqb b 10 p.no_newline) refl

plain_reads : (role : Role) (font : Font) (shown : List Glyph) (b : ℕ) → IsPlain b → ByteReads role font shown b
plain_reads role font shown b p h =
    ap (run (is_for_programs role) (in_text font shown)) (plain_escaped role b p)
    ∙ plain_read (is_for_programs role) (record { mode = Reader.Text; font = font; shown = shown }) b p h
    ∙ ap (λ (x : ℕ). in_text font (shown ++ (record { byte = x; font = font }) ∷ [])) (sym (plain_shown role b p))

byte_reads : (role : Role) (font : Font) (shown : List Glyph) (b : ℕ) → ByteReads role font shown b
byte_reads role font shown b = by_signs (ByteReads role font shown) (sign_reads role font shown) (plain_reads role font shown) b

-- ---- texts

pub text_reads : (role : Role) (font : Font) (shown : List Glyph) (bytes : List ℕ) → list_all is_permitted_byte bytes ≡ true
    → run (is_for_programs role) (in_text font shown) (escaped role bytes) ≡ in_text font (shown ++ map (glyph_in role font) bytes)
text_reads role font shown [] h = ap (in_text font) (sym (append-nil shown))
text_reads role font shown (b ∷ bytes) h =
    let p = and_parts (is_permitted_byte b) (list_all is_permitted_byte bytes) h in
    run_then (is_for_programs role) (in_text font shown) (in_text font (shown ++ glyph_in role font b ∷ [])) (in_text font (shown ++ map (glyph_in role font) (b ∷ bytes))) (escaped_byte role b) (escaped role bytes)
    (byte_reads role font shown b p.0)
    (text_reads role font (shown ++ glyph_in role font b ∷ []) bytes p.1
    ∙ ap (in_text font) (append_assoc shown (glyph_in role font b ∷ []) (map (glyph_in role font) bytes)))

-- lines that are filled, and items of a usage
abbrev pub is_filled : Role → Bool
is_filled Text = true
is_filled Item = true
is_filled Code = false
is_filled Title = false

pub words_read : (role : Role) → is_filled role ≡ true → (font : Font) (shown : List Glyph) (bytes : List ℕ) → list_all is_permitted_byte bytes ≡ true
    → run false (in_text font shown) (escaped role bytes) ≡ in_text font (shown ++ in_font font bytes)
words_read Text filled font shown bytes h = text_reads Text font shown bytes h
words_read Item filled font shown bytes h = text_reads Item font shown bytes h
words_read Code filled font shown bytes h = cc
words_read Title filled font shown bytes h = cc

-- ---- which bytes are written

-- What is written for a byte of some kind has only bytes of some kind.
abbrev pub Writes : (ℕ → Bool) → (ℕ → Bool) → Role → Type 0
Writes q p role = (b : ℕ) → q b ≡ true → list_all p (escaped_byte role b) ≡ true

pub all_written : (q p : ℕ → Bool) (role : Role) → Writes q p role → (bytes : List ℕ) → list_all q bytes ≡ true → list_all p (escaped role bytes) ≡ true
all_written q p role writes [] h = refl
all_written q p role writes (b ∷ bytes) h =
    let parts = and_parts (q b) (list_all q bytes) h in
    list_all-append p (escaped_byte role b) (escaped role bytes)
    ∙ and_from (list_all p (escaped_byte role b)) (list_all p (escaped role bytes)) (writes b parts.0) (all_written q p role writes bytes parts.1)

-- no newline and no double quote
abbrev pub is_inner : ℕ → Bool
is_inner c = not (c == 10) && not (c == 34)

-- no quote either, which begins a request of another kind
abbrev pub is_text_byte : ℕ → Bool
is_text_byte c = not (c == 10) && (not (c == 34) && not (c == 39))

-- no blank either
abbrev pub is_solid : ℕ → Bool
is_solid c = not (c == 10) && (not (c == 34) && not (c == 32))

abbrev pub is_no_blank : ℕ → Bool
is_no_blank b = not (is_blank b)

inner_sign : (role : Role) → OfSigns (λ b. is_permitted_byte b ≡ true → list_all is_inner (escaped_byte role b) ≡ true)
inner_sign Text = (λ _. refl, λ _. refl, λ _. refl, λ _. refl, λ _. refl, λ _. refl, λ _. refl, λ _. refl, λ _. refl, λ _. refl, λ _. refl)
inner_sign Item = (λ _. refl, λ _. refl, λ _. refl, λ _. refl, λ _. refl, λ _. refl, λ _. refl, λ _. refl, λ _. refl, λ _. refl, λ _. refl)
inner_sign Code = (λ _. refl, λ _. refl, λ _. refl, λ _. refl, λ _. refl, λ _. refl, λ _. refl, λ _. refl, λ _. refl, λ _. refl, λ _. refl)
inner_sign Title = (λ _. refl, λ _. refl, λ _. refl, λ _. refl, λ _. refl, λ _. refl, λ _. refl, λ _. refl, λ _. refl, λ _. refl, λ _. refl)

-- a byte that stands for itself is written alone
plain_alone : (p : ℕ → Bool) (role : Role) (b : ℕ) → IsPlain b → p b ≡ true → list_all p (escaped_byte role b) ≡ true
plain_alone p role b plain e = ap (list_all p) (plain_escaped role b plain) ∙ and_from (p b) true e refl

pub writes_inner : (role : Role) → Writes is_permitted_byte is_inner role
writes_inner role b h =
    by_signs (λ c. is_permitted_byte c ≡ true → list_all is_inner (escaped_byte role c) ≡ true) (inner_sign role)
    (λ c plain _. plain_alone is_inner role c plain (rw (ne_eqb c 10 plain.no_newline, ne_eqb c 34 plain.no_double_quote) refl)) b h

text_sign : (role : Role) → is_for_programs role ≡ false → OfSigns (λ b. is_permitted_byte b ≡ true → list_all is_text_byte (escaped_byte role b) ≡ true)
text_sign Text e = (λ _. refl, λ _. refl, λ _. refl, λ _. refl, λ _. refl, λ _. refl, λ _. refl, λ _. refl, λ _. refl, λ _. refl, λ _. refl)
text_sign Item e = (λ _. refl, λ _. refl, λ _. refl, λ _. refl, λ _. refl, λ _. refl, λ _. refl, λ _. refl, λ _. refl, λ _. refl, λ _. refl)
text_sign Code e = (λ _. refl, λ _. refl, λ _. refl, λ _. refl, λ _. refl, λ _. refl, λ _. refl, λ _. refl, λ _. refl, λ _. refl, λ _. refl)
text_sign Title e = absurd cc

pub writes_text : (role : Role) → is_for_programs role ≡ false → Writes is_permitted_byte is_text_byte role
writes_text role e b h =
    by_signs (λ c. is_permitted_byte c ≡ true → list_all is_text_byte (escaped_byte role c) ≡ true) (text_sign role e)
    (λ c plain _. plain_alone is_text_byte role c plain (rw (ne_eqb c 10 plain.no_newline, ne_eqb c 34 plain.no_double_quote, ne_eqb c 39 plain.no_quote) refl)) b h

solid_sign : (role : Role) → OfSigns (λ b. is_no_blank b ≡ true → list_all is_solid (escaped_byte role b) ≡ true)
solid_sign Text = (λ h. cc, λ h. cc, λ h. cc, λ _. refl, λ _. refl, λ _. refl, λ _. refl, λ _. refl, λ _. refl, λ _. refl, λ _. refl)
solid_sign Item = (λ h. cc, λ h. cc, λ h. cc, λ _. refl, λ _. refl, λ _. refl, λ _. refl, λ _. refl, λ _. refl, λ _. refl, λ _. refl)
solid_sign Code = (λ h. cc, λ h. cc, λ h. cc, λ _. refl, λ _. refl, λ _. refl, λ _. refl, λ _. refl, λ _. refl, λ _. refl, λ _. refl)
solid_sign Title = (λ h. cc, λ h. cc, λ h. cc, λ _. refl, λ _. refl, λ _. refl, λ _. refl, λ _. refl, λ _. refl, λ _. refl, λ _. refl)

plain_solid : (c : ℕ) → IsPlain c → is_solid c ≡ true
plain_solid c plain = rw (ne_eqb c 10 plain.no_newline, ne_eqb c 34 plain.no_double_quote, ne_eqb c 32 plain.no_blank) refl

pub writes_solid : (role : Role) → Writes is_no_blank is_solid role
writes_solid role b h =
    by_signs (λ c. is_no_blank c ≡ true → list_all is_solid (escaped_byte role c) ≡ true) (solid_sign role)
    (λ c plain _. plain_alone is_solid role c plain (plain_solid c plain)) b h

item_sign : OfSigns (λ b. is_permitted_byte b ≡ true → list_all is_solid (escaped_byte Item b) ≡ true)
item_sign = (λ _. refl, λ _. refl, λ _. refl, λ _. refl, λ _. refl, λ _. refl, λ _. refl, λ _. refl, λ _. refl, λ _. refl, λ _. refl)

pub writes_item : Writes is_permitted_byte is_solid Item
writes_item b h =
    by_signs (λ c. is_permitted_byte c ≡ true → list_all is_solid (escaped_byte Item c) ≡ true) item_sign
    (λ c plain _. plain_alone is_solid Item c plain (plain_solid c plain)) b h
