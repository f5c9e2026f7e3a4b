-- How the pieces of a line are read.
use Rattle.std.proofs.Common.{◌≡◌, ℕ, Bool, true, false, ◌&&◌, List, [], ◌∷◌, ◌++◌, refl, sym, ap, ◌∙◌, append-nil, append_assoc}
use Rattle.std.specs.Prelude.{None, codes, ◌==◌, if◌then◌else◌}
use Rattle.std.specs.List.{list_all, list_any}
use Rattle.std.specs.Str.{chars}
use Rattle.std.proofs.lemmas.Bool.{and_parts, ne_eqb}
use Rattle.std.proofs.lemmas.List.{map-append}
use Rattle.page_model.specs.Content.{Piece, words, literal, value, link, page, Line}
use Rattle.page_model.specs.Permitted.{are_permitted, is_permitted, is_permitted_byte, is_permitted_line, is_permitted_piece}
use Rattle.man_page.specs.Sheet.{Font, Roman, Bold, Italic, Glyph}
use Rattle.man_page.specs.Kept.{in_font, line_shown, piece_shown, shown_byte, terms_shown}
use Rattle.man_page.specs.Exact.{begins_after, begins_word, escaped, is_blank, is_letter, piece_text, pieces_from, pieces_text, terms_text}
use Rattle.man_page.specs.Reader.{is_at_front, last_of}
use Rattle.man_page.specs.declared.escape.Role.{Role}
use Rattle.man_page.specs.declared.escape.Role.TheVariants.{Text}
use Rattle.man_page.proofs.Glyphs.{Writes, all_written, by_signs, in_text, is_filled, is_solid, is_text_byte, run, run_if, run_then, words_read, writes_text}
use Rattle.man_page.proofs.Inputs.{all_both}

pub bytes_of : (text : List ℕ) → are_permitted text ≡ true → list_all is_permitted_byte text ≡ true
bytes_of text h = (and_parts (list_all is_permitted_byte text) (list_all is_permitted (chars text)) h).0

-- a sign or none
abbrev pub optional : Bool → List ℕ → List ℕ
optional wanted sign = if wanted then sign else []

-- ---- where words begin

-- at the front of a word this sign shows nothing
mark_read : (font : Font) (shown : List Glyph) → is_at_front shown ≡ true → run false (in_text font shown) (codes "\\%") ≡ in_text font shown
mark_read font shown front = ap (λ (x : Bool). if x then in_text font shown else None) front

at_front_after : (shown : List Glyph) (glyph : Glyph) (more : List Glyph) → is_at_front (shown ++ glyph ∷ more) ≡ is_at_front (glyph ∷ more)
at_front_after [] glyph more = refl
at_front_after (first ∷ []) glyph more = refl
at_front_after (first ∷ next ∷ shown) glyph more = at_front_after (next ∷ shown) glyph more

last_shown : (font : Font) (b : ℕ) (text : List ℕ) → is_at_front (in_font font (b ∷ text)) ≡ (shown_byte (last_of b text) == 32)
last_shown font b [] = refl
last_shown font b (c ∷ text) = last_shown font c text

abbrev BlankShows : ℕ → Type 0
BlankShows b = is_blank b ≡ true → (shown_byte b == 32) ≡ true

blank_shows : (b : ℕ) → BlankShows b
blank_shows b =
    by_signs BlankShows (λ _. refl, λ _. refl, λ _. refl, λ h. cc, λ h. cc, λ h. cc, λ h. cc, λ h. cc, λ h. cc, λ h. cc, λ h. cc)
    (λ c plain h. let none : is_blank c ≡ false = rw (ne_eqb c 32 plain.no_blank, ne_eqb c 9 plain.no_tab, ne_eqb c 10 plain.no_newline) refl in cc) b

text_begins : (front : Bool) (font : Font) (text : List ℕ) (shown : List Glyph) → (front ≡ true → is_at_front shown ≡ true) → begins_word front text ≡ true → is_at_front (shown ++ in_font font text) ≡ true
text_begins front font [] shown may e = ap is_at_front (append-nil shown) ∙ may e
text_begins front font (b ∷ text) shown may e =
    at_front_after shown (record { byte = shown_byte b; font = font }) (in_font font text)
    ∙ last_shown font b text
    ∙ blank_shows (last_of b text) e

module _ (section : List ℕ) where
  begins : (front : Bool) (piece : Piece) (shown : List Glyph) → (front ≡ true → is_at_front shown ≡ true) → begins_after front piece ≡ true → is_at_front (shown ++ piece_shown section piece) ≡ true
  begins front (words text) shown may e = text_begins front Roman text shown may e
  begins front (literal text) shown may e = text_begins front Bold text shown may e
  begins front (value text) shown may e = text_begins front Italic text shown may e
  begins front (link text) shown may e = text_begins front Roman text shown may e
  begins front (page name) shown may e = absurd cc

-- ---- what is read

module _ (role : Role) (filled : is_filled role ≡ true) where
  -- a text in a font, up to the sign after it
  in_font_read : (font : Font) (wanted : Bool) (shown : List Glyph) (text rest : List ℕ) → list_all is_permitted_byte text ≡ true → (wanted ≡ true → is_at_front shown ≡ true)
      → run false (in_text font shown) (optional wanted (codes "\\%") ++ (escaped role text ++ rest)) ≡ run false (in_text font (shown ++ in_font font text)) rest
  in_font_read font wanted shown text rest h may =
      run_then false (in_text font shown) (in_text font shown) _ (optional wanted (codes "\\%")) (escaped role text ++ rest) (run_if false wanted (in_text font shown) (codes "\\%") (λ e. mark_read font shown (may e)))
      (run_then false (in_text font shown) (in_text font (shown ++ in_font font text)) _ (escaped role text) rest (words_read role filled font shown text h) refl)

  module _ (section : List ℕ) (permitted : list_all is_permitted_byte section ≡ true) where
    regroup : (a n o s c : List Glyph) → (((a ++ n) ++ o) ++ s) ++ c ≡ a ++ (n ++ (o ++ (s ++ c)))
    regroup a n o s c = simp append_assoc

    -- whether a sign may be written
    abbrev MayGuard : Bool → List Glyph → Type 0
    MayGuard guarded shown = guarded ≡ true → is_at_front shown ≡ true

    may_text : (guarded : Bool) (text : List ℕ) (shown : List Glyph) → MayGuard guarded shown → MayGuard (guarded && list_any is_letter text) shown
    may_text guarded text shown may e = may (and_parts guarded (list_any is_letter text) e).0

    page_read : (guarded : Bool) (name : List ℕ) (shown : List Glyph) → list_all is_permitted_byte name ≡ true → MayGuard guarded shown
        → run false (in_text Roman shown) (piece_text role guarded section (page name)) ≡ in_text Roman (shown ++ piece_shown section (page name))
    page_read guarded name shown h may =
        in_font_read Bold (guarded && list_any is_letter name) shown name (codes "\\fP(" ++ (escaped role section ++ codes ")")) h (may_text guarded name shown may)
        ∙ in_font_read Roman false ((shown ++ in_font Bold name) ++ in_font Roman (codes "(")) section (codes ")") permitted (λ e. absurd cc)
        ∙ ap (in_text Roman) (regroup shown (in_font Bold name) (in_font Roman (codes "(")) (in_font Roman section) (in_font Roman (codes ")"))
        ∙ ap (λ (x : List Glyph). shown ++ (in_font Bold name ++ (in_font Roman (codes "(") ++ x))) (sym (map-append (λ (b : ℕ). record { byte = shown_byte b; font = Roman }) section (codes ")"))))

    piece_read : (guarded : Bool) (piece : Piece) (shown : List Glyph) → is_permitted_piece piece ≡ true → MayGuard guarded shown
        → run false (in_text Roman shown) (piece_text role guarded section piece) ≡ in_text Roman (shown ++ piece_shown section piece)
    piece_read guarded (words text) shown h may = words_read role filled Roman shown text (bytes_of text h)
    piece_read guarded (literal text) shown h may = in_font_read Bold (guarded && list_any is_letter text) shown text (codes "\\fP") (bytes_of text h) (may_text guarded text shown may)
    piece_read guarded (value text) shown h may = in_font_read Italic false shown text (codes "\\fP") (bytes_of text h) (λ e. absurd cc)
    piece_read guarded (link text) shown h may = words_read role filled Roman shown text (bytes_of text h)
    piece_read guarded (page name) shown h may = page_read guarded name shown (bytes_of name h) may

    pieces_from_read : (guarded front : Bool) (line : Line) (shown : List Glyph) → is_permitted_line line ≡ true → (guarded ≡ true → front ≡ true → is_at_front shown ≡ true)
        → run false (in_text Roman shown) (pieces_from role guarded front section line) ≡ in_text Roman (shown ++ line_shown section line)
    pieces_from_read guarded front [] shown h may = ap (in_text Roman) (sym (append-nil shown))
    pieces_from_read guarded front (piece ∷ line) shown h may =
        let parts = and_parts (is_permitted_piece piece) (is_permitted_line line) h in
        let more : List Glyph = shown ++ piece_shown section piece in
        let both = and_parts guarded front in
        run_then false (in_text Roman shown) (in_text Roman more) (in_text Roman (shown ++ line_shown section (piece ∷ line))) (piece_text role (guarded && front) section piece) (pieces_from role guarded (begins_after front piece) section line)
        (piece_read (guarded && front) piece shown parts.0 (λ e. may (both e).0 (both e).1))
        (pieces_from_read guarded (begins_after front piece) line more parts.1 (λ g. begins section front piece shown (may g))
        ∙ ap (in_text Roman) (append_assoc shown (piece_shown section piece) (line_shown section line)))

  pub pieces_read : (guarded : Bool) (section : List ℕ) → list_all is_permitted_byte section ≡ true → (line : Line) (shown : List Glyph) → is_permitted_line line ≡ true → (guarded ≡ true → is_at_front shown ≡ true)
      → run false (in_text Roman shown) (pieces_text role guarded section line) ≡ in_text Roman (shown ++ line_shown section line)
  pieces_read guarded section permitted line shown h may = pieces_from_read section permitted guarded true line shown h (λ g _. may g)

pub terms_read : (section : List ℕ) → list_all is_permitted_byte section ≡ true → (terms : List Line) (shown : List Glyph) → list_all is_permitted_line terms ≡ true
    → run false (in_text Roman shown) (terms_text section terms) ≡ in_text Roman (shown ++ terms_shown section terms)
terms_read section permitted [] shown h = ap (in_text Roman) (sym (append-nil shown))
terms_read section permitted (term ∷ []) shown h = pieces_read Text refl false section permitted term shown (and_parts (is_permitted_line term) true h).0 (λ e. absurd cc)
terms_read section permitted (term ∷ next ∷ terms) shown h =
    let parts = and_parts (is_permitted_line term) (list_all is_permitted_line (next ∷ terms)) h in
    let first : List Glyph = shown ++ line_shown section term in
    let comma : List Glyph = in_font Roman (codes ", ") in
    let later : List Glyph = terms_shown section (next ∷ terms) in
    run_then false (in_text Roman shown) (in_text Roman first) (in_text Roman (shown ++ terms_shown section (term ∷ next ∷ terms))) (pieces_text Text false section term) (codes ", " ++ terms_text section (next ∷ terms))
    (pieces_read Text refl false section permitted term shown parts.0 (λ e. absurd cc))
    (run_then false (in_text Roman first) (in_text Roman (first ++ comma)) (in_text Roman (shown ++ terms_shown section (term ∷ next ∷ terms))) (codes ", ") (terms_text section (next ∷ terms))
    (ap (in_text Roman) (append_assoc first (in_font Roman (codes ",")) (in_font Roman (codes " "))))
    (terms_read section permitted (next ∷ terms) (first ++ comma) parts.1
    ∙ ap (in_text Roman) (append_assoc first comma later ∙ append_assoc shown (line_shown section term) (comma ++ later))))

-- ---- which bytes they are written with

-- the signs of fonts, and what stands around a section, are of this kind
pub record TakesSigns (p : ℕ → Bool) : Type 0 where
  pub bold : list_all p (codes "\\fB") ≡ true
  pub italic : list_all p (codes "\\fI") ≡ true
  pub back : list_all p (codes "\\fP") ≡ true
  pub whole : list_all p (codes "\\%") ≡ true
  pub before : list_all p (codes "\\fP(") ≡ true
  pub after : list_all p (codes ")") ≡ true

pub text_signs : TakesSigns is_text_byte
text_signs = record { bold = refl; italic = refl; back = refl; whole = refl; before = refl; after = refl }

pub solid_signs : TakesSigns is_solid
solid_signs = record { bold = refl; italic = refl; back = refl; whole = refl; before = refl; after = refl }

all_optional : (p : ℕ → Bool) (wanted : Bool) (sign : List ℕ) → list_all p sign ≡ true → list_all p (optional wanted sign) ≡ true
all_optional p true sign h = h
all_optional p false sign h = refl

module _ (p : ℕ → Bool) (signs : TakesSigns p) (role : Role) (writes : Writes is_permitted_byte p role) where
  in_font_bytes : (wanted : Bool) (text rest : List ℕ) → list_all is_permitted_byte text ≡ true → list_all p rest ≡ true → list_all p (optional wanted (codes "\\%") ++ (escaped role text ++ rest)) ≡ true
  in_font_bytes wanted text rest h g =
      all_both p (optional wanted (codes "\\%")) (escaped role text ++ rest) (all_optional p wanted (codes "\\%") signs.whole)
      (all_both p (escaped role text) rest (all_written is_permitted_byte p role writes text h) g)

  module _ (section : List ℕ) (permitted : list_all is_permitted_byte section ≡ true) where
    one_piece_bytes : (guarded : Bool) (piece : Piece) → is_permitted_piece piece ≡ true → list_all p (piece_text role guarded section piece) ≡ true
    one_piece_bytes guarded (words text) h = all_written is_permitted_byte p role writes text (bytes_of text h)
    one_piece_bytes guarded (literal text) h = all_both p (codes "\\fB") _ signs.bold (in_font_bytes (guarded && list_any is_letter text) text (codes "\\fP") (bytes_of text h) signs.back)
    one_piece_bytes guarded (value text) h = all_both p (codes "\\fI") _ signs.italic (in_font_bytes false text (codes "\\fP") (bytes_of text h) signs.back)
    one_piece_bytes guarded (link text) h = all_written is_permitted_byte p role writes text (bytes_of text h)
    one_piece_bytes guarded (page name) h =
        all_both p (codes "\\fB") _ signs.bold (in_font_bytes (guarded && list_any is_letter name) name (codes "\\fP(" ++ (escaped role section ++ codes ")")) (bytes_of name h)
        (all_both p (codes "\\fP(") (escaped role section ++ codes ")") signs.before (in_font_bytes false section (codes ")") permitted signs.after)))

    pieces_from_bytes : (guarded front : Bool) (line : Line) → is_permitted_line line ≡ true → list_all p (pieces_from role guarded front section line) ≡ true
    pieces_from_bytes guarded front [] h = refl
    pieces_from_bytes guarded front (piece ∷ line) h =
        let parts = and_parts (is_permitted_piece piece) (is_permitted_line line) h in
        let after : Bool = begins_after front piece in
        all_both p (piece_text role (guarded && front) section piece) (pieces_from role guarded after section line) (one_piece_bytes (guarded && front) piece parts.0) (pieces_from_bytes guarded after line parts.1)

  pub pieces_bytes : (guarded : Bool) (section : List ℕ) → list_all is_permitted_byte section ≡ true → (line : Line) → is_permitted_line line ≡ true → list_all p (pieces_text role guarded section line) ≡ true
  pieces_bytes guarded section permitted line h = pieces_from_bytes section permitted guarded true line h

pub terms_bytes : (section : List ℕ) → list_all is_permitted_byte section ≡ true → (terms : List Line) → list_all is_permitted_line terms ≡ true → list_all is_text_byte (terms_text section terms) ≡ true
terms_bytes section permitted [] h = refl
terms_bytes section permitted (term ∷ []) h = pieces_bytes is_text_byte text_signs Text (writes_text Text refl) false section permitted term (and_parts (is_permitted_line term) true h).0
terms_bytes section permitted (term ∷ next ∷ terms) h =
    let parts = and_parts (is_permitted_line term) (list_all is_permitted_line (next ∷ terms)) h in
    all_both is_text_byte (pieces_text Text false section term) (codes ", " ++ terms_text section (next ∷ terms))
    (pieces_bytes is_text_byte text_signs Text (writes_text Text refl) false section permitted term parts.0)
    (all_both is_text_byte (codes ", ") (terms_text section (next ∷ terms)) refl (terms_bytes section permitted (next ∷ terms) parts.1))
