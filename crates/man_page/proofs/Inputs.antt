-- How what is written is split into lines, and what a line of text asks for.
use Rattle.std.proofs.Common.{◌≡◌, ℕ, Bool, true, false, cond, not, ◌&&◌, ◌||◌, List, [], ◌∷◌, ◌++◌, refl, sym, ap, ◌∙◌, subst, append-nil, append_assoc}
use Rattle.std.specs.Prelude.{Option, Some, None, codes, ◌==◌, if◌then◌else◌}
use Rattle.std.specs.List.{list_all, onto_first}
use Rattle.std.proofs.lemmas.Bool.{and_parts, and_from}
use Rattle.std.proofs.lemmas.List.Folds.{list_all-append}
use Rattle.std.proofs.lemmas.List.Splits.{slice_split-cons_no}
use Rattle.man_page.specs.Sheet.{Roman, Glyph, Sheet}
use Rattle.man_page.specs.Exact.{code_front, input_line, is_glyph_first, line_back, line_front}
use Rattle.man_page.specs.Reader
use Rattle.man_page.specs.Reader.{Input, Reading, Request, Stand, done_if, ends_in_blank, glyphs, is_in_example, is_plain_input, last_of, line_of, lines, next_line, page_of, placed, placed_if, whole_page, with_input}
use Rattle.man_page.proofs.Glyphs.{in_text, is_solid, is_text_byte, run, run_if, run_then}

pub not_true : (x : Bool) → not x ≡ true → x ≡ false
not_true true h = cc
not_true false h = refl

pub not_false : (x : Bool) → x ≡ false → not x ≡ true
not_false true h = cc
not_false false h = refl

pub or_false : (x y : Bool) → (x || y) ≡ false → (x ≡ false) × (y ≡ false)
or_false true y h = cc
or_false false y h = (refl, h)

pub weaker : (p q : ℕ → Bool) → ((b : ℕ) → p b ≡ true → q b ≡ true) → (bytes : List ℕ) → list_all p bytes ≡ true → list_all q bytes ≡ true
weaker p q implies [] h = refl
weaker p q implies (b ∷ bytes) h =
    let parts = and_parts (p b) (list_all p bytes) h in
    and_from (q b) (list_all q bytes) (implies b parts.0) (weaker p q implies bytes parts.1)

pub all_both : (p : ℕ → Bool) (a b : List ℕ) → list_all p a ≡ true → list_all p b ≡ true → list_all p (a ++ b) ≡ true
all_both p a b h g = list_all-append p a b ∙ and_from (list_all p a) (list_all p b) h g

pub solid_parts : (c : ℕ) → is_solid c ≡ true → ((c == 34) ≡ false) × ((c == 32) ≡ false)
solid_parts c h =
    let later = (and_parts (not (c == 10)) (not (c == 34) && not (c == 32)) h).1 in
    let both = and_parts (not (c == 34)) (not (c == 32)) later in
    (not_true (c == 34) both.0, not_true (c == 32) both.1)

-- ---- lines

abbrev page_from : Option Reading → List ℕ → Option Sheet
page_from read bytes = page_of read (lines bytes)

-- a text that leads a reading on, line by line, whatever follows it
pub record Leads (bytes : List ℕ) (from to : Option Reading) : Type 0 where
  pub reads : (rest : List ℕ) → page_from from (bytes ++ rest) ≡ page_from to rest

pub leads_nothing : {r : Option Reading} → Leads [] r r
leads_nothing = record { reads = λ rest. refl }

pub leads_to : {bytes : List ℕ} {r s t : Option Reading} → s ≡ t → Leads bytes r s → Leads bytes r t
leads_to e p = record { reads = λ rest. p.reads rest ∙ ap (λ x. page_from x rest) e }

pub leads_then : {a b : List ℕ} {r s t : Option Reading} → Leads a r s → Leads b s t → Leads (a ++ b) r t
leads_then {a} {b} {r} p q = record { reads = λ rest. ap (page_from r) (append_assoc a b rest) ∙ p.reads (b ++ rest) ∙ q.reads rest }

pub leads_whole : {bytes : List ℕ} {r s : Option Reading} → Leads bytes r s → page_from r bytes ≡ whole_page s
leads_whole {bytes} {r} p = ap (page_from r) (sym (append-nil bytes)) ∙ p.reads []

abbrev pub is_in_line : ℕ → Bool
is_in_line c = not (c == 10)

split_line : (line rest : List ℕ) → list_all is_in_line line ≡ true → lines ((line ++ codes "\n") ++ rest) ≡ line ∷ lines rest
split_line [] rest h = refl
split_line (b ∷ line) rest h =
    let parts = and_parts (is_in_line b) (list_all is_in_line line) h in
    slice_split-cons_no (λ c. c == 10) b ((line ++ codes "\n") ++ rest) (not_true (b == 10) parts.0) ∙ ap (onto_first b) (split_line line rest parts.1)

step : (r : Option Reading) (line : List ℕ) (test : Bool) (b : ℕ) (more : List (List ℕ))
    → page_of r (line ∷ cond test ([] ∷ more) (onto_first b more)) ≡ page_of (next_line r line) (cond test ([] ∷ more) (onto_first b more))
step r line true b more = refl
step r line false b [] = refl
step r line false b (next ∷ more) = refl

page_after : (r : Option Reading) (line rest : List ℕ) → page_of r (line ∷ lines rest) ≡ page_from (next_line r line) rest
page_after r line [] = refl
page_after r line (b ∷ rest) = step r line (b == 10) b (lines rest)

pub leads_line : (line : List ℕ) (r s : Option Reading) → list_all is_in_line line ≡ true → next_line r line ≡ s → Leads (line ++ codes "\n") r s
leads_line line r s h e = record { reads = λ rest. ap (page_of r) (split_line line rest h) ∙ page_after r line rest ∙ ap (λ x. page_from x rest) e }

-- ---- the signs before and after a text

abbrev pub sign_if : Bool → List ℕ
sign_if wanted = if wanted then codes "\\&" else []

abbrev pub signed : Bool → Bool → List ℕ → List ℕ
signed front back text = sign_if front ++ (text ++ sign_if back)

all_sign : (p : ℕ → Bool) → list_all p (codes "\\&") ≡ true → (wanted : Bool) → list_all p (sign_if wanted) ≡ true
all_sign p h true = h
all_sign p h false = refl

all_signed : (p : ℕ → Bool) → list_all p (codes "\\&") ≡ true → (front back : Bool) (text : List ℕ) → list_all p text ≡ true → list_all p (signed front back text) ≡ true
all_signed p s front back text h = all_both p (sign_if front) (text ++ sign_if back) (all_sign p s front) (all_both p text (sign_if back) h (all_sign p s back))

-- whether a line does not begin with a dot, and begins neither with a blank nor with its end
abbrev pub no_dot : List ℕ → Bool
no_dot [] = true
no_dot (b ∷ line) = not (b == 46)

abbrev pub no_blank : List ℕ → Bool
no_blank [] = false
no_blank (b ∷ line) = not (b == 32)

no_dot_sign : (wanted : Bool) → no_dot (sign_if wanted) ≡ true
no_dot_sign true = refl
no_dot_sign false = refl

no_dot_signed : (front back : Bool) (text : List ℕ) → (front ≡ false → no_dot text ≡ true) → no_dot (signed front back text) ≡ true
no_dot_signed true back text h = refl
no_dot_signed false back [] h = no_dot_sign back
no_dot_signed false back (b ∷ text) h = h refl

no_blank_signed : (front back : Bool) (text : List ℕ) → (front ≡ false → no_blank text ≡ true) → no_blank (signed front back text) ≡ true
no_blank_signed true back text h = refl
no_blank_signed false back [] h = let no : false ≡ true = h refl in cc
no_blank_signed false back (b ∷ text) h = h refl

-- ---- how a line ends

last-append : (b : ℕ) (xs ys : List ℕ) → last_of b (xs ++ ys) ≡ last_of (last_of b xs) ys
last-append b [] ys = refl
last-append b (c ∷ xs) ys = last-append c xs ys

last_after_sign : (front : Bool) (text : List ℕ) → (last_of 0 text == 32) ≡ false → (last_of (last_of 0 (sign_if front)) text == 32) ≡ false
last_after_sign true [] h = refl
last_after_sign true (b ∷ text) h = h
last_after_sign false text h = h

last_signed : (front back : Bool) (text : List ℕ) → (back ≡ false → (last_of 0 text == 32) ≡ false) → (last_of (last_of (last_of 0 (sign_if front)) text) (sign_if back) == 32) ≡ false
last_signed front true text h = refl
last_signed front false text h = last_after_sign front text (h refl)

ends_signed : (front back : Bool) (text : List ℕ) → (back ≡ false → (last_of 0 text == 32) ≡ false) → ends_in_blank (signed front back text) ≡ false
ends_signed front back text h =
    ap (λ c. c == 32) (last-append 0 (sign_if front) (text ++ sign_if back) ∙ last-append (last_of 0 (sign_if front)) text (sign_if back))
    ∙ last_signed front back text h

plain_of : (line : List ℕ) → no_blank line ≡ true → ends_in_blank line ≡ false → is_plain_input line ≡ true
plain_of [] h e = h
plain_of (b ∷ line) h e = and_from (not (b == 32)) (not (last_of b line == 32)) h (not_false (last_of b line == 32) e)

-- ---- what it shows

sign_shows : (wanted : Bool) (shown : List Glyph) → run false (in_text Roman shown) (sign_if wanted) ≡ in_text Roman shown
sign_shows wanted shown = run_if false wanted (in_text Roman shown) (codes "\\&") (λ _. refl)

signed_shows : (front back : Bool) (text : List ℕ) (shown : List Glyph) → run false (in_text Roman []) text ≡ in_text Roman shown → glyphs false (signed front back text) ≡ Some shown
signed_shows front back text shown e =
    ap Reader.end_of_line (run_then false (in_text Roman []) (in_text Roman []) (in_text Roman shown) (sign_if front) (text ++ sign_if back) (sign_shows front [])
    (run_then false (in_text Roman []) (in_text Roman shown) (in_text Roman shown) text (sign_if back) e (sign_shows back shown)))

-- ---- what it asks for

input_of : (b : ℕ) (line : List ℕ) → (b == 46) ≡ false → (b == 39) ≡ false → line_of (b ∷ line) ≡ Some (Input (b ∷ line))
input_of b line not_dot not_quote = rw (not_dot, not_quote) refl

is_input : (line : List ℕ) → no_dot line ≡ true → list_all is_text_byte line ≡ true → line_of line ≡ Some (Input line)
is_input [] h g = refl
is_input (b ∷ line) h g =
    let first : is_text_byte b ≡ true = (and_parts (is_text_byte b) (list_all is_text_byte line) g).0 in
    let later = (and_parts (not (b == 10)) (not (b == 34) && not (b == 39)) first).1 in
    input_of b line (not_true (b == 46) h) (not_true (b == 39) (and_parts (not (b == 34)) (not (b == 39)) later).1)

or_true : (x : Bool) → (x || true) ≡ true
or_true true = refl
or_true false = refl

-- whether a line may stand in a place
abbrev MayStand : Reading → List ℕ → Type 0
MayStand read line = (is_in_example read.stand || is_plain_input line) ≡ true

may_if_plain : (read : Reading) (line : List ℕ) → is_plain_input line ≡ true → MayStand read line
may_if_plain read line h = ap (λ (x : Bool). is_in_example read.stand || x) h ∙ or_true (is_in_example read.stand)

input_placed : (read : Reading) (line : List ℕ) (shown : List Glyph) → line_of line ≡ Some (Input line) → ends_in_blank line ≡ false → MayStand read line → glyphs false line ≡ Some shown
    → next_line (Some read) line ≡ placed read read.stand shown
input_placed read line shown input ends may reads =
    ap (done_if read) input
    ∙ ap (λ (x : Bool). if x then placed_if read read.stand (glyphs false line) else None)
    (and_from (not (ends_in_blank line)) (is_in_example read.stand || is_plain_input line) (not_false (ends_in_blank line) ends) may)
    ∙ ap (placed_if read read.stand) reads

leads_signed : (read : Reading) (front back : Bool) (text : List ℕ) (shown : List Glyph) → list_all is_text_byte text ≡ true
    → (front ≡ false → no_dot text ≡ true) → (back ≡ false → (last_of 0 text == 32) ≡ false) → MayStand read (signed front back text)
    → run false (in_text Roman []) text ≡ in_text Roman shown
    → Leads (sign_if front ++ (text ++ (sign_if back ++ codes "\n"))) (Some read) (placed read read.stand shown)
leads_signed read front back text shown bytes f b may e =
    let line : List ℕ = signed front back text in
    let all : list_all is_text_byte line ≡ true = all_signed is_text_byte refl front back text bytes in
    subst (λ x. Leads x (Some read) (placed read read.stand shown))
    (append_assoc (sign_if front) (text ++ sign_if back) (codes "\n") ∙ ap (λ x. sign_if front ++ x) (append_assoc text (sign_if back) (codes "\n")))
    (leads_line line (Some read) (placed read read.stand shown) (weaker is_text_byte is_in_line (λ c h. (and_parts (not (c == 10)) (not (c == 34) && not (c == 39)) h).0) line all)
    (input_placed read line shown (is_input line (no_dot_signed front back text f) all) (ends_signed front back text b) may (signed_shows front back text shown e)))

-- ---- as they are written

abbrev wants_front : List ℕ → Bool
wants_front [] = true
wants_front (b ∷ line) = (b == 46 || b == 32) || is_glyph_first (b ∷ line)

front_is : (text : List ℕ) → line_front text ≡ sign_if (wants_front text)
front_is [] = refl
front_is (b ∷ text) = refl

front_no_dot : (text : List ℕ) → wants_front text ≡ false → no_dot text ≡ true
front_no_dot [] h = cc
front_no_dot (b ∷ text) h = not_false (b == 46) (or_false (b == 46) (b == 32) (or_false (b == 46 || b == 32) (is_glyph_first (b ∷ text)) h).0).0

front_no_blank : (text : List ℕ) → wants_front text ≡ false → no_blank text ≡ true
front_no_blank [] h = cc
front_no_blank (b ∷ text) h = not_false (b == 32) (or_false (b == 46) (b == 32) (or_false (b == 46 || b == 32) (is_glyph_first (b ∷ text)) h).0).1

-- a line of text that does not end with a blank, unless a sign follows it
plain_leads : (read : Reading) (back : Bool) (text : List ℕ) (shown : List Glyph) → list_all is_text_byte text ≡ true → (back ≡ false → (last_of 0 text == 32) ≡ false)
    → run false (in_text Roman []) text ≡ in_text Roman shown
    → Leads (line_front text ++ (text ++ (sign_if back ++ codes "\n"))) (Some read) (placed read read.stand shown)
plain_leads read back text shown bytes b e =
    let front : Bool = wants_front text in
    let plain : is_plain_input (signed front back text) ≡ true = plain_of (signed front back text) (no_blank_signed front back text (front_no_blank text)) (ends_signed front back text b) in
    subst (λ x. Leads (x ++ (text ++ (sign_if back ++ codes "\n"))) (Some read) (placed read read.stand shown)) (sym (front_is text))
    (leads_signed read front back text shown bytes (front_no_dot text) b (may_if_plain read (signed front back text) plain) e)

pub input_leads : (read : Reading) (text : List ℕ) (shown : List Glyph) → list_all is_text_byte text ≡ true → run false (in_text Roman []) text ≡ in_text Roman shown
    → Leads (input_line text) (Some read) (placed read read.stand shown)
input_leads read text shown bytes e = plain_leads read (last_of 0 text == 32) text shown bytes (λ h. h) e

last_solid : (b : ℕ) (text : List ℕ) → (b == 32) ≡ false → list_all is_solid text ≡ true → (last_of b text == 32) ≡ false
last_solid b [] e h = e
last_solid b (c ∷ text) e h =
    let parts = and_parts (is_solid c) (list_all is_solid text) h in
    last_solid c text (solid_parts c parts.0).1 parts.1

-- an item of a usage, with or without a sign after it
pub item_leads : (read : Reading) (back : Bool) (text : List ℕ) (shown : List Glyph) → list_all is_text_byte text ≡ true → list_all is_solid text ≡ true → run false (in_text Roman []) text ≡ in_text Roman shown
    → Leads (line_front text ++ (text ++ (sign_if back ++ codes "\n"))) (Some read) (placed read read.stand shown)
item_leads read back text shown bytes solid e = plain_leads read back text shown bytes (λ _. last_solid 0 text refl solid) e

abbrev wants_code_front : List ℕ → Bool
wants_code_front [] = false
wants_code_front (b ∷ line) = b == 46 || is_glyph_first (b ∷ line)

code_front_is : (text : List ℕ) → code_front text ≡ sign_if (wants_code_front text)
code_front_is [] = refl
code_front_is (b ∷ text) = refl

code_no_dot : (text : List ℕ) → wants_code_front text ≡ false → no_dot text ≡ true
code_no_dot [] h = refl
code_no_dot (b ∷ text) h = not_false (b == 46) (or_false (b == 46) (is_glyph_first (b ∷ text)) h).0

pub code_leads : (read : Reading) (text : List ℕ) (shown : List Glyph) → is_in_example read.stand ≡ true → list_all is_text_byte text ≡ true → run false (in_text Roman []) text ≡ in_text Roman shown
    → Leads (code_front text ++ (text ++ (line_back text ++ codes "\n"))) (Some read) (placed read read.stand shown)
code_leads read text shown example bytes e =
    let front : Bool = wants_code_front text in
    let back : Bool = last_of 0 text == 32 in
    subst (λ x. Leads (x ++ (text ++ (line_back text ++ codes "\n"))) (Some read) (placed read read.stand shown)) (sym (code_front_is text))
    (leads_signed read front back text shown bytes (code_no_dot text) (λ h. h) (ap (λ (x : Bool). x || is_plain_input (signed front back text)) example) e)
