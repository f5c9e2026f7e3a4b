-- Lines of pieces and of terms: they begin no code, and are empty where they show nothing.
use Rattle.std.proofs.Common.{◌≡◌, ℕ, ◌+◌, zero, suc, arith, Bool, true, false, ◌&&◌, List, [], ◌∷◌, ◌++◌, refl, sym, ap, ◌∙◌, subst, inl, inr, append-nil, append_assoc}
use Rattle.std.specs.Prelude.{Option, Some, None, map, flat_map, ◌==◌, nat_le}
use Rattle.std.specs.List.{list_all, list_any}
use Rattle.std.proofs.lemmas.Bool.{and_parts}
use Rattle.page_model.specs.Content.{words, literal, value, link, page, Line, TargetSaid}
use Rattle.page_model.specs.Permitted.{are_permitted, is_permitted_line}
use Rattle.markdown_page.specs.Bytes.{graves, holds_definition, is_grave}
use Rattle.markdown_page.specs.Sheet.{Glyph}
use Rattle.markdown_page.specs.Kept.{first_term, further_term, is_link, line_bytes, line_shown, piece_shown, plain, shown_byte, spanned, target_address, terms_shown}
use Rattle.markdown_page.specs.Exact.{after_literal, escaped, first_span, further_span, leading_span, link_text, page_link, pieces_text, span_left, span_text, terms_text}
use Rattle.markdown_page.specs.Reader.{code_glyph, is_fence}
use Rattle.markdown_page.proofs.Bools.{all_both, and_right, bool_cases, not_true}
use Rattle.markdown_page.proofs.Spans.{is_solid, span_form}
use Rattle.markdown_page.proofs.Pieces.{begins_free, bytes_of, escaped_free, line_permitted, link_written, more_span, solid_text}

-- ---- what begins no code

free_fence : (a more : List ℕ) → begins_free a ≡ true → is_fence 0 (a ++ more) ≡ false
free_fence [] more h = cc
free_fence (b ∷ a) more h = rw (not_true (b == 96) h) refl

pub graves_fence : (m n : ℕ) (text : List ℕ) → is_fence n (graves m ++ text) ≡ is_fence (m + n) text
graves_fence zero n text = ap (λ x. is_fence x text) (let e : n ≡ 0 + n = omega arith in e)
graves_fence (suc m) n text = graves_fence m (suc n) text ∙ ap (λ x. is_fence x text) (let e : m + suc n ≡ suc m + n = omega arith in e)

any_after : (p : ℕ → Bool) (a b : List ℕ) → list_any p b ≡ true → list_any p (a ++ b) ≡ true
any_after p [] b h = h
any_after p (x ∷ a) b h = elim (bool_cases (p x)) [ inl e ↦ rw e refl | inr e ↦ rw e (any_after p a b h) ]

between_fence : (n first : ℕ) (more rest : List ℕ) (count : ℕ) → (first == 96) ≡ false → is_fence n (((first ∷ more) ++ graves (suc count)) ++ rest) ≡ false
between_fence n first more rest count h =
    let any : list_any is_grave ((more ++ graves (suc count)) ++ rest) ≡ true = ap (list_any is_grave) (append_assoc more (graves (suc count)) rest) ∙ any_after is_grave more (graves (suc count) ++ rest) refl in
    rw (h, any) (and_right (nat_le 3 n) false refl)

pub span_fence : (text rest : List ℕ) → list_all is_solid text ≡ true → is_fence 0 rest ≡ false → is_fence 0 (span_text text ++ rest) ≡ false
span_fence [] rest solid h = h
span_fence (b ∷ text) rest solid h =
    let form = span_form b text solid in
    let inside : List ℕ = (form.between.first ∷ form.between.more) ++ graves (suc form.count) in
    ap (λ x. is_fence 0 (x ++ rest)) form.is
    ∙ ap (is_fence 0) (append_assoc (graves (suc form.count)) inside rest)
    ∙ graves_fence (suc form.count) 0 (inside ++ rest)
    ∙ between_fence (suc form.count + 0) form.between.first form.between.more rest form.count form.between.no_grave

piece_fence : (span written more : List ℕ) → list_all is_solid span ≡ true → begins_free written ≡ true → is_fence 0 ((span_text span ++ written) ++ more) ≡ false
piece_fence span written more solid free = ap (is_fence 0) (append_assoc (span_text span) written more) ∙ span_fence span (written ++ more) solid (free_fence written more free)

abbrev NoFence : Line → Type 0
NoFence line = (span : List ℕ) → list_all is_solid span ≡ true → is_fence 0 (pieces_text span line) ≡ false

plain_fence : (line : Line) → NoFence line → (text : List ℕ) (span : List ℕ) → list_all is_solid span ≡ true → is_fence 0 (after_literal span text (escaped false false text) ++ pieces_text (span_left span text) line) ≡ false
plain_fence line later [] span solid = later span solid
plain_fence line later (b ∷ text) span solid = piece_fence span (escaped false false (b ∷ text)) (pieces_text [] line) solid (escaped_free false false b text)

link_fence : (line : Line) → NoFence line → (text : List ℕ) (span : List ℕ) → list_all is_solid span ≡ true → is_fence 0 (after_literal span text (link_text text) ++ pieces_text (span_left span text) line) ≡ false
link_fence line later [] span solid = later span solid
link_fence line later (b ∷ text) span solid = piece_fence span (link_text (b ∷ text)) (pieces_text [] line) solid (link_written (is_link (b ∷ text)) b text)

page_fence : (line : Line) → NoFence line → (name : List ℕ) (span : List ℕ) → list_all is_solid span ≡ true → is_fence 0 (after_literal span name (page_link name) ++ pieces_text (span_left span name) line) ≡ false
page_fence line later [] span solid = later span solid
page_fence line later (b ∷ name) span solid = piece_fence span (page_link (b ∷ name)) (pieces_text [] line) solid refl

span_alone_fence : (text : List ℕ) → list_all is_solid text ≡ true → is_fence 0 (span_text text) ≡ false
span_alone_fence text solid = ap (is_fence 0) (sym (append-nil (span_text text))) ∙ span_fence text [] solid refl

pub pieces_fence : (line : Line) → is_permitted_line line ≡ true → NoFence line
pieces_fence [] h = λ span solid. span_alone_fence span solid
pieces_fence (words text ∷ line) h = plain_fence line (pieces_fence line (and_parts (are_permitted text) (is_permitted_line line) h).1) text
pieces_fence (value text ∷ line) h = plain_fence line (pieces_fence line (and_parts (are_permitted text) (is_permitted_line line) h).1) text
pieces_fence (link text ∷ line) h = link_fence line (pieces_fence line (and_parts (are_permitted text) (is_permitted_line line) h).1) text
pieces_fence (page name ∷ line) h = page_fence line (pieces_fence line (and_parts (are_permitted name) (is_permitted_line line) h).1) name
pieces_fence (literal text ∷ line) h =
    let parts = and_parts (are_permitted text) (is_permitted_line line) h in
    λ span solid. pieces_fence line parts.1 (span ++ map shown_byte text) (all_both is_solid span (map shown_byte text) solid (solid_text text (bytes_of text parts.0)))

further_fence : (terms : List Line) (rest : List ℕ) → is_fence 0 rest ≡ false → is_fence 0 (flat_map further_span terms ++ rest) ≡ false
further_fence [] rest h = h
further_fence (term ∷ terms) rest h = refl

leading_fence : (name text rest : List ℕ) → list_all is_solid (map shown_byte text) ≡ true → is_fence 0 rest ≡ false → is_fence 0 (leading_span name text ++ rest) ≡ false
leading_fence name [] rest solid h = h
leading_fence name (b ∷ text) rest solid h = elim (bool_cases (holds_definition (b ∷ text))) [ inl e ↦ rw e (span_fence (map shown_byte (b ∷ text)) rest solid h) | inr e ↦ rw e refl ]

first_fence : (name : Option TargetSaid) (term : Line) (rest : List ℕ) → is_permitted_line term ≡ true → is_fence 0 rest ≡ false → is_fence 0 (first_span name term ++ rest) ≡ false
first_fence None term rest h e = span_fence (map shown_byte (line_bytes term)) rest (solid_text (line_bytes term) (line_permitted term h)) e
first_fence (Some name) term rest h e = leading_fence (target_address name) (line_bytes term) rest (solid_text (line_bytes term) (line_permitted term h)) e

pub terms_fence : (name : Option TargetSaid) (terms : List Line) (rest : List ℕ) → list_all is_permitted_line terms ≡ true → is_fence 0 rest ≡ false → is_fence 0 (terms_text name terms ++ rest) ≡ false
terms_fence name [] rest h e = e
terms_fence name (term ∷ terms) rest h e =
    ap (is_fence 0) (append_assoc (first_span name term) (flat_map further_span terms) rest)
    ∙ first_fence name term (flat_map further_span terms ++ rest) (and_parts (is_permitted_line term) (list_all is_permitted_line terms) h).0 (further_fence terms rest e)

-- ---- what shows nothing

abbrev pub is_nil : {X : Type 0} → List X → Bool
is_nil [] = true
is_nil (x ∷ xs) = false

-- whether both are empty or neither is
abbrev pub AreAlike : List ℕ → List Glyph → Type 0
AreAlike bytes glyphs = is_nil bytes ≡ is_nil glyphs

nil_both : {X : Type 0} (a b : List X) → is_nil (a ++ b) ≡ (is_nil a && is_nil b)
nil_both [] b = refl
nil_both (x ∷ a) b = refl

pub alike_both : (a b : List ℕ) (g h : List Glyph) → AreAlike a g → AreAlike b h → AreAlike (a ++ b) (g ++ h)
alike_both a b g h p q = nil_both a b ∙ ap (λ (x : Bool). x && is_nil b) p ∙ ap (λ (x : Bool). is_nil g && x) q ∙ sym (nil_both g h)

span_alike : (text : List ℕ) → AreAlike (span_text text) (map code_glyph text)
span_alike [] = refl
span_alike (b ∷ text) = refl

spanned_alike : (text : List ℕ) → AreAlike (span_text (map shown_byte text)) (spanned text)
spanned_alike [] = refl
spanned_alike (b ∷ text) = refl

pub free_alike : (a : List ℕ) (h : List Glyph) → is_nil h ≡ false → begins_free a ≡ true → AreAlike a h
free_alike [] h n e = cc
free_alike (b ∷ a) h n e = sym n

abbrev LinesAlike : Line → Type 0
LinesAlike line = (span : List ℕ) → AreAlike (pieces_text span line) (map code_glyph span ++ line_shown line)

piece_alike : (line : Line) → LinesAlike line → (span written : List ℕ) (g : List Glyph) → AreAlike written g → AreAlike ((span_text span ++ written) ++ pieces_text [] line) (map code_glyph span ++ (g ++ line_shown line))
piece_alike line later span written g h =
    subst (λ x. AreAlike ((span_text span ++ written) ++ pieces_text [] line) x) (append_assoc (map code_glyph span) g (line_shown line))
    (alike_both (span_text span ++ written) (pieces_text [] line) (map code_glyph span ++ g) (line_shown line) (alike_both (span_text span) written (map code_glyph span) g (span_alike span) h) (later []))

plain_alike : (line : Line) → LinesAlike line → (text span : List ℕ) → AreAlike (after_literal span text (escaped false false text) ++ pieces_text (span_left span text) line) (map code_glyph span ++ (plain text ++ line_shown line))
plain_alike line later [] span = later span
plain_alike line later (b ∷ text) span = piece_alike line later span (escaped false false (b ∷ text)) (plain (b ∷ text)) (free_alike (escaped false false (b ∷ text)) (plain (b ∷ text)) refl (escaped_free false false b text))

link_shown_alike : (b : ℕ) (text : List ℕ) → AreAlike (link_text (b ∷ text)) (piece_shown (link (b ∷ text)))
link_shown_alike b text = elim (bool_cases (is_link (b ∷ text))) [ inl e ↦ rw e refl | inr e ↦ rw e (free_alike (escaped false false (b ∷ text)) (plain (b ∷ text)) refl (escaped_free false false b text)) ]

link_alike : (line : Line) → LinesAlike line → (text span : List ℕ) → AreAlike (after_literal span text (link_text text) ++ pieces_text (span_left span text) line) (map code_glyph span ++ (piece_shown (link text) ++ line_shown line))
link_alike line later [] span = later span
link_alike line later (b ∷ text) span = piece_alike line later span (link_text (b ∷ text)) (piece_shown (link (b ∷ text))) (link_shown_alike b text)

page_alike : (line : Line) → LinesAlike line → (name span : List ℕ) → AreAlike (after_literal span name (page_link name) ++ pieces_text (span_left span name) line) (map code_glyph span ++ (piece_shown (page name) ++ line_shown line))
page_alike line later [] span = later span
page_alike line later (b ∷ name) span = piece_alike line later span (page_link (b ∷ name)) (piece_shown (page (b ∷ name))) refl

pub pieces_alike : (line : Line) → LinesAlike line
pieces_alike [] = λ span. subst (λ x. AreAlike (span_text span) x) (sym (append-nil (map code_glyph span))) (span_alike span)
pieces_alike (words text ∷ line) = plain_alike line (pieces_alike line) text
pieces_alike (value text ∷ line) = plain_alike line (pieces_alike line) text
pieces_alike (link text ∷ line) = link_alike line (pieces_alike line) text
pieces_alike (page name ∷ line) = page_alike line (pieces_alike line) name
pieces_alike (literal text ∷ line) = λ span. subst (λ x. AreAlike (pieces_text (span ++ map shown_byte text) line) x) (more_span span text (line_shown line)) (pieces_alike line (span ++ map shown_byte text))

leading_alike : (name : TargetSaid) (text : List ℕ) → AreAlike (leading_span (target_address name) text) (first_term (Some name) text)
leading_alike name [] = elim (bool_cases (holds_definition [])) [ inl e ↦ refl | inr e ↦ refl ]
leading_alike name (b ∷ text) = elim (bool_cases (holds_definition (b ∷ text))) [ inl e ↦ rw e refl | inr e ↦ rw e refl ]

first_alike : (name : Option TargetSaid) (term : Line) → AreAlike (first_span name term) (first_term name (line_bytes term))
first_alike None term = spanned_alike (line_bytes term)
first_alike (Some name) term = leading_alike name (line_bytes term)

further_alike : (terms : List Line) → AreAlike (flat_map further_span terms) (flat_map further_term terms)
further_alike [] = refl
further_alike (term ∷ terms) = refl

pub terms_alike : (name : Option TargetSaid) (terms : List Line) → AreAlike (terms_text name terms) (terms_shown name terms)
terms_alike name [] = refl
terms_alike name (term ∷ terms) = alike_both (first_span name term) (flat_map further_span terms) (first_term name (line_bytes term)) (flat_map further_term terms) (first_alike name term) (further_alike terms)
