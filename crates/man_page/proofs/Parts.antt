-- Parts of a page, the first one and the others.
use Rattle.std.proofs.Common.{◌≡◌, ℕ, ◌+◌, ◌<◌, Bool, not, ◌&&◌, drop, get_or, map, true, false, List, [], ◌∷◌, ◌++◌, append_assoc, append-nil, add-one, arith, suc, refl, sym, ap, ◌∙◌}
use Rattle.std.proofs.Math.Seq.{drop-cons}
use Rattle.std.proofs.lemmas.Bool.{ne_eqb}
use Rattle.std.specs.Prelude.{Result, Ok, Err, OnOk, is_ok, flat_map, codes, ◌==◌, length, if◌then◌else◌}
use Rattle.std.specs.List.{list_any}
use Rattle.page_model.specs.Content.{Piece, Line, BlockSaid, paragraph, code, bullets, PartSaid}
use Rattle.man_page.specs.declared.escape.Role.{Role}
use Rattle.man_page.specs.declared.escape.Role.TheVariants.{Text, Item}
use Rattle.man_page.specs.Exact.{begins_after, is_heading, part_text, parts_text, body_text, escaped, inner_text, input_line, is_blank, is_spaced_text, lines_text, piece_text, pieces_from, pieces_text, terms_text, title_line, title_text, wants_quotes}
use Rattle.man_page.specs.Steps.{first_text, further_line, further_term, title_role, title_word}
use Rattle.man_page.specs.Kept.{TitleSaid}

-- the first of what is left of a list
pub drop_next : {X : Type 0} (xs : List X) (i : ℕ) (d : X) → i < length xs → drop i xs ≡ get_or xs i d ∷ drop (i + 1) xs
drop_next xs i d h = rw (add-one i) (drop-cons xs i d h)

pub lines_first : (section : List ℕ) (line : Line) (lines : List Line) → lines_text section (line ∷ lines) ≡ input_line (pieces_text Text true section line) ++ flat_map (further_line section) lines
lines_first section line [] = sym (append-nil (input_line (pieces_text Text true section line)))
lines_first section line (next ∷ lines) =
    ap (λ more. input_line (pieces_text Text true section line) ++ (codes ".br\n" ++ more)) (lines_first section next lines)
    ∙ ap (λ more. input_line (pieces_text Text true section line) ++ more) (sym (append_assoc (codes ".br\n") (input_line (pieces_text Text true section next)) (flat_map (further_line section) lines)))

pub terms_first : (section : List ℕ) (term : Line) (terms : List Line) → terms_text section (term ∷ terms) ≡ pieces_text Text false section term ++ flat_map (further_term section) terms
terms_first section term [] = sym (append-nil (pieces_text Text false section term))
terms_first section term (next ∷ terms) =
    ap (λ more. pieces_text Text false section term ++ (codes ", " ++ more)) (terms_first section next terms)
    ∙ ap (λ more. pieces_text Text false section term ++ more) (sym (append_assoc (codes ", ") (pieces_text Text false section next) (flat_map (further_term section) terms)))

pub body_first : (section : List ℕ) (first : BlockSaid) (blocks : List BlockSaid) → body_text section (first ∷ blocks) ≡ first_text section first ++ flat_map (inner_text section) blocks
body_first section (paragraph lines) blocks = refl
body_first section (code lines) blocks = refl
body_first section (bullets items) blocks = refl

pub wants_more : (word : List ℕ) → (length word == 0) ≡ false → wants_quotes word ≡ list_any is_blank word
wants_more [] h = cc
wants_more (b ∷ word) h = refl

not_empty : (title : List ℕ) → (suc (length title) == 0) ≡ true → ⊥
not_empty title h = let n : (suc (length title) == 0) ≡ false = ne_eqb (suc (length title)) 0 (λ e. absurd (omega arith)) in cc

pub no_title : (title : List ℕ) → (length title == 0) ≡ true → title_text title ≡ codes "\\&"
no_title [] h = refl
no_title (b ∷ title) h = absurd (not_empty title h)

choice : (spaced : Bool) (title : List ℕ) → (if spaced then escaped Text title else escaped Item title) ≡ escaped (if spaced then Text else Item) title
choice true title = refl
choice false title = refl

pub title_by_role : (title : List ℕ) → (length title == 0) ≡ false → title_text title ≡ escaped (title_role title) title
title_by_role [] h = cc
title_by_role (b ∷ title) h = choice (is_spaced_text true (b ∷ title)) (b ∷ title)

pub spaced_next : (after : Bool) (bytes : List ℕ) (i : ℕ) → i < length bytes → is_spaced_text after (drop i bytes) ≡ (if is_blank (get_or bytes i 0) then not after && is_spaced_text true (drop (i + 1) bytes) else is_spaced_text false (drop (i + 1) bytes))
spaced_next after bytes i h = ap (is_spaced_text after) (drop_next bytes i 0 h)

pub parts_next : {X : Type 0} (section : List ℕ) (after : Bool) (see : X → PartSaid) (parts : List X) (i : ℕ) (d : X) → i < length parts → parts_text section after (map see (drop i parts)) ≡ part_text section after (see (get_or parts i d)) ++ parts_text section (is_heading (see (get_or parts i d))) (map see (drop (i + 1) parts))
parts_next section after see parts i d h = ap (λ xs. parts_text section after (map see xs)) (drop_next parts i d h)

pub pieces_next : {X : Type 0} (role : Role) (guarded front : Bool) (section : List ℕ) (see : X → Piece) (pieces : List X) (i : ℕ) (d : X) → i < length pieces
    → pieces_from role guarded front section (map see (drop i pieces)) ≡ piece_text role (guarded && front) section (see (get_or pieces i d)) ++ pieces_from role guarded (begins_after front (see (get_or pieces i d))) section (map see (drop (i + 1) pieces))
pieces_next role guarded front section see pieces i d h = ap (λ xs. pieces_from role guarded front section (map see xs)) (drop_next pieces i d h)

-- the title line, word by word, after what stands before it
pub title_line_words : (out : List ℕ) (title : TitleSaid) → ((((((out ++ codes ".TH") ++ title_word title.name) ++ title_word title.section) ++ title_word title.date) ++ title_word title.vendor) ++ title_word title.title) ++ codes "\n" ≡ out ++ title_line title
title_line_words out title = simp (append_assoc {A = ℕ}) refl

title_joined : (title : TitleSaid) (out a b c d e f g : List ℕ) → a ≡ out ++ codes ".TH" → b ≡ a ++ title_word title.name → c ≡ b ++ title_word title.section → d ≡ c ++ title_word title.date → e ≡ d ++ title_word title.vendor → f ≡ e ++ title_word title.title → g ≡ f ++ codes "\n" → g ≡ out ++ title_line title
title_joined title out a b c d e f g to_a to_b to_c to_d to_e to_f to_g =
    to_g
    ∙ ap (λ x. x ++ codes "\n") (to_f
    ∙ ap (λ x. x ++ title_word title.title) (to_e
    ∙ ap (λ x. x ++ title_word title.vendor) (to_d
    ∙ ap (λ x. x ++ title_word title.date) (to_c
    ∙ ap (λ x. x ++ title_word title.section) (to_b
    ∙ ap (λ x. x ++ title_word title.name) to_a)))))
    ∙ title_line_words out title

pub title_written : {T E : Type 0} (title : TitleSaid) (out a b c d e f g : List ℕ) (r : Result T E) → a ≡ out ++ codes ".TH" → b ≡ a ++ title_word title.name → c ≡ b ++ title_word title.section → d ≡ c ++ title_word title.date → e ≡ d ++ title_word title.vendor → f ≡ e ++ title_word title.title → g ≡ (if is_ok r then f ++ codes "\n" else f) → OnOk r (g ≡ out ++ title_line title)
title_written title out a b c d e f g (Ok v) to_a to_b to_c to_d to_e to_f to_g = title_joined title out a b c d e f g to_a to_b to_c to_d to_e to_f to_g
title_written title out a b c d e f g (Err e') to_a to_b to_c to_d to_e to_f to_g = tt

-- the first line and the further ones
pub lines_joined : {X : Type 0} (section out mid new : List ℕ) (lines : List X) (see : X → Line) (first : X) (rest : List X) → lines ≡ first ∷ rest → mid ≡ out ++ input_line (pieces_text Text true section (see first)) → new ≡ mid ++ flat_map (further_line section) (map see rest) → new ≡ out ++ lines_text section (map see lines)
lines_joined section out mid new lines see first rest is m n =
    n ∙ ap (λ x. x ++ flat_map (further_line section) (map see rest)) m
    ∙ append_assoc out (input_line (pieces_text Text true section (see first))) (flat_map (further_line section) (map see rest))
    ∙ ap (λ x. out ++ x) (sym (lines_first section (see first) (map see rest)) ∙ ap (λ xs. lines_text section (map see xs)) (sym is))

pub terms_joined : {X : Type 0} (section out mid new : List ℕ) (terms : List X) (see : X → Line) (first : X) (rest : List X) → terms ≡ first ∷ rest → mid ≡ out ++ pieces_text Text false section (see first) → new ≡ mid ++ flat_map (further_term section) (map see rest) → new ≡ out ++ terms_text section (map see terms)
terms_joined section out mid new terms see first rest is m n =
    n ∙ ap (λ x. x ++ flat_map (further_term section) (map see rest)) m
    ∙ append_assoc out (pieces_text Text false section (see first)) (flat_map (further_term section) (map see rest))
    ∙ ap (λ x. out ++ x) (sym (terms_first section (see first) (map see rest)) ∙ ap (λ xs. terms_text section (map see xs)) (sym is))
