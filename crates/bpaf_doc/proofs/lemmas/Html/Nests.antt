-- A page of well-nested fragments is well-nested HTML, and has the tags of its blocks.
use Rattle.std.specs.Prelude.{◌++◌, ◌∷◌, ◌≡◌}
use Rattle.bpaf_doc.proofs.lemmas.Html.Words.{arith, ℕ, Bool, true, false, List, [], map, refl, sym, ap, ◌∙◌, subst, append_assoc, append-nil, flat_map, filter, codes, list_all, flat_map-append, list_all-append, AllPass-from_list_all, and_from, filter-append, Style, Block, Chunk, Fragment, TextStart, Shown, TextEnd, Hidden, Start, End, Of, is_mark_or_fragment, Written, page_after, page_after_all, first_or_false, with_heading, HtmlSnippet, Element, Tt, B, I, Div, IndentedDiv, Dt, Dd, Li, Dl, P, snippet_text, escaped_character, is_no_angle, opening_tag, closing_tag, IsWellNestedHtml, nothing as no_html, characters, line_break, enclosed as html_enclosed, joined as html_joined, block_elements, HasBlockTags, nothing as no_tags, fragment as one_fragment, enclosed as tags_enclosed, joined as tags_joined, open_each, close_each, is_block_tag}
use Rattle.bpaf_doc.specs.declared.buffer.Style.TheVariants as styles
use Rattle.bpaf_doc.specs.declared.buffer.Block.TheVariants as blocks
use Rattle.bpaf_doc.proofs.lemmas.Html.Cut.{spelled, snippets_of, cut_from, start_snippets, end_snippets}
use Rattle.bpaf_doc.proofs.lemmas.Html.Fragments.Nests.{Nests, nothing, text, hidden, enclosed, joined}

-- ---- where a page stands after some fragments

pub page-append : (p : Written) (front back : List Fragment) → page_after_all p (front ++ back) ≡ page_after_all (page_after_all p front) back
page-append p [] back = refl
page-append p (f ∷ fs) back = page-append (page_after p f) fs back

pub cut-append : (p : Written) (front back : List Fragment) → cut_from p (front ++ back) ≡ cut_from p front ++ cut_from (page_after_all p front) back
cut-append p [] back = refl
cut-append p (f ∷ fs) back = grind (arith, cut-append (page_after p f) fs back, append_assoc)

pub spelled-append : (xs ys : List HtmlSnippet) → spelled (xs ++ ys) ≡ spelled xs ++ spelled ys
spelled-append xs ys = flat_map-append snippet_text xs ys

-- fragments between two others
cut_around : (p : Written) (f g : Fragment) (inner : List Fragment)
    → cut_from p (f ∷ (inner ++ g ∷ [])) ≡ snippets_of p f ++ (cut_from (page_after p f) inner ++ snippets_of (page_after_all (page_after p f) inner) g)
cut_around p f g inner = grind (arith, cut-append, append-nil)

-- the blocks that are open are the same on both pages
abbrev SameBlocks : Written → Written → Type 0
SameBlocks p q = (q.in_list ≡ p.in_list) × (q.outer ≡ p.outer)

chunks_blocks : (p : Written) (style : Style) (chunks : List Chunk) → SameBlocks p (page_after_all p (map (Shown style) chunks))
chunks_blocks p style [] = (refl, refl)
chunks_blocks p style (c ∷ cs) = grind (arith, chunks_blocks (page_after p (Shown style c)) style cs)

start_outer : (p : Written) (b : Block) → (page_after p (Start b)).outer ≡ p.in_list ∷ p.outer
start_outer p b =
    let same : SameBlocks p (with_heading p b) = (grind arith, grind arith) in ap (λ x. x ∷ (with_heading p b).outer) same.0 ∙ ap (λ x. p.in_list ∷ x) same.1

nests_blocks : {fs : List Fragment} → Nests fs → (p : Written) → SameBlocks p (page_after_all p fs)
nests_blocks (nothing e) p = subst (λ x. SameBlocks p (page_after_all p x)) (sym e) (refl, refl)
nests_blocks (text style chunks e) p = grind (arith, page-append, chunks_blocks)
nests_blocks (hidden e) p = subst (λ x. SameBlocks p (page_after_all p x)) (sym e) (refl, refl)
nests_blocks (enclosed b inner e h) p =
    grind (arith, nests_blocks h (page_after p (Start b)), page-append, start_outer)
nests_blocks (joined front back e h k) p = grind (arith, nests_blocks h p, nests_blocks k (page_after_all p front), page-append)

-- ---- the tags of blocks

abbrev tags_of : List HtmlSnippet → List HtmlSnippet
tags_of snippets = filter (is_mark_or_fragment is_block_tag) snippets

tags-append : (xs ys : List HtmlSnippet) → tags_of (xs ++ ys) ≡ tags_of xs ++ tags_of ys
tags-append xs ys = filter-append (is_mark_or_fragment is_block_tag) xs ys

around_tags : (p : Written) (f g : Fragment) (inner : List Fragment)
    → tags_of (cut_from p (f ∷ (inner ++ g ∷ []))) ≡ tags_of (snippets_of p f) ++ (tags_of (cut_from (page_after p f) inner) ++ tags_of (snippets_of (page_after_all (page_after p f) inner) g))
around_tags p f g inner = ap tags_of (cut_around p f g inner) ∙ simp tags-append

text_start_tags : (p : Written) (style : Style) → tags_of (snippets_of p (TextStart style)) ≡ Of (TextStart style) ∷ []
text_start_tags p style = grind arith

chunk_tags : (p : Written) (style : Style) (chunk : Chunk) → tags_of (snippets_of p (Shown style chunk)) ≡ Of (Shown style chunk) ∷ []
chunk_tags p style chunk = grind arith

start_tags : (fresh in_list : Bool) (b : Block) → tags_of (start_snippets fresh in_list b) ≡ Of (Start b) ∷ open_each (block_elements in_list b)
start_tags fresh in_list b = grind arith

chunks_tags : (in_list : Bool) (p : Written) (style : Style) (chunks : List Chunk) → HasBlockTags in_list (map (Shown style) chunks) (tags_of (cut_from p (map (Shown style) chunks)))
chunks_tags in_list p style [] = no_tags refl refl
chunks_tags in_list p style (c ∷ cs) =
    tags_joined (Shown style c ∷ []) (map (Shown style) cs) (Of (Shown style c) ∷ []) (tags_of (cut_from (page_after p (Shown style c)) (map (Shown style) cs))) refl
    (tags-append (snippets_of p (Shown style c)) (cut_from (page_after p (Shown style c)) (map (Shown style) cs))
    ∙ ap (λ x. x ++ tags_of (cut_from (page_after p (Shown style c)) (map (Shown style) cs))) (chunk_tags p style c))
    (one_fragment (Shown style c) refl refl refl)
    (chunks_tags in_list (page_after p (Shown style c)) style cs)

text_tags : (in_list : Bool) (p : Written) (style : Style) (chunks : List Chunk)
    → HasBlockTags in_list (TextStart style ∷ (map (Shown style) chunks ++ TextEnd style ∷ [])) (tags_of (cut_from p (TextStart style ∷ (map (Shown style) chunks ++ TextEnd style ∷ []))))
text_tags in_list p style chunks =
    let shown : List Fragment = map (Shown style) chunks in
    let first : Written = page_after p (TextStart style) in
    let held : List HtmlSnippet = tags_of (cut_from first shown) in
    let whole : tags_of (cut_from p (TextStart style ∷ (shown ++ TextEnd style ∷ []))) ≡ Of (TextStart style) ∷ (held ++ Of (TextEnd style) ∷ [])
    = around_tags p (TextStart style) (TextEnd style) shown ∙ ap (λ x. x ++ (held ++ tags_of (snippets_of (page_after_all first shown) (TextEnd style)))) (text_start_tags p style)
    ∙ ap (λ x. Of (TextStart style) ∷ (held ++ x)) (grind arith) in
    tags_joined (TextStart style ∷ []) (shown ++ TextEnd style ∷ []) (Of (TextStart style) ∷ []) (held ++ Of (TextEnd style) ∷ []) refl whole
    (one_fragment (TextStart style) refl refl refl)
    (tags_joined shown (TextEnd style ∷ []) held (Of (TextEnd style) ∷ []) refl refl (chunks_tags in_list first style chunks) (one_fragment (TextEnd style) refl refl refl))

pub nests_tags : {fs : List Fragment} → Nests fs → (p : Written) → HasBlockTags p.in_list fs (tags_of (cut_from p fs))
nests_tags (nothing e) p = no_tags e (ap (λ x. tags_of (cut_from p x)) e)
nests_tags (text style chunks e) p = subst (λ x. HasBlockTags p.in_list x (tags_of (cut_from p x))) (sym e) (text_tags p.in_list p style chunks)
nests_tags (hidden e) p = one_fragment Hidden refl e (ap (λ x. tags_of (cut_from p x)) e)
nests_tags (enclosed b inner e h) p =
    let first : Written = page_after p (Start b) in
    let last : Written = page_after_all first inner in
    let held : List HtmlSnippet = tags_of (cut_from first inner) in
    let same : SameBlocks first last = nests_blocks h first in
    let back : first_or_false last.outer ≡ p.in_list = ap first_or_false (same.1 ∙ start_outer p b) in
    let opens : List HtmlSnippet = open_each (block_elements p.in_list b) in
    let closes : List HtmlSnippet = close_each (block_elements p.in_list b) in
    let ending : tags_of (snippets_of last (End b)) ≡ closes ++ Of (End b) ∷ []
    = (grind arith) ∙ ap (λ l. close_each (block_elements l b) ++ Of (End b) ∷ []) back in
    let whole : tags_of (cut_from p (Start b ∷ (inner ++ End b ∷ []))) ≡ Of (Start b) ∷ (opens ++ (held ++ (closes ++ Of (End b) ∷ [])))
    = around_tags p (Start b) (End b) inner ∙ ap (λ x. x ++ (held ++ tags_of (snippets_of last (End b)))) (start_tags p.fresh p.in_list b) ∙ ap (λ x. Of (Start b) ∷ (opens ++ (held ++ x))) ending in
    let flat : opens ++ (held ++ (closes ++ Of (End b) ∷ [])) ≡ opens ++ held ++ closes ++ Of (End b) ∷ []
    = simp append_assoc in
    tags_enclosed b inner held e (ap (λ x. tags_of (cut_from p x)) e ∙ whole ∙ ap (λ x. Of (Start b) ∷ x) flat) (nests_tags h first)
nests_tags (joined front back e h k) p =
    let next : Written = page_after_all p front in
    tags_joined front back (tags_of (cut_from p front)) (tags_of (cut_from next back)) e
    (ap (λ x. tags_of (cut_from p x)) e ∙ ap tags_of (cut-append p front back) ∙ tags-append (cut_from p front) (cut_from next back))
    (nests_tags h p)
    (subst (λ l. HasBlockTags l back (tags_of (cut_from next back))) (nests_blocks h p).0 (nests_tags k next))

-- ---- well-nested HTML

as_characters : (bytes : List ℕ) → list_all is_no_angle bytes ≡ true → IsWellNestedHtml bytes
as_characters bytes h = characters (AllPass-from_list_all is_no_angle bytes h)

words_plain : (bytes : List ℕ) → list_all is_no_angle (flat_map escaped_character bytes) ≡ true
words_plain [] = refl
words_plain (b ∷ bs) = list_all-append is_no_angle (escaped_character b) (flat_map escaped_character bs) ∙ and_from _ _ (grind arith) (words_plain bs)

newline_html : IsWellNestedHtml (codes "\n")
newline_html = as_characters (codes "\n") refl

break_html : IsWellNestedHtml (codes "<br>\n")
break_html = html_joined (codes "<br>") (codes "\n") refl (line_break refl) newline_html

chunks_html : (p : Written) (style : Style) (chunks : List Chunk) → IsWellNestedHtml (spelled (cut_from p (map (Shown style) chunks)))
chunks_html p style [] = no_html refl
chunks_html p style (c ∷ cs) =
    html_joined (spelled (snippets_of p (Shown style c))) (spelled (cut_from (page_after p (Shown style c)) (map (Shown style) cs)))
    (spelled-append (snippets_of p (Shown style c)) (cut_from (page_after p (Shown style c)) (map (Shown style) cs)))
    (grind (arith, append-nil, as_characters, words_plain, break_html)) (chunks_html (page_after p (Shown style c)) style cs)

-- a text in its style's tags
styled_html : (p q : Written) (style : Style) (inner : List ℕ) → IsWellNestedHtml inner → IsWellNestedHtml (spelled (snippets_of p (TextStart style)) ++ (inner ++ spelled (snippets_of q (TextEnd style))))
styled_html p q styles.Text inner h = subst IsWellNestedHtml (sym (append-nil inner)) h
styled_html p q styles.Literal inner h =
    html_enclosed Tt (opening_tag B ++ (inner ++ closing_tag B)) (ap (λ x. codes "<tt><b>" ++ x) (sym (append_assoc inner (codes "</b>") (codes "</tt>")))) (html_enclosed B inner refl h)
styled_html p q styles.Metavar inner h =
    html_enclosed Tt (opening_tag I ++ (inner ++ closing_tag I)) (ap (λ x. codes "<tt><i>" ++ x) (sym (append_assoc inner (codes "</i>") (codes "</tt>")))) (html_enclosed I inner refl h)
styled_html p q _ inner h = html_enclosed B inner refl h

-- an element and a newline
element_line : (e : Element) (inner : List ℕ) → IsWellNestedHtml inner → IsWellNestedHtml (opening_tag e ++ (inner ++ (closing_tag e ++ codes "\n")))
element_line e inner h =
    html_joined (opening_tag e ++ (inner ++ closing_tag e)) (codes "\n")
    (ap (λ x. opening_tag e ++ x) (sym (append_assoc inner (closing_tag e) (codes "\n"))) ∙ sym (append_assoc (opening_tag e) (inner ++ closing_tag e) (codes "\n")))
    (html_enclosed e inner refl h) newline_html

header_start_html : (fresh in_list : Bool) → IsWellNestedHtml (spelled (start_snippets fresh in_list blocks.Header))
header_start_html true in_list = as_characters (codes "# ") refl
header_start_html false in_list = html_joined (codes "<br>\n") (codes "# ") refl break_html (as_characters (codes "# ") refl)

header_end_html : (fresh in_list : Bool) → IsWellNestedHtml (spelled (end_snippets fresh in_list blocks.Header))
header_end_html true in_list = no_html refl
header_end_html false in_list = break_html

block_html : (fresh then_fresh in_list : Bool) (b : Block) (inner : List ℕ) → IsWellNestedHtml inner → IsWellNestedHtml (spelled (start_snippets fresh in_list b) ++ (inner ++ spelled (end_snippets then_fresh in_list b)))
block_html fresh then_fresh in_list blocks.Header inner h =
    html_joined (spelled (start_snippets fresh in_list blocks.Header)) (inner ++ spelled (end_snippets then_fresh in_list blocks.Header)) refl (header_start_html fresh in_list)
    (html_joined inner (spelled (end_snippets then_fresh in_list blocks.Header)) refl h (header_end_html then_fresh in_list))
block_html fresh then_fresh in_list blocks.Section2 inner h = html_enclosed Div (codes "\n" ++ inner) refl (html_joined (codes "\n") inner refl newline_html h)
block_html fresh then_fresh in_list blocks.Section3 inner h = html_enclosed IndentedDiv inner refl h
block_html fresh then_fresh in_list blocks.Section4 inner h = html_enclosed IndentedDiv inner refl h
block_html fresh then_fresh in_list blocks.ItemTerm inner h = element_line Dt inner h
block_html fresh then_fresh true blocks.ItemBody inner h = element_line Dd inner h
block_html fresh then_fresh false blocks.ItemBody inner h = element_line Li inner h
block_html fresh then_fresh in_list blocks.DefinitionList inner h = element_line Dl inner h
block_html fresh then_fresh in_list blocks.Block inner h = html_enclosed P inner refl h
block_html fresh then_fresh in_list _ inner h = subst IsWellNestedHtml (sym (append-nil inner)) h

around_spelled : (p : Written) (f g : Fragment) (inner : List Fragment)
    → spelled (cut_from p (f ∷ (inner ++ g ∷ []))) ≡ spelled (snippets_of p f) ++ (spelled (cut_from (page_after p f) inner) ++ spelled (snippets_of (page_after_all (page_after p f) inner) g))
around_spelled p f g inner = ap spelled (cut_around p f g inner) ∙ simp spelled-append

pub nests_html : {fs : List Fragment} → Nests fs → (p : Written) → IsWellNestedHtml (spelled (cut_from p fs))
nests_html (nothing e) p = no_html (ap (λ x. spelled (cut_from p x)) e)
nests_html (text style chunks e) p =
    let shown : List Fragment = map (Shown style) chunks in
    let first : Written = page_after p (TextStart style) in
    let last : Written = page_after_all first shown in
    let whole = around_spelled p (TextStart style) (TextEnd style) shown in
    subst IsWellNestedHtml (sym (ap (λ x. spelled (cut_from p x)) e ∙ whole)) (styled_html p last style (spelled (cut_from first shown)) (chunks_html first style chunks))
nests_html (hidden e) p = no_html (ap (λ x. spelled (cut_from p x)) e)
nests_html (enclosed b inner e h) p = grind (arith, nests_html h, nests_blocks h, start_outer p b, around_spelled p (Start b) (End b) inner, block_html p.fresh)
nests_html (joined front back e h k) p =
    html_joined (spelled (cut_from p front)) (spelled (cut_from (page_after_all p front) back))
    (ap (λ x. spelled (cut_from p x)) e ∙ ap spelled (cut-append p front back) ∙ spelled-append (cut_from p front) (cut_from (page_after_all p front) back))
    (nests_html h p) (nests_html k (page_after_all p front))
