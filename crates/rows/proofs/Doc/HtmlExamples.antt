-- Small answers that meet `IsHtmlOf`, as they are the pages that the rules make, and wrong ones that do not.
use Rattle.std.proofs.Common.{◌≡◌, ℕ, ◌≤◌, Bool, true, false, List, [], ◌∷◌, ◌++◌, length, refl, sym, ◌∙◌, ap, arith, length-append, take, drop, cond, append_assoc}
use Rattle.std.proofs.lemmas.Bool.{false≢true, eqb-false}
use Rattle.std.proofs.Math.Bool.{or-true}
use Rattle.std.specs.Prelude.{slice_index, ◌||◌, codes, flat_map, filter}
use Rattle.std.specs.Str.{chars}
use Rattle.unicode_width.specs.Width.{str_width, step, past_emoji}
use Rattle.bpaf_doc.specs.declared.buffer.Style.TheVariants.{Text, Emphasis, Literal}
use Rattle.bpaf_doc.specs.declared.buffer.Block.TheVariants.{InlineBlock, DefinitionList, ItemTerm, ItemBody}
use Rattle.bpaf_doc.specs.Buffer.Parts.{Part, Text as Words, Start as PartStart, End as PartEnd, IsWellNested, text, enclosed, joined}
use Rattle.bpaf_doc.specs.Splitter.Chunks.{Raw, Paragraph, starts, chunks_of, chunks_in, chunks_within}
use Rattle.bpaf_doc.specs.Html.Fragments.{Fragment, TextStart, Shown, TextEnd, shown_fragments}
use Rattle.bpaf_doc.specs.Html.Page.{IsHtmlOf, enclosed, joined, HtmlSnippet, snippet_text, is_style_tag, styled_snippets}
use Rattle.bpaf_doc.specs.Snippets.{Of, is_mark_or_fragment}
use Rattle.rows.proofs.Doc.Snippets.{CutAt, cut_at}
use Rattle.bpaf_doc.proofs.lemmas.Html.Meets.{page_meets}

-- two styled texts

abbrev usage : List Part
usage = Words (codes "Usage: ") Emphasis ∷ Words (codes "my_program") Literal ∷ []

usage_meets : IsHtmlOf usage true (codes "<b>Usage: </b><tt><b>my_program</b></tt>")
unfolding chunks_of chunks_in chunks_within chars str_width step past_emoji
usage_meets = page_meets usage true _ (joined (take 1 usage) (drop 1 usage) refl (text (codes "Usage: ") Emphasis refl) (text (codes "my_program") Literal refl)) refl

-- two paragraphs in an inline block, then a text; in full and in brief

abbrev two_paragraphs : List Part
two_paragraphs = PartStart InlineBlock ∷ Words (codes "a\n\nb") Text ∷ PartEnd InlineBlock ∷ Words (codes "c") Text ∷ []

two_paragraphs_nested : IsWellNested two_paragraphs
two_paragraphs_nested = joined (take 3 two_paragraphs) (drop 3 two_paragraphs) refl (enclosed InlineBlock (take 1 (drop 1 two_paragraphs)) refl (text (codes "a\n\nb") Text refl)) (text (codes "c") Text refl)

full_meets : IsHtmlOf two_paragraphs true (codes "a<br>\nbc")
unfolding chunks_of chunks_in chunks_within chars str_width step past_emoji
full_meets = page_meets two_paragraphs true _ two_paragraphs_nested refl

brief_meets : IsHtmlOf two_paragraphs false (codes "ac")
unfolding chunks_of chunks_in chunks_within chars str_width step past_emoji
brief_meets = page_meets two_paragraphs false _ two_paragraphs_nested refl

-- a list with a term and a body, and a body alone

abbrev list_document : List Part
list_document = PartStart DefinitionList ∷ PartStart ItemTerm ∷ Words (codes "--a") Literal ∷ PartEnd ItemTerm ∷ PartEnd DefinitionList ∷ PartStart ItemBody ∷ Words (codes "x") Text ∷ PartEnd ItemBody ∷ []

list_nested : IsWellNested list_document
list_nested = joined (take 5 list_document) (drop 5 list_document) refl
    (enclosed DefinitionList (take 3 (drop 1 list_document)) refl (enclosed ItemTerm (take 1 (drop 2 list_document)) refl (text (codes "--a") Literal refl)))
    (enclosed ItemBody (take 1 (drop 6 list_document)) refl (text (codes "x") Text refl))

list_meets : IsHtmlOf list_document true (codes "<dl><dt><tt><b>--a</b></tt></dt>\n</dl>\n<li>x</li>\n")
unfolding chunks_of chunks_in chunks_within chars str_width step past_emoji
list_meets = page_meets list_document true _ list_nested refl

-- an answer as long as its style tags and fragments has no other snippets

abbrev spelled : List HtmlSnippet → List ℕ
spelled ts = flat_map snippet_text ts

abbrev styled : List HtmlSnippet → List HtmlSnippet
styled ts = filter (is_mark_or_fragment is_style_tag) ts

not_empty : (t : HtmlSnippet) → is_mark_or_fragment is_style_tag t ≡ false → 1 ≤ length (snippet_text t)
not_empty t h1 = grind (arith, false≢true)

shorter : (ts : List HtmlSnippet) → length (spelled (styled ts)) ≤ length (spelled ts)
shorter [] = omega arith
shorter (t ∷ ts) = grind (arith, shorter ts, length-append)

only_styled_step : (b : Bool) (t : HtmlSnippet) (ts : List HtmlSnippet) → is_mark_or_fragment is_style_tag t ≡ b → length (snippet_text t ++ spelled ts) ≤ length (spelled (cond b (t ∷ styled ts) (styled ts)))
    → (length (spelled ts) ≤ length (spelled (styled ts)) → ts ≡ styled ts) → t ∷ ts ≡ cond b (t ∷ styled ts) (styled ts)
only_styled_step b t ts h3 h4 h5 = grind (arith, length-append, not_empty, shorter)

only_styled : (ts : List HtmlSnippet) → length (spelled ts) ≤ length (spelled (styled ts)) → ts ≡ styled ts
only_styled [] h = refl
only_styled (t ∷ ts) h = only_styled_step (is_mark_or_fragment is_style_tag t) t ts refl h (only_styled ts)

-- so its cut is known
known_cut : (document : List Part) (answer : List ℕ) (h : IsHtmlOf document true answer) → length answer ≤ length (spelled (flat_map styled_snippets (shown_fragments true document)))
    → h.cut ≡ flat_map styled_snippets (shown_fragments true document)
known_cut document answer h short = grind (arith, only_styled)

-- wrong answers

-- the text as it stands
unescaped_refused : IsHtmlOf (Words (codes "a<b") Text ∷ []) true (codes "a<b") → ⊥
unfolding chunks_of chunks_in chunks_within chars str_width step past_emoji
unescaped_refused h = eqb-false 1 6 refl (ap (λ t. length t) h.text)

-- a text that becomes a tag
tag_refused : IsHtmlOf (Words (codes "<b>x</b>") Text ∷ []) true (codes "<b>x</b>") → ⊥
unfolding chunks_of chunks_in chunks_within chars str_width step past_emoji
tag_refused h = eqb-false 1 20 refl (ap (λ t. length t) h.text)

-- the blank between the words is dropped
blank_refused : IsHtmlOf (Words (codes "a b") Text ∷ []) true (codes "ab") → ⊥
unfolding chunks_of chunks_in chunks_within chars str_width step past_emoji
blank_refused h = eqb-false 2 3 refl (ap (λ t. length t) h.text)

abbrev program : List Part
program = Words (codes "x") Literal ∷ []

-- `tt` is closed before `b`
order_refused : IsHtmlOf program true (codes "<tt><b>x</tt></b>") → ⊥
unfolding chunks_of chunks_in chunks_within chars str_width step past_emoji
order_refused h = eqb-false 116 98 refl (ap (λ t. slice_index t 10) (h.spelling ∙ ap spelled (known_cut program (codes "<tt><b>x</tt></b>") h (omega arith))))

-- the text and no tags
bare_refused : IsHtmlOf program true (codes "x") → ⊥
unfolding chunks_of chunks_in chunks_within chars str_width step past_emoji
bare_refused h = eqb-false 1 17 refl (ap (λ t. length t) (h.spelling ∙ ap spelled (known_cut program (codes "x") h (omega arith))))

-- two paragraphs without `<br>`
no_break_refused : IsHtmlOf two_paragraphs true (codes "abc") → ⊥
unfolding chunks_of chunks_in chunks_within chars str_width step past_emoji
no_break_refused h = false≢true (h.breaks (take 2 bare_cut) (Of (Shown Text Paragraph) ∷ []) (drop 5 bare_cut) (Shown Text (Raw (codes "a") 1)) (Shown Text (Raw (codes "b") 1))
    (known_cut two_paragraphs (codes "abc") h (omega arith)) refl refl refl)
  where
    bare_cut : List HtmlSnippet
    bare_cut = flat_map styled_snippets (shown_fragments true two_paragraphs)

-- `<br>` and newlines between the words of a text

-- whether the word and a blank stand together in the text
abbrev has_together : List ℕ → Bool
has_together [] = false
has_together (b ∷ bytes) = starts (b ∷ bytes) (codes "a ") || has_together bytes

together : (front back : List ℕ) → has_together (front ++ 97 ∷ 32 ∷ back) ≡ true
together [] back = refl
together (b ∷ front) back = ap (λ x. starts (b ∷ (front ++ 97 ∷ 32 ∷ back)) (codes "a ") || x) (together front back) ∙ or-true (starts (b ∷ (front ++ 97 ∷ 32 ∷ back)) (codes "a "))

spelled-append : (ts us : List HtmlSnippet) → spelled (ts ++ us) ≡ spelled ts ++ spelled us
spelled-append [] us = refl
spelled-append (t ∷ ts) us = ap (λ x. snippet_text t ++ x) (spelled-append ts us) ∙ sym (append_assoc (snippet_text t) (spelled ts) (spelled us))

-- the word `a` and the blank after it touch, so no answer has anything between them
apart_refused : IsHtmlOf (Words (codes "a b") Text ∷ []) true (codes "a<br>\n \nb") → ⊥
unfolding chunks_of chunks_in chunks_within chars str_width step past_emoji
apart_refused h =
    let a : Fragment = Shown Text (Raw (codes "a") 1) in
    let blank : Fragment = Shown Text (Raw (codes " ") 1) in
    let rest : List Fragment = Shown Text (Raw (codes "b") 1) ∷ TextEnd Text ∷ [] in
    let first : CutAt h.cut (TextStart Text ∷ []) (blank ∷ rest) a
    = cut_at h.cut (TextStart Text ∷ []) (blank ∷ rest) a h.fragments in
    let second : CutAt first.1 [] rest blank
    = cut_at first.1 [] rest blank first.4 in
    let whole : h.cut ≡ first.0 ++ Of a ∷ (second.0 ++ Of blank ∷ second.1) = first.2 ∙ ap (λ x. first.0 ++ Of a ∷ x) second.2 in
    let none : second.0 ≡ [] = h.touching first.0 second.0 second.1 a blank whole refl refl second.3 in
    let close : h.cut ≡ first.0 ++ Of a ∷ Of blank ∷ second.1 = whole ∙ ap (λ x. first.0 ++ Of a ∷ (x ++ Of blank ∷ second.1)) none in
    let text : codes "a<br>\n \nb" ≡ spelled first.0 ++ 97 ∷ 32 ∷ spelled second.1 = h.spelling ∙ ap spelled close ∙ spelled-append first.0 (Of a ∷ Of blank ∷ second.1) in
    false≢true (ap has_together text ∙ together (spelled first.0) (spelled second.1))
