-- Small answers that meet `IsMarkdownOf`, as they are the texts that the rules make, and wrong ones that do not.
use Rattle.std.proofs.Common.{◌≡◌, ℕ, ◌*◌, ◌<◌, Bool, true, false, List, [], ◌∷◌, ◌++◌, refl, sym, ◌∙◌, ap, subst, ◌≤◌, length, take, drop, arith, length-append}
use Rattle.std.proofs.lemmas.Bool.{false≢true}
use Rattle.std.proofs.Math.Bool.{or-true}
use Rattle.std.proofs.lemmas.List.Folds.{list_any-append}
use Rattle.std.proofs.lemmas.List.Elements.{filter-append}
use Rattle.std.proofs.lemmas.List.Sums.{length-filter}
use Rattle.std.specs.Prelude.{count_by, ◌==◌, ◌||◌, codes, filter, flat_map}
use Rattle.std.specs.List.{list_any}
use Rattle.std.specs.Str.{chars}
use Rattle.unicode_width.specs.Width.{str_width, step, past_emoji}
use Rattle.bpaf_doc.specs.declared.buffer.Style.TheVariants.{Text, Emphasis, Literal, Metavar}
use Rattle.bpaf_doc.specs.declared.buffer.Block.TheVariants.{Header, Section3, ItemTerm, ItemBody, DefinitionList, InlineBlock, Mono}
use Rattle.bpaf_doc.specs.Buffer.Parts.{Part, Text as Words, Start as PartStart, End as PartEnd}
use Rattle.bpaf_doc.specs.Splitter.Chunks.{Raw, Paragraph, is_paragraph, chunks_of, chunks_in, chunks_within}
use Rattle.bpaf_doc.specs.Html.Fragments.{Fragment, TextStart, Shown, TextEnd, shows, shown_fragments}
use Rattle.bpaf_doc.specs.Markdown.Page.{IsMarkdownOf, MarkdownSnippet, Mark, mark_text, TextFence, Newline, snippet_text, is_style_mark, styled_snippets, text_after, is_fence, is_text_fence, is_newline}
use Rattle.bpaf_doc.specs.Snippets.{Put, Of, is_mark_or_fragment}
use Rattle.rows.proofs.Doc.Snippets.{CutAt, cut_at}
use Rattle.bpaf_doc.proofs.lemmas.Markdown.Meets.{markdown_meets}

abbrev paragraphs_document : List Part
paragraphs_document = PartStart InlineBlock ∷ Words (codes "a\n\nb") Text ∷ PartEnd InlineBlock ∷ Words (codes "c") Text ∷ []

paragraphs_meets : IsMarkdownOf paragraphs_document true (codes "a\n\nbc")
unfolding chunks_of chunks_in chunks_within chars str_width step past_emoji
paragraphs_meets = markdown_meets paragraphs_document true _ (omega arith) refl

brief_meets : IsMarkdownOf paragraphs_document false (codes "ac")
unfolding chunks_of chunks_in chunks_within chars str_width step past_emoji
brief_meets = markdown_meets paragraphs_document false _ (omega arith) refl

abbrev title_document : List Part
title_document = PartStart InlineBlock ∷ Words (codes "Title") Emphasis ∷ PartStart Section3 ∷ Words (codes "body") Text ∷ PartEnd Section3 ∷ PartEnd InlineBlock ∷ []

title_meets : IsMarkdownOf title_document true (codes "**Title**### body\n")
unfolding chunks_of chunks_in chunks_within chars str_width step past_emoji
title_meets = markdown_meets title_document true _ (omega arith) refl

abbrev list_document : List Part
list_document = PartStart Header ∷ Words (codes "Top") Text ∷ PartEnd Header ∷ PartStart DefinitionList ∷ PartStart ItemTerm ∷ Words (codes "--a") Literal ∷ PartEnd ItemTerm ∷ PartStart ItemBody ∷ Words (codes "one two\n b") Text ∷ PartEnd ItemBody ∷ PartStart ItemTerm ∷ PartEnd ItemTerm ∷ PartStart ItemBody ∷ Words (codes "x") Text ∷ PartEnd ItemBody ∷ PartEnd DefinitionList ∷ PartStart Header ∷ Words (codes "Y") Text ∷ PartEnd Header ∷ []

list_meets : IsMarkdownOf list_document true (codes "# Top\n- **`--a`** &mdash; \n  one two\nb\n   \n  x\n\n## Y\n")
unfolding chunks_of chunks_in chunks_within chars str_width step past_emoji
list_meets = markdown_meets list_document true _ (omega arith) refl

abbrev mono_document : List Part
mono_document = PartStart Mono ∷ Words (codes "[a] ") Text ∷ Words (codes "X") Metavar ∷ PartEnd Mono ∷ Words (codes "[b]") Text ∷ []

mono_meets : IsMarkdownOf mono_document true (codes "\\[a\\] _`X`_[b]")
unfolding chunks_of chunks_in chunks_within chars str_width step past_emoji
mono_meets = markdown_meets mono_document true _ (omega arith) refl

-- wrong answers

abbrev is_put : MarkdownSnippet → Bool
is_put (Put mark) = true
is_put (Of a) = false

abbrev styled : List MarkdownSnippet → List MarkdownSnippet
styled ts = filter (is_mark_or_fragment is_style_mark) ts

mark_not_empty : (mark : Mark) → 1 ≤ length (mark_text mark)
mark_not_empty mark = grind arith

-- an answer without its style marks is too short
marks-le : (seen ts : List MarkdownSnippet) → length (filter is_put (styled ts)) ≤ length (text_after seen ts)
marks-le seen [] = omega arith
marks-le seen (Of a ∷ ts) = omega (arith, length-append (snippet_text seen (Of a) ts) (text_after (seen ++ Of a ∷ []) ts), marks-le (seen ++ Of a ∷ []) ts)
marks-le seen (Put mark ∷ ts) = grind (arith, marks-le (seen ++ Put mark ∷ []) ts, length-append, mark_not_empty)

too_short : (document : List Part) (answer : List ℕ) → IsMarkdownOf document true answer → length answer < length (filter is_put (flat_map styled_snippets (shown_fragments true document))) → ⊥
too_short document answer h short = grind (arith, marks-le)

-- no marks
bare_refused : IsMarkdownOf (Words (codes "x") Literal ∷ []) true (codes "x") → ⊥
unfolding chunks_of chunks_in chunks_within chars str_width step past_emoji
bare_refused h = too_short (Words (codes "x") Literal ∷ []) (codes "x") h (omega arith)

any_after : {X : Type 0} (p : X → Bool) (xs ys : List X) → list_any p ys ≡ true → list_any p (xs ++ ys) ≡ true
any_after p [] ys h = h
any_after p (x ∷ xs) ys h = ap (λ b. p x || b) (any_after p xs ys h) ∙ or-true (p x)

any_before : {X : Type 0} (p : X → Bool) (xs ys : List X) → list_any p xs ≡ true → list_any p (xs ++ ys) ≡ true
any_before p xs ys h = list_any-append p xs ys ∙ ap (λ b. b || list_any p ys) h

-- a newline mark is a newline of the answer
newline_in : (seen ts : List MarkdownSnippet) → list_any is_newline ts ≡ true → list_any (λ c. c == 10) (text_after seen ts) ≡ true
newline_in seen [] h = absurd (false≢true h)
newline_in seen (Put Newline ∷ ts) h = refl
newline_in seen (Of a ∷ ts) h = any_after (λ c. c == 10) (snippet_text seen (Of a) ts) (text_after (seen ++ Of a ∷ []) ts) (newline_in (seen ++ Of a ∷ []) ts h)
newline_in seen (Put mark ∷ ts) h = any_after (λ c. c == 10) (mark_text mark) (text_after (seen ++ Put mark ∷ []) ts) (newline_in (seen ++ Put mark ∷ []) ts h)

-- no break between two paragraphs
no_paragraph_refused : IsMarkdownOf paragraphs_document true (codes "abc") → ⊥
unfolding chunks_of chunks_in chunks_within chars str_width step past_emoji
no_paragraph_refused h =
    let ps : List Fragment = shown_fragments true paragraphs_document in
    let a : Fragment = Shown Text (Raw (codes "a") 1) in
    let b : Fragment = Shown Text (Raw (codes "b") 1) in
    let first : CutAt h.cut (take 2 ps) (drop 3 ps) a = cut_at h.cut (take 2 ps) (drop 3 ps) a h.fragments in
    let second : CutAt first.1 (Shown Text Paragraph ∷ []) (drop 5 ps) b
    = cut_at first.1 (Shown Text Paragraph ∷ []) (drop 5 ps) b first.4 in
    let whole : h.cut ≡ first.0 ++ Of a ∷ (second.0 ++ Of b ∷ second.1) = first.2 ∙ ap (λ x. first.0 ++ Of a ∷ x) second.2 in
    let found : (front back : List MarkdownSnippet) × (second.0 ≡ front ++ Put Newline ∷ Put Newline ∷ back)
    = h.paragraphs first.0 second.0 second.1 a b whole refl refl (ap (list_any (shows is_paragraph)) second.3) in
    let between : list_any is_newline second.0 ≡ true = ap (list_any is_newline) found.2 ∙ any_after is_newline found.0 (Put Newline ∷ Put Newline ∷ found.1) refl in
    let somewhere : list_any is_newline h.cut ≡ true
    = ap (list_any is_newline) whole ∙ any_after is_newline first.0 (Of a ∷ (second.0 ++ Of b ∷ second.1)) (any_before is_newline second.0 (Of b ∷ second.1) between) in
    false≢true (subst (λ x. list_any (λ c. c == 10) x ≡ true) (sym h.spelling) (newline_in [] h.cut somewhere))

-- each fence with `text` takes seven characters
fences-le : (seen ts : List MarkdownSnippet) → length (filter is_text_fence ts) * 7 ≤ length (text_after seen ts)
fences-le seen [] = omega arith
fences-le seen (Of a ∷ ts) = omega (arith, length-append (snippet_text seen (Of a) ts) (text_after (seen ++ Of a ∷ []) ts), fences-le (seen ++ Of a ∷ []) ts)
fences-le seen (Put TextFence ∷ ts) = grind (arith, fences-le (seen ++ Put TextFence ∷ []) ts, length-append)
fences-le seen (Put mark ∷ ts) = grind (arith, fences-le (seen ++ Put mark ∷ []) ts, length-append)

-- a code line without fences, for any document that shows just that line
no_fence_refused : (document : List Part) → shown_fragments true document ≡ TextStart Text ∷ Shown Text (Raw (codes "x") 1_000_000) ∷ TextEnd Text ∷ [] → IsMarkdownOf document true (codes "  x\n") → ⊥
no_fence_refused document shown h =
    let line : Fragment = Shown Text (Raw (codes "x") 1_000_000) in
    let found : CutAt h.cut (TextStart Text ∷ []) (TextEnd Text ∷ []) line
    = cut_at h.cut (TextStart Text ∷ []) (TextEnd Text ∷ []) line (h.fragments ∙ shown) in
    let more : count_by is_fence found.0 < count_by is_text_fence found.0 = h.fenced found.0 found.1 line found.2 refl in
    let whole : length (filter is_text_fence (found.0 ++ Of line ∷ found.1)) * 7 ≤ 4
    = subst (λ ts. length (filter is_text_fence ts) * 7 ≤ 4) found.2 (subst (λ x. length (filter is_text_fence h.cut) * 7 ≤ length x) (sym h.spelling) (fences-le [] h.cut)) in
    omega (arith, more, whole, length-filter is_text_fence found.0, ap (λ x. length x) (filter-append is_text_fence found.0 (Of line ∷ found.1)), length-append (filter is_text_fence found.0) (filter is_text_fence (Of line ∷ found.1)))
