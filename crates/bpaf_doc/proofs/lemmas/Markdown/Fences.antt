-- Fences open and close in turn, and code stands between them.
use Rattle.std.specs.Prelude.{◌&&◌, ◌++◌, ◌+◌, ◌<◌, ◌||◌, ◌∷◌, ◌≡◌}
use Rattle.bpaf_doc.proofs.lemmas.Markdown.Words.{common_steps, ℕ, Bool, true, false, List, [], refl, ap, ◌∙◌, arith, not, IsTrue, list_all, false≢true, eqb-true, and_parts, and_from, Raw, is_ordinary, is_code_line, code_weight, fence_weight, Fragment, Shown, TextEnd, shows, TextFence, Fence, MarkdownSnippet, is_fence, is_text_end, Put, Of, Marked, marked_after, and-false, is_text_fence, count_by}
use Rattle.bpaf_doc.proofs.lemmas.Lists.Counting.{one_if, count_by-cons}
use Rattle.bpaf_doc.proofs.lemmas.Lists.Passing.{state_after, passes, passes_back, passes_both, passes_first}
use Rattle.bpaf_doc.proofs.lemmas.Markdown.Cut.{by_weight, own_snippets, cut_from, item_snippets, end_code_snippets, code_next, step-code, item-code}

-- where a block is open: a fence with `text` opens one, another closes it
abbrev may_stand : Bool → MarkdownSnippet → Bool
may_stand in_code (Put TextFence) = not in_code
may_stand in_code (Put Fence) = in_code
may_stand in_code (Put mark) = true
may_stand in_code (Of f) = (not (shows is_code_line f) || in_code) && (not (shows is_ordinary f || is_text_end f) || not in_code)

abbrev fence_next : Bool → MarkdownSnippet → Bool
fence_next in_code (Put TextFence) = true
fence_next in_code (Put Fence) = false
fence_next in_code s = in_code

abbrev well_fenced : Bool → List MarkdownSnippet → Bool
well_fenced = passes may_stand fence_next

abbrev fence_after : Bool → List MarkdownSnippet → Bool
fence_after = state_after may_stand fence_next

fences_counted : (q : Bool) (ss : List MarkdownSnippet) → well_fenced q ss ≡ true → one_if q + count_by is_text_fence ss ≡ count_by is_fence ss + one_if (fence_after q ss)
fences_counted false (Put TextFence ∷ ss) h = omega (arith, count_by-cons, is_fence, fences_counted true ss h)
fences_counted true (Put Fence ∷ ss) h = omega (arith, count_by-cons, is_fence, fences_counted false ss h)
fences_counted q (s ∷ ss) h =
    grind (arith, fences_counted q ss, false≢true, passes_first, count_by-cons, is_fence, passes, and_parts)
fences_counted x y h = grind (arith, false≢true, passes_first)

-- ---- the steps

abbrev fits : Bool → Bool → Bool → Bool
fits code ordinary in_code = (not code || in_code) && (not (ordinary || false) || not in_code)

-- a Raw where a block is open or not
raw_stands : (bytes : List ℕ) (weight : ℕ) (code ordinary in_code : Bool) → is_code_line (Raw bytes weight) ≡ code → is_ordinary (Raw bytes weight) ≡ ordinary
    → fits (is_code_line (Raw bytes weight)) (is_ordinary (Raw bytes weight)) in_code ≡ fits code ordinary in_code
raw_stands bytes weight code ordinary in_code e h = ap (λ c. fits c (is_ordinary (Raw bytes weight)) in_code) e ∙ ap (λ o. fits code o in_code) h

abbrev Fences : Bool → List MarkdownSnippet → Bool → Type 0
Fences q ss next = (well_fenced q ss ≡ true) × (fence_after q ss ≡ next)

then_fences : (q r next : Bool) (xs ys : List MarkdownSnippet) → Fences q xs r → Fences r ys next → Fences q (xs ++ ys) next
then_fences q r next xs ys h k = grind (arith, common_steps, passes_both may_stand fence_next q xs ys h.0)

item_fences : (q pending empty : Bool) → Fences q (item_snippets pending empty) q
item_fences q pending empty = grind arith

-- no fence, and no fragment that asks for one or for none
abbrev is_plain : MarkdownSnippet → Bool
is_plain (Put TextFence) = false
is_plain (Put Fence) = false
is_plain (Put mark) = true
is_plain (Of f) = not (shows is_code_line f) && not (shows is_ordinary f || is_text_end f)

plain_fences : (q : Bool) (ss : List MarkdownSnippet) → list_all is_plain ss ≡ true → Fences q ss q
plain_fences q [] h = (refl, refl)
plain_fences q (s ∷ ss) h = grind (arith, plain_fences q ss, false≢true, and_parts)

own_fences : (p : Marked) (f : Fragment) → Fences p.in_code (own_snippets p f) (code_next p.in_code f)
own_fences p (Shown style (Raw bytes weight)) = grind (arith, by_weight, then_fences, raw_stands, eqb-true, not, code_weight, and-false, fence_weight)
own_fences p (TextEnd style) = grind (arith, then_fences p.in_code false false (end_code_snippets p.in_code), plain_fences)
own_fences p f = grind (arith, plain_fences)

cut_fenced : (p : Marked) (fs : List Fragment) → well_fenced p.in_code (cut_from p fs) ≡ true
cut_fenced p [] = (item_fences p.in_code p.pending false).0
cut_fenced p (f ∷ fs) =
    grind (arith, cut_fenced (marked_after p f) fs, item-code, own_fences, step-code, then_fences, item_fences, passes_both)

-- ---- the laws

passes_front : (q : Bool) (xs ys : List MarkdownSnippet) → well_fenced q (xs ++ ys) ≡ true → well_fenced q xs ≡ true
passes_front q [] ys h = refl
passes_front q (x ∷ xs) ys h = grind (arith, passes_front (fence_next q x) xs ys, and_parts, and_from)

counted_before : (p : Marked) (fs : List Fragment) (before after : List MarkdownSnippet) (a : Fragment) → p.in_code ≡ false → cut_from p fs ≡ before ++ Of a ∷ after
    → (count_by is_text_fence before ≡ count_by is_fence before + one_if (fence_after false before)) × (may_stand (fence_after false before) (Of a) ≡ true)
counted_before p fs before after a none e = grind (arith, cut_fenced p fs, fences_counted false before, passes_front false before (Of a ∷ after), passes_first may_stand fence_next (fence_after false before) (Of a) after, passes_back may_stand fence_next false before (Of a ∷ after))

-- at a code line more fences were opened than closed
pub fenced_of : (p : Marked) (fs : List Fragment) → p.in_code ≡ false → (before after : List MarkdownSnippet) (a : Fragment) → cut_from p fs ≡ before ++ Of a ∷ after → IsTrue (shows is_code_line a) → count_by is_fence before < count_by is_text_fence before
fenced_of p fs none before after a e code = grind (arith, counted_before p fs before after a none e)

-- at an ordinary Raw, and at the end of a text, as many
pub unfenced_of : (p : Marked) (fs : List Fragment) → p.in_code ≡ false → (before after : List MarkdownSnippet) (a : Fragment) → cut_from p fs ≡ before ++ Of a ∷ after → IsTrue (shows is_ordinary a || is_text_end a)
    → count_by is_fence before ≡ count_by is_text_fence before
unfenced_of p fs none before after a e other = grind (arith, counted_before p fs before after a none e)
