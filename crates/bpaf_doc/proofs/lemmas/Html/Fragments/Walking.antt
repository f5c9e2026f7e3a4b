-- The walk over the parts gives the fragments of the document.
use Rattle.std.specs.Prelude.{if◌then◌else◌, ◌++◌, ◌+◌, ◌<◌, ◌==◌, ◌∷◌, ◌≡◌, ◌⊎◌}
use Rattle.bpaf_doc.proofs.lemmas.Html.Words.{ℕ, zero, suc, Bool, true, false, List, [], length, take, map, refl, sym, ◌∙◌, arith, append_assoc, append-nil, subst, inr, not, flat_map, Style, enumerate_from, before_first, position_or_len, take_at, length_push, length-append, length-map, false≢true, Part, Chunk, Raw, IsLine, chunks_of, columns, is_paragraph, Fragment, Shown, part_fragments, shown_fragments, depth_after, depth_after_text, visible, text_rest, part_walk, walk}
use Rattle.bpaf_doc.specs.Splitter.Steps.{IsRun}
use Rattle.bpaf_doc.proofs.lemmas.Splitter.Runs.{AreWords, no_words, a_word, words_of_line}
use Rattle.bpaf_doc.specs.Shown.{is_hidden}
use Rattle.bpaf_doc.proofs.lemmas.Console.Hiding.{not_zero, Counts, Counts-more, is_hidden-Counts}

-- what f gives at each part of a document from what stands before it and it
abbrev pub along : {X : Type 0} → (List Part → Part → List X) → List Part → List Part → List X
along f before [] = []
along f before (part ∷ parts) = f before part ++ along f (before ++ part ∷ []) parts

along-numbered : {X : Type 0} (f : List Part → Part → List X) (document before parts : List Part) → document ≡ before ++ parts
    → flat_map (λ (k, part). f (take k document) part) (enumerate_from (length before) parts) ≡ along f before parts
along-numbered f document before [] e = refl
along-numbered f document before (part ∷ parts) e = grind (arith, along-numbered f document (before ++ part ∷ []) parts, take_at, append_assoc, length_push)

-- how deep hiding is after some parts
abbrev pub depth_after_all : Bool → ℕ → List Part → ℕ
depth_after_all full depth [] = depth
depth_after_all full depth (part ∷ parts) = depth_after_all full (depth_after full part depth) parts

depth-push : (full : Bool) (depth : ℕ) (parts : List Part) (part : Part) → depth_after_all full depth (parts ++ part ∷ []) ≡ depth_after full part (depth_after_all full depth parts)
depth-push full depth [] part = refl
depth-push full depth (p ∷ ps) part = depth-push full (depth_after full p depth) ps part

-- ---- the depth is the console's count of inline blocks that have to end

depth_counts : (depth : ℕ) (done parts : List Part) → Counts depth done → Counts (depth_after_all false depth parts) (done ++ parts)
depth_counts depth done [] counts = subst (Counts depth) (sym (append-nil done)) counts
depth_counts depth done (part ∷ parts) counts =
    subst (Counts (depth_after_all false depth (part ∷ parts))) (append_assoc done (part ∷ []) parts)
    (depth_counts (depth_after false part depth) (done ++ part ∷ []) parts
    (subst (λ (n : ℕ). Counts n (done ++ part ∷ [])) (grind (arith, not_zero)) (Counts-more depth done part counts)))

depth_hides : (parts : List Part) → is_hidden parts ≡ not (depth_after_all false 0 parts == 0)
depth_hides parts = is_hidden-Counts (depth_after_all false 0 parts) parts (depth_counts 0 [] parts (λ between. refl))

full_depth : (parts : List Part) → depth_after_all true zero parts ≡ zero
full_depth [] = refl
full_depth (s ∷ parts) = grind (arith, full_depth parts)

-- ---- the walk

pub before_first-skip : {X : Type 0} (p : X → Bool) (x : X) (xs : List X) → p x ≡ false → before_first p (x ∷ xs) ≡ x ∷ before_first p xs
before_first-skip p x xs e = grind arith

one_more : (n : ℕ) → 1 + n + 1 ≡ suc (n + 1)
one_more n = omega arith

-- what stands before the first is the same in what goes through it
before_through : {X : Type 0} (p : X → Bool) (xs : List X) → before_first p (take (position_or_len p xs + 1) xs) ≡ before_first p xs
before_through p [] = refl
before_through p (x ∷ xs) = grind (arith, before_through p xs, one_more, before_first-skip)

part_same : (full : Bool) (before : List Part) (part : Part) → part_walk full part (depth_after_all full 0 before) ≡ part_fragments full before part
part_same z0 before z2 = grind (arith, full_depth, before_through, not_zero, depth_hides)

walk-along : (full : Bool) (before parts : List Part) → walk full (depth_after_all full 0 before) parts ≡ along (part_fragments full) before parts
walk-along full before [] = refl
walk-along full before (part ∷ parts) = grind (arith, walk-along full (before ++ part ∷ []) parts, part_same, depth-push)

-- the walk over a document gives its fragments
pub walked : (full : Bool) (document : List Part) → walk full 0 document ≡ shown_fragments full document
walked full document = walk-along full [] document ∙ sym (along-numbered (part_fragments full) document [] document refl)

-- ---- one chunk more of a text that was begun

-- what is left of the parts and of a text that was begun, if one was
abbrev pub left_of : Bool → Bool → Style → List Chunk → ℕ → List Part → List Fragment
left_of full in_text style chunks depth parts = if in_text then text_rest full style chunks ++ walk full (depth_after_text full chunks) parts else walk full depth parts

-- a chunk that is shown: any in full, and in brief no paragraph break
abbrev pub IsVisible : Bool → Chunk → Type 0
IsVisible full chunk = (full ≡ true) ⊎ (is_paragraph chunk ≡ false)

text_more : (full : Bool) (style : Style) (chunk : Chunk) (chunks : List Chunk) (parts : List Part) → IsVisible full chunk
    → text_rest full style (chunk ∷ chunks) ++ walk full (depth_after_text full (chunk ∷ chunks)) parts ≡ Shown style chunk ∷ (text_rest full style chunks ++ walk full (depth_after_text full chunks) parts)
text_more full style chunk chunks parts h = grind (arith, false≢true, before_first-skip)

pub left_more : (now : List Fragment) (full in_text : Bool) (style : Style) (chunk : Chunk) (chunks rest : List Chunk) (depth : ℕ) (parts : List Part)
    → left_of full in_text style chunks depth parts ≡ now → in_text ≡ true → chunks ≡ chunk ∷ rest → IsVisible full chunk → now ≡ Shown style chunk ∷ left_of full in_text style rest depth parts
left_more now full in_text style chunk chunks rest depth parts view begun e visible = grind (arith, text_more)

-- ---- a run more

run_more : {chunks : List Chunk} {text : List ℕ} → AreWords chunks text → (full : Bool) (style : Style) (rest : List Chunk) (parts : List Part)
    → text_rest full style (chunks ++ rest) ++ walk full (depth_after_text full (chunks ++ rest)) parts
    ≡ map (Shown style) chunks ++ (text_rest full style rest ++ walk full (depth_after_text full rest) parts)
run_more {chunks} (no_words ec et) full style rest parts = grind arith
run_more {chunks} (a_word bytes others_text others ec et w) full style rest parts = grind (arith, run_more w full style rest parts, text_more full style (Raw bytes (columns bytes)) (others ++ rest) parts (inr refl))

pub left_run : (now : List Fragment) (full in_text : Bool) (style : Style) (run : List ℕ) (chunks rest : List Chunk) (depth : ℕ) (parts : List Part)
    → left_of full in_text style chunks depth parts ≡ now → in_text ≡ true → chunks ≡ chunks_of run ++ rest → IsLine run
    → now ≡ map (Shown style) (chunks_of run) ++ left_of full in_text style rest depth parts
left_run now full in_text style run chunks rest depth parts view begun e line =
    grind (arith, run_more (words_of_line run line) full style rest parts, words_of_line run line)

-- and fewer fragments are left
pub fewer_left : (now after : List Fragment) (style : Style) (run : List ℕ) → IsRun run → now ≡ map (Shown style) (chunks_of run) ++ after → length after < length now
fewer_left now after style run is e = grind (arith, words_of_line run is.line, length-append (map (Shown style) (chunks_of run)) after, length-map (chunks_of run) (Shown style))
