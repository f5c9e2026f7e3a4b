-- The markdown texts that the code writes are what `IsMarkdownOf` promises.
use Rattle.std.specs.Prelude.{◌++◌, ◌<◌, ◌^◌, ◌∷◌, ◌≡◌, ◌≤◌}
use Rattle.bpaf_doc.proofs.lemmas.Markdown.Words.{visible, ℕ, zero, suc, Bool, true, false, List, [], length, map, refl, sym, ap, ◌∙◌, subst, arith, append_assoc, count_by, IsTrue, codes, Style, Chunk, chunks_of, starts, Fragment, TextStart, Shown, TextEnd, Hidden, shown_fragments, IsMarkdownOf, text_after, EndsInBlankLine, is_mono_start, is_mono_end, Of, blank_text, with_item, marked_after_all}
use Rattle.bpaf_doc.specs.Buffer.Parts.{Part, Text}
use Rattle.bpaf_doc.specs.Html.Steps.View.{text_rest, part_walk, walk, depth_after}
use Rattle.bpaf_doc.proofs.lemmas.Lists.Counting.{one_if, count_by-cons, count_by-append}
use Rattle.bpaf_doc.proofs.lemmas.Html.Fragments.Walking.{walked}
use Rattle.bpaf_doc.proofs.lemmas.Markdown.Cut.{places-spelled, cut_from, flags}
use Rattle.bpaf_doc.proofs.lemmas.Markdown.Kept.{cut-fragments, cut-styles}
use Rattle.bpaf_doc.proofs.lemmas.Markdown.Mind.{Agrees, Room, none, all-spelled, all-headings}
use Rattle.bpaf_doc.proofs.lemmas.Markdown.Fences.{fenced_of, unfenced_of}
use Rattle.bpaf_doc.proofs.lemmas.Markdown.Breaks.{touching_of, paragraphs_of, line_breaks_of, newline_after}
use Rattle.bpaf_doc.proofs.lemmas.Markdown.Lines.{well_formed, blank_before}

-- ---- the fragments of a document

chunks_form : (style : Style) (chunks : List Chunk) (fs : List Fragment) → well_formed true (map (Shown style) chunks ++ TextEnd style ∷ fs) ≡ well_formed false fs
chunks_form style [] fs = refl
chunks_form style (c ∷ cs) fs = chunks_form style cs fs

walk_form : (full : Bool) (depth : ℕ) (parts : List Part) → well_formed false (walk full depth parts) ≡ true
walk_form full depth [] = refl
walk_form full zero (Text bytes style ∷ parts) =
    grind (arith, walk_form full (depth_after full (Text bytes style) zero) parts, append_assoc, chunks_form)
walk_form full (suc depth) (Text bytes style ∷ parts) = walk_form full (suc depth) parts
walk_form full depth (part ∷ parts) = walk_form full (depth_after full part depth) parts

-- a test of marks alone counts no more than there are parts
abbrev Counts : (Fragment → Bool) → Type 0
Counts p = ((style : Style) → p (TextStart style) ≡ false) × ((style : Style) (chunk : Chunk) → p (Shown style chunk) ≡ false) × ((style : Style) → p (TextEnd style) ≡ false) × (p Hidden ≡ false)

chunks_count : (p : Fragment → Bool) → Counts p → (style : Style) (chunks : List Chunk) (fs : List Fragment) → count_by p (map (Shown style) chunks ++ fs) ≡ count_by p fs
chunks_count p c style [] fs = refl
chunks_count p c style (x ∷ xs) fs = omega (arith, count_by-cons p (Shown style x) (map (Shown style) xs ++ fs), ap one_if (c.1 style x), chunks_count p c style xs fs)

text_count : (p : Fragment → Bool) → Counts p → (full : Bool) (style : Style) (chunks : List Chunk) → count_by p (text_rest full style chunks) ≡ 0
text_count p c full style chunks = chunks_count p c style (visible full chunks) (TextEnd style ∷ []) ∙ omega (arith, count_by-cons p (TextEnd style) [], ap one_if (c.2 style))

part_count : (p : Fragment → Bool) → Counts p → (full : Bool) (part : Part) (depth : ℕ) → count_by p (part_walk full part depth) ≤ 1
part_count p c full (Text bytes style) zero = omega (arith, count_by-cons p (TextStart style) (text_rest full style (chunks_of bytes)), ap one_if (c.0 style), text_count p c full style (chunks_of bytes))
part_count p c full s depth = grind (arith, count_by-cons)

walk_count : (p : Fragment → Bool) → Counts p → (full : Bool) (depth : ℕ) (parts : List Part) → count_by p (walk full depth parts) ≤ length parts
walk_count p c full depth [] = omega arith
walk_count p c full depth (part ∷ parts) = grind (arith, walk_count p c full (depth_after full part depth) parts, count_by-append, part_count)

mono_starts : Counts is_mono_start
mono_starts = (λ style. refl, λ style chunk. refl, λ style. refl, refl)

mono_ends : Counts is_mono_end
mono_ends = (λ style. refl, λ style chunk. refl, λ style. refl, refl)

pub room_for : (document : List Part) (full : Bool) → length document < 2 ^ 64 → Room [] (shown_fragments full document)
room_for document full few =
    subst (λ fs. Room [] fs) (walked full document)
    (omega (arith, few, walk_count is_mono_start mono_starts full 0 document), omega (arith, few, walk_count is_mono_end mono_ends full 0 document))

-- nothing came before
pub at_start : Agrees [] (flags blank_text)
at_start = record { headed = refl; in_list = refl; item = none refl refl refl; starts = refl; ends = refl }

-- the text of a document, in full or in brief, well nested or not
pub markdown_meets : (document : List Part) (full : Bool) (answer : List ℕ) → length document < 2 ^ 64
    → answer ≡ (with_item (marked_after_all blank_text (shown_fragments full document)) false).bytes → IsMarkdownOf document full answer
markdown_meets document full answer few e =
    let fs : List Fragment = shown_fragments full document in
    let room : Room [] fs = room_for document full few in
    let form : well_formed false fs ≡ true = ap (well_formed false) (sym (walked full document)) ∙ walk_form full 0 document in
    record {
      cut = cut_from blank_text fs;
      spelling = e ∙ all-spelled [] blank_text fs at_start room ∙ sym (places-spelled [] (cut_from blank_text fs));
      fragments = cut-fragments blank_text fs;
      headings = all-headings [] blank_text fs at_start room;
      styles = cut-styles blank_text fs;
      fenced = fenced_of blank_text fs refl;
      unfenced = unfenced_of blank_text fs refl;
      lines = λ before after a c whole. (
        subst EndsInBlankLine (sym (places-spelled [] before)) (blank_before blank_text fs form refl at_start room before after a c whole),
        (subst (λ ss. IsTrue (starts (text_after (before ++ Of a ∷ []) ss) (codes "\n"))) (sym (newline_after blank_text fs before after a c whole).1) refl),
      );
      touching = touching_of blank_text fs;
      paragraphs = λ before between after a b c _ _ any. paragraphs_of blank_text fs before between after a b c any;
      line_breaks = λ before between after a b c _ _ any. line_breaks_of blank_text fs before between after a b c any;
    }
