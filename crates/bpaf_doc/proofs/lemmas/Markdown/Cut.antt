-- The snippets that make up a markdown text, and what it keeps in mind between fragments.
use Rattle.std.specs.Prelude.{if◌then◌else◌, ◌++◌, ◌==◌, ◌∷◌, ◌≡◌}
use Rattle.bpaf_doc.proofs.lemmas.Markdown.Words.{common_steps, ℕ, Bool, true, false, List, [], map, refl, sym, ap, ◌∙◌, append_assoc, append-nil, nat_lt, arith, not, reverse, codes, and-true, and-false, Style, Raw, Paragraph, LineBreak, code_weight, fence_weight, is_ordinary, Fragment, TextStart, Shown, TextEnd, Hidden, Start, End, TextFence, Fence, Heading, SecondHeading, ThirdHeading, Dash, LongDash, Blank, Newline, mark_text, MarkdownSnippet, is_in_mono, fragment_text, snippet_text, flat_map_places_from, style_marks, is_header_start, is_item_start, is_mono_start, is_mono_end, Put, Of, fragments_in, Marked, put, starts_line, starts_paragraph, with_new_line, with_item, open_code, close_code, with_raw, own_after, is_term_end, marked_after, one_more}
use Rattle.bpaf_doc.specs.declared.buffer.Block.{Block}
use Rattle.bpaf_doc.specs.declared.buffer.Block.TheVariants as blocks
use Rattle.bpaf_doc.proofs.lemmas.Snippets.{fragments-append}

abbrev pub blanks : List MarkdownSnippet
blanks = Put Blank ∷ Put Blank ∷ []

abbrev pub new_line_snippets : List ℕ → List MarkdownSnippet
new_line_snippets bytes = if starts_line bytes then [] else (Put Newline ∷ [])

abbrev pub blank_line_snippets : List ℕ → List MarkdownSnippet
blank_line_snippets bytes = if starts_paragraph bytes then [] else (Put Newline ∷ Put Newline ∷ [])

-- the dash of an item that waits for it, or blanks
abbrev pub item_snippets : Bool → Bool → List MarkdownSnippet
item_snippets pending empty = if pending then (if empty then blanks else (Put Dash ∷ [])) else []

abbrev pub open_snippets : Bool → List MarkdownSnippet
open_snippets in_code = if in_code then [] else (Put Newline ∷ Put Newline ∷ Put Blank ∷ Put Blank ∷ Put TextFence ∷ Put Newline ∷ [])

abbrev pub close_snippets : Bool → List MarkdownSnippet
close_snippets in_code = if in_code then (Put Newline ∷ Put Blank ∷ Put Blank ∷ Put Fence ∷ Put Newline ∷ []) else []

abbrev pub end_code_snippets : Bool → List MarkdownSnippet
end_code_snippets in_code = if in_code then (Put Blank ∷ Put Blank ∷ Put Fence ∷ Put Newline ∷ []) else []

abbrev pub line_snippets : Fragment → List MarkdownSnippet
line_snippets f = Put Blank ∷ Put Blank ∷ Of f ∷ Put Newline ∷ []

-- a Raw that is a fence line, or a code line, or ordinary
abbrev pub raw_cut : Bool → Bool → Marked → Fragment → List MarkdownSnippet
raw_cut is_fence is_code p f =
    if is_fence then new_line_snippets p.bytes ++ line_snippets f else (if is_code then open_snippets p.in_code ++ line_snippets f else (close_snippets p.in_code ++ Of f ∷ []))

-- P of a weight, by these
pub by_weight : (weight : ℕ) (P : Bool → Bool → Type 0) → ((weight == fence_weight) ≡ true → (c : Bool) → P true c)
    → ((weight == fence_weight) ≡ false → (weight == code_weight) ≡ true → P false true) → ((weight == fence_weight) ≡ false → (weight == code_weight) ≡ false → P false false)
    → P (weight == fence_weight) (weight == code_weight)
by_weight weight P if_fence if_code if_words = grind arith

abbrev pub raw_snippets : Marked → Style → List ℕ → ℕ → List MarkdownSnippet
raw_snippets p style bytes weight = raw_cut (weight == fence_weight) (weight == code_weight) p (Shown style (Raw bytes weight))

abbrev pub body_dash : Marked → List MarkdownSnippet
body_dash p = if p.in_list then (if p.empty_item then (Put Blank ∷ []) else (Put LongDash ∷ [])) else []

abbrev pub body_bytes : Marked → List ℕ
body_bytes p = (if p.in_list then put p (if p.empty_item then codes " " else codes " &mdash; ") else p).bytes

abbrev pub start_snippets : Marked → Block → List MarkdownSnippet
start_snippets p blocks.Header = Of (Start blocks.Header) ∷ (blank_line_snippets p.bytes ++ Put (if p.headed then SecondHeading else Heading) ∷ [])
start_snippets p blocks.Section3 = Of (Start blocks.Section3) ∷ Put ThirdHeading ∷ []
start_snippets p blocks.Section4 = Of (Start blocks.Section4) ∷ new_line_snippets p.bytes
start_snippets p blocks.ItemTerm = Of (Start blocks.ItemTerm) ∷ new_line_snippets p.bytes
start_snippets p blocks.ItemBody = Of (Start blocks.ItemBody) ∷ (body_dash p ++ (new_line_snippets (body_bytes p) ++ blanks))
start_snippets p blocks.Block = Of (Start blocks.Block) ∷ Put Newline ∷ []
start_snippets p b = Of (Start b) ∷ []

abbrev pub end_snippets : Marked → Block → List MarkdownSnippet
end_snippets p blocks.Header = Of (End blocks.Header) ∷ Put Newline ∷ []
end_snippets p blocks.Section2 = Of (End blocks.Section2) ∷ Put Newline ∷ []
end_snippets p blocks.Section3 = Of (End blocks.Section3) ∷ Put Newline ∷ []
end_snippets p blocks.Section4 = Of (End blocks.Section4) ∷ Put Newline ∷ []
end_snippets p blocks.Block = Of (End blocks.Block) ∷ Put Newline ∷ []
end_snippets p blocks.ItemBody = Of (End blocks.ItemBody) ∷ (if p.in_list then (Put Newline ∷ []) else [])
end_snippets p blocks.DefinitionList = Of (End blocks.DefinitionList) ∷ Put Newline ∷ []
end_snippets p b = Of (End b) ∷ []

abbrev pub own_snippets : Marked → Fragment → List MarkdownSnippet
own_snippets p (TextStart style) = Of (TextStart style) ∷ map Put (style_marks style)
own_snippets p (Shown style (Raw bytes weight)) = raw_snippets p style bytes weight
own_snippets p (Shown style Paragraph) = Of (Shown style Paragraph) ∷ Put Newline ∷ Put Newline ∷ (if p.in_list then blanks else [])
own_snippets p (Shown style LineBreak) = Of (Shown style LineBreak) ∷ Put Newline ∷ []
own_snippets p (TextEnd style) = end_code_snippets p.in_code ++ (map Put (reverse (style_marks style)) ++ Of (TextEnd style) ∷ [])
own_snippets p Hidden = Of Hidden ∷ []
own_snippets p (Start b) = start_snippets p b
own_snippets p (End b) = end_snippets p b

-- the snippets that a fragment adds
abbrev pub snippets_of : Marked → Fragment → List MarkdownSnippet
snippets_of p f = item_snippets p.pending (is_term_end f) ++ own_snippets (with_item p (is_term_end f)) f

-- those of all of some, and the dash of a last item
abbrev pub cut_from : Marked → List Fragment → List MarkdownSnippet
cut_from p [] = item_snippets p.pending false
cut_from p (f ∷ fs) = snippets_of p f ++ cut_from (marked_after p f) fs

-- ---- their text

-- the text of snippets that these fragments stand before
abbrev pub spelled : List Fragment → List MarkdownSnippet → List ℕ
spelled before [] = []
spelled before (Put mark ∷ snippets) = mark_text mark ++ spelled before snippets
spelled before (Of f ∷ snippets) = fragment_text before f ++ spelled (before ++ f ∷ []) snippets

pub places-spelled : (before snippets : List MarkdownSnippet) → flat_map_places_from snippet_text before snippets ≡ spelled (fragments_in before) snippets
places-spelled before [] = refl
places-spelled before (Put mark ∷ snippets) = grind (arith, places-spelled (before ++ Put mark ∷ []) snippets, fragments-append, append-nil)
places-spelled before (Of f ∷ snippets) = grind (arith, places-spelled (before ++ Of f ∷ []) snippets, fragments-append)

pub spelled-append : (before : List Fragment) (xs ys : List MarkdownSnippet) → spelled before (xs ++ ys) ≡ spelled before xs ++ spelled (before ++ fragments_in xs) ys
spelled-append before [] ys = ap (λ fs. spelled fs ys) (sym (append-nil before))
spelled-append before (Put mark ∷ xs) ys = ap (λ x. mark_text mark ++ x) (spelled-append before xs ys) ∙ sym (append_assoc (mark_text mark) (spelled before xs) (spelled (before ++ fragments_in xs) ys))
spelled-append before (Of f ∷ xs) ys = grind (arith, spelled-append (before ++ f ∷ []) xs ys, append_assoc)

-- ---- what is kept in mind

pub record Flags : Type 0 where
  pub headed : Bool
  pub in_list : Bool
  pub pending : Bool
  pub empty_item : Bool
  pub starts : ℕ
  pub ends : ℕ

abbrev pub flags : Marked → Flags
flags p = record { headed = p.headed; in_list = p.in_list; pending = p.pending; empty_item = p.empty_item; starts = p.starts; ends = p.ends }

abbrev pub item_flags : Flags → Bool → Flags
item_flags s empty = record s { pending = false; empty_item = if s.pending then empty else s.empty_item }

abbrev pub is_list_start : Fragment → Bool
is_list_start (Start blocks.DefinitionList) = true
is_list_start _ = false

abbrev pub is_list_end : Fragment → Bool
is_list_end (End blocks.DefinitionList) = true
is_list_end _ = false

abbrev pub own_flags : Flags → Fragment → Flags
own_flags s f = record {
  headed = if is_header_start f then true else s.headed;
  in_list = if is_list_start f then true else (if is_list_end f then false else s.in_list);
  pending = if is_item_start f then true else s.pending;
  empty_item = if is_item_start f then false else s.empty_item;
  starts = if is_mono_start f then one_more s.starts else s.starts;
  ends = if is_mono_end f then one_more s.ends else s.ends;
}

abbrev pub flags_next : Flags → Fragment → Flags
flags_next s f = own_flags (item_flags s (is_term_end f)) f

pub item-flags : (p : Marked) (empty : Bool) → flags (with_item p empty) ≡ item_flags (flags p) empty
item-flags p empty = grind arith

pub step-flags : (p : Marked) (f : Fragment) → flags (marked_after p f) ≡ flags_next (flags p) f
step-flags p f = (grind arith) ∙ ap (λ s. own_flags s f) (item-flags p (is_term_end f))

-- whether a code block is open after a fragment
abbrev pub code_next : Bool → Fragment → Bool
code_next in_code (Shown style (Raw bytes weight)) = if weight == fence_weight then in_code else (if weight == code_weight then true else false)
code_next in_code (TextEnd style) = false
code_next in_code f = in_code

pub item-code : (p : Marked) (empty : Bool) → (with_item p empty).in_code ≡ p.in_code
item-code p empty = grind arith

pub step-code : (p : Marked) (f : Fragment) → (marked_after p f).in_code ≡ code_next p.in_code f
step-code p f = (grind arith) ∙ ap (λ c. code_next c f) (item-code p (is_term_end f))

-- ---- its bytes

-- inside Mono, by the fragments before and by what is kept in mind
abbrev pub SameMono : List Fragment → Marked → Type 0
SameMono before p = is_in_mono before ≡ nat_lt p.ends p.starts

whole_text : (before : List Fragment) (style : Style) (bytes : List ℕ) (weight : ℕ) → is_ordinary (Raw bytes weight) ≡ false → fragment_text before (Shown style (Raw bytes weight)) ≡ bytes
whole_text before style bytes weight e = grind (arith, and-false)

pub new_line-spelled : (before : List Fragment) (p : Marked) → (with_new_line p).bytes ≡ p.bytes ++ spelled before (new_line_snippets p.bytes)
new_line-spelled before p = grind (arith, append-nil p.bytes)

pub marks_then : (before : List Fragment) (marks rest : List MarkdownSnippet) → fragments_in marks ≡ [] → spelled before (marks ++ rest) ≡ spelled before marks ++ spelled before rest
marks_then before marks rest e = spelled-append before marks rest ∙ ap (λ fs. spelled before marks ++ spelled (before ++ fs) rest) e ∙ ap (λ fs. spelled before marks ++ spelled fs rest) (append-nil before)

pub new_line_marks : (bytes : List ℕ) → fragments_in (new_line_snippets bytes) ≡ []
new_line_marks bytes = grind arith

pub open-spelled : (before : List Fragment) (p : Marked) → (open_code p).bytes ≡ p.bytes ++ spelled before (open_snippets p.in_code)
open-spelled before p = grind (arith, append-nil p.bytes)

close-spelled : (before : List Fragment) (p : Marked) → (close_code p (codes "\n  ```\n")).bytes ≡ p.bytes ++ spelled before (close_snippets p.in_code)
close-spelled before p = grind (arith, append-nil p.bytes)

raw-spelled : (before : List Fragment) (p : Marked) (style : Style) (bytes : List ℕ) (weight : ℕ) → SameMono before p → (with_raw p bytes weight).bytes ≡ p.bytes ++ spelled before (raw_snippets p style bytes weight)
raw-spelled before p style bytes weight mono =
    grind (arith, common_steps, by_weight, new_line-spelled, new_line_marks, not, code_weight, and-false, open-spelled, fence_weight, and-true, close-spelled, append_assoc, append-nil, marks_then, whole_text)

start-spelled : (before : List Fragment) (p : Marked) (b : Block) → (own_after p (Start b)).bytes ≡ p.bytes ++ spelled before (start_snippets p b)
start-spelled before p b = grind (arith, append_assoc, marks_then, new_line-spelled, new_line_marks, append-nil)

end-spelled : (before : List Fragment) (p : Marked) (b : Block) → (own_after p (End b)).bytes ≡ p.bytes ++ spelled before (end_snippets p b)
end-spelled before p b = grind (arith, append-nil)

own-spelled : (before : List Fragment) (p : Marked) (f : Fragment) → SameMono before p → (own_after p f).bytes ≡ p.bytes ++ spelled before (own_snippets p f)
own-spelled before p f h = grind (arith, raw-spelled, append_assoc, marks_then, append-nil, start-spelled, end-spelled)

pub item-spelled : (before : List Fragment) (p : Marked) (empty : Bool) → (with_item p empty).bytes ≡ p.bytes ++ spelled before (item_snippets p.pending empty)
item-spelled before p empty = grind (arith, append-nil p.bytes)

pub item_marks : (pending empty : Bool) → fragments_in (item_snippets pending empty) ≡ []
item_marks pending empty = grind arith

pub step-spelled : (before : List Fragment) (p : Marked) (f : Fragment) → SameMono before p → (marked_after p f).bytes ≡ p.bytes ++ spelled before (snippets_of p f)
step-spelled before p f mono = grind (arith, own-spelled, item-flags, item-spelled, append_assoc, marks_then, item_marks)
