-- A whole line of a markdown text stands alone on its line.
use Rattle.std.specs.Prelude.{if◌then◌else◌, ◌&&◌, ◌++◌, ◌+◌, ◌-◌, ◌==◌, ◌||◌, ◌∷◌, ◌≡◌}
use Rattle.bpaf_doc.proofs.lemmas.Markdown.Words.{common_steps, rules, ℕ, Bool, true, false, cond, List, [], length, take, drop, refl, sym, ap, ◌∙◌, subst, arith, append_assoc, append-nil, length-append, not, IsTrue, codes, list_all, after_last, suffix_len, prefix_len, reverse-append, drop-append-le, drop_all, take-append-drop, list_all-append, false≢true, and_parts, eqb-true, Style, Chunk, Raw, fence_weight, is_whole_line, Fragment, TextStart, Shown, TextEnd, shows, mark_text, MarkdownSnippet, fragment_text, EndsInBlankLine, Put, Of, fragments_in, Marked, put, starts_line, with_new_line, open_code, with_chunk, marked_after}
use Rattle.std.proofs.lemmas.List.Sums.{AllPass-from_list_all, list_all-from_AllPass}
use Rattle.bpaf_doc.proofs.lemmas.Lists.Passing.{passes}
use Rattle.bpaf_doc.proofs.lemmas.Markdown.Cut.{raw_cut, by_weight, spelled, own_snippets, snippets_of, cut_from, item_snippets, open_snippets, close_snippets, line_snippets, new_line_snippets, flags, step-code, item_marks, step-spelled, new_line-spelled, open-spelled, new_line_marks}
use Rattle.bpaf_doc.proofs.lemmas.Markdown.Kept.{step-fragments}
use Rattle.bpaf_doc.proofs.lemmas.Markdown.Mind.{Agrees, Room, agrees_after, rooms_next, same_mono}

-- ---- texts that end in a line of blanks

suffix-push : (q : ℕ → Bool) (xs : List ℕ) (x : ℕ) → suffix_len q (xs ++ x ∷ []) ≡ cond (q x) (1 + suffix_len q xs) 0
suffix-push q xs x = ap (λ ys. prefix_len q ys) (reverse-append xs (x ∷ []))

abbrev last_line : List ℕ → List ℕ
last_line text = after_last (λ c. c == 10) text

last_line-newline : (text : List ℕ) → last_line (text ++ codes "\n") ≡ []
last_line-newline text = grind (arith, suffix-push, drop_all)

last_line-blank : (text : List ℕ) → last_line (text ++ 32 ∷ []) ≡ last_line text ++ 32 ∷ []
last_line-blank text = grind (arith, suffix-push, length-append, drop-append-le)

blank_newline : (text : List ℕ) → EndsInBlankLine (text ++ codes "\n")
blank_newline text = AllPass-from_list_all (λ c. c == 32) (last_line (text ++ codes "\n")) (ap (list_all (λ c. c == 32)) (last_line-newline text))

one_blank : (text : List ℕ) → EndsInBlankLine text → EndsInBlankLine (text ++ 32 ∷ [])
one_blank text h =
    AllPass-from_list_all (λ c. c == 32) (last_line (text ++ 32 ∷ []))
    (ap (list_all (λ c. c == 32)) (last_line-blank text) ∙ list_all-append (λ c. c == 32) (last_line text) (32 ∷ []) ∙ ap (λ b. b && true) (list_all-from_AllPass (λ c. c == 32) (last_line text) h))

nothing_blank : EndsInBlankLine []
nothing_blank = AllPass-from_list_all (λ c. c == 32) [] refl

line_is_blank : (bytes : List ℕ) → starts_line bytes ≡ true → EndsInBlankLine bytes
line_is_blank [] h = nothing_blank
line_is_blank (b ∷ bs) h =
    let n : ℕ = length (b ∷ bs) - 1 in
    let last : drop n (b ∷ bs) ≡ 10 ∷ [] = grind (arith, false≢true, eqb-true, and_parts) in
    subst EndsInBlankLine (ap (λ x. take n (b ∷ bs) ++ x) (sym last) ∙ take-append-drop n (b ∷ bs)) (blank_newline (take n (b ∷ bs)))

new_line_blank : (p : Marked) → EndsInBlankLine (with_new_line p).bytes
new_line_blank p = (elim (starts_line p.bytes) as (λ b. starts_line p.bytes ≡ b → EndsInBlankLine (if b then p else put p (codes "\n")).bytes) [
  | true ↦ λ e. line_is_blank p.bytes e
  | false ↦ λ e. blank_newline p.bytes
]) refl

open_blank : (p : Marked) → (p.in_code ≡ true → EndsInBlankLine p.bytes) → EndsInBlankLine (open_code p).bytes
open_blank p h = (elim (p.in_code) as (λ b. p.in_code ≡ b → EndsInBlankLine (if b then p else record p { bytes = p.bytes ++ codes "\n\n  ```text\n"; in_code = true }).bytes) [
  | true ↦ λ e. h e
  | false ↦ λ e. subst EndsInBlankLine (append_assoc p.bytes (codes "\n\n  ```text") (codes "\n")) (blank_newline (p.bytes ++ codes "\n\n  ```text"))
]) refl

-- ---- each whole line comes after such a text

abbrev LinesStand : List Fragment → List ℕ → List MarkdownSnippet → Type 0
LinesStand before text [] = Unit {0}
LinesStand before text (Put mark ∷ ss) = LinesStand before (text ++ mark_text mark) ss
LinesStand before text (Of f ∷ ss) = (shows is_whole_line f ≡ true → EndsInBlankLine text) × LinesStand (before ++ f ∷ []) (text ++ fragment_text before f) ss

lines_both : (before : List Fragment) (text : List ℕ) (xs ys : List MarkdownSnippet) → LinesStand before text xs → LinesStand (before ++ fragments_in xs) (text ++ spelled before xs) ys → LinesStand before text (xs ++ ys)
lines_both before text [] ys h k = subst (λ fs. LinesStand fs text ys) (append-nil before) (subst (λ t. LinesStand (before ++ []) t ys) (append-nil text) k)
lines_both before text (Put mark ∷ xs) ys h k = grind (arith, lines_both before (text ++ mark_text mark) xs ys, append_assoc)
lines_both before text (Of f ∷ xs) ys h k = grind (arith, lines_both (before ++ f ∷ []) (text ++ fragment_text before f) xs ys, append_assoc)

lines_at : (before : List Fragment) (text : List ℕ) (xs after : List MarkdownSnippet) (a : Fragment) → LinesStand before text (xs ++ Of a ∷ after) → shows is_whole_line a ≡ true → EndsInBlankLine (text ++ spelled before xs)
lines_at before text [] after a h whole = subst EndsInBlankLine (sym (append-nil text)) (h.0 whole)
lines_at before text (Put mark ∷ xs) after a h whole = subst EndsInBlankLine (append_assoc text (mark_text mark) (spelled before xs)) (lines_at before (text ++ mark_text mark) xs after a h whole)
lines_at before text (Of f ∷ xs) after a h whole = subst EndsInBlankLine (append_assoc text (fragment_text before f) (spelled (before ++ f ∷ []) xs)) (lines_at (before ++ f ∷ []) (text ++ fragment_text before f) xs after a h.1 whole)

marks_stand : (before : List Fragment) (text : List ℕ) (ss : List MarkdownSnippet) → fragments_in ss ≡ [] → LinesStand before text ss
marks_stand before text (Put mark ∷ ss) none = marks_stand before (text ++ mark_text mark) ss none
marks_stand before text x none = grind arith

abbrev without_first : List Fragment → List Fragment
without_first [] = []
without_first (f ∷ fs) = fs

other_stands : (before : List Fragment) (text : List ℕ) (ss : List MarkdownSnippet) (f : Fragment) → fragments_in ss ≡ f ∷ [] → shows is_whole_line f ≡ false → LinesStand before text ss
other_stands before text (Put mark ∷ ss) f e o = other_stands before (text ++ mark_text mark) ss f e o
other_stands before text x f e o = grind (arith, false≢true, marks_stand)

raw_stands : (before : List Fragment) (p : Marked) (style : Style) (bytes : List ℕ) (weight : ℕ) → (p.in_code ≡ true → EndsInBlankLine p.bytes) → LinesStand before p.bytes (own_snippets p (Shown style (Raw bytes weight)))
raw_stands before p style bytes weight h =
    let f : Fragment = Shown style (Raw bytes weight) in
    by_weight weight (λ t c. LinesStand before p.bytes (raw_cut t c p f))
    (λ e c. after_marks (new_line_snippets p.bytes) (new_line_marks p.bytes) (subst EndsInBlankLine (new_line-spelled before p) (new_line_blank p)))
    (λ e k. after_marks (open_snippets p.in_code) (grind arith) (subst EndsInBlankLine (open-spelled before p) (open_blank p h)))
    (λ e k. other_stands before p.bytes (close_snippets p.in_code ++ Of f ∷ []) f (grind arith) (ap (λ c. c || (weight == fence_weight)) k ∙ e))
  where
    after_marks : (marks : List MarkdownSnippet) → fragments_in marks ≡ [] → EndsInBlankLine (p.bytes ++ spelled before marks) → LinesStand before p.bytes (marks ++ line_snippets (Shown style (Raw bytes weight)))
    after_marks marks none k = search (rules, lines_both, marks_stand, one_blank)

-- ---- texts of a document: where chunks stand between a start and an end

abbrev may_come : Bool → Fragment → Bool
may_come in_text (Shown style chunk) = in_text
may_come in_text (TextEnd style) = in_text
may_come in_text f = not in_text

abbrev form_next : Bool → Fragment → Bool
form_next in_text (TextStart style) = true
form_next in_text (TextEnd style) = false
form_next in_text f = in_text

abbrev pub well_formed : Bool → List Fragment → Bool
well_formed = passes may_come form_next

-- outside of texts no code block is open; inside no item waits, and an open block's last line is blank
abbrev Keeps : Bool → Marked → Type 0
Keeps false p = p.in_code ≡ false
Keeps true p = (p.pending ≡ false) × (p.in_code ≡ true → EndsInBlankLine p.bytes)

never : {X : Type 0} (b : Bool) → b ≡ false → b ≡ true → X
never b e h = absurd (false≢true (sym e ∙ h))

chunk_next : (p : Marked) (style : Style) (chunk : Chunk) → Keeps true p → Keeps true (marked_after p (Shown style chunk))
chunk_next p style chunk keeps = grind (arith, common_steps, with_chunk, codes, false, by_weight, one_blank, blank_newline)

step_stands : (t : Bool) (before : List Fragment) (p : Marked) (f : Fragment) → may_come t f ≡ true → Keeps t p → LinesStand before p.bytes (snippets_of p f)
step_stands t before p f h1 h2 = grind (arith, raw_stands, false≢true, other_stands, step-fragments)

step_keeps : (t : Bool) (p : Marked) (f : Fragment) → may_come t f ≡ true → Keeps t p → Keeps (form_next t f) (marked_after p f)
step_keeps true p (Shown style chunk) may keeps = chunk_next p style chunk keeps
step_keeps z0 p f may keeps = grind (arith, step-code, false≢true, never)

lines_stand : (t : Bool) (before : List Fragment) (p : Marked) (fs : List Fragment) → well_formed t fs ≡ true → Keeps t p → Agrees before (flags p) → Room before fs → LinesStand before p.bytes (cut_from p fs)
lines_stand t before p [] form keeps agrees room = marks_stand before p.bytes (item_snippets p.pending false) (item_marks p.pending false)
lines_stand t before p (f ∷ fs) form keeps agrees room = grind (arith, lines_stand (form_next t f) (before ++ f ∷ []) (marked_after p f) fs, and_parts, lines_both, step_stands, step-fragments, step-spelled, same_mono, step_keeps, agrees_after, rooms_next)

-- the text before a whole line ends in a line of blanks
pub blank_before : (p : Marked) (fs : List Fragment) → well_formed false fs ≡ true → p.in_code ≡ false → Agrees [] (flags p) → Room [] fs
    → (before after : List MarkdownSnippet) (a : Fragment) → cut_from p fs ≡ before ++ Of a ∷ after → IsTrue (shows is_whole_line a) → EndsInBlankLine (p.bytes ++ spelled [] before)
blank_before p fs form none agrees room before after a e whole =
    lines_at [] p.bytes before after a (subst (λ ss. LinesStand [] p.bytes ss) e (lines_stand false [] p fs form none agrees room)) whole
