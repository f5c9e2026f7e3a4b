-- The text that the code writes, one fragment after another, is the text as a
-- function of the document, and this meets the laws.
use Rattle.std.specs.Prelude.{if◌then◌else◌, ◌++◌, ◌<◌, ◌^◌, ◌∷◌, ◌≡◌}
use Rattle.bpaf_doc.proofs.lemmas.Markdown.Words.{common_steps, ℕ, Bool, false, List, [], length, refl, sym, ap, ◌∙◌, append_assoc, append-nil, nat_lt, arith, filter, codes, list_any, reverse-append, Fragment, shown_fragments, IsMarkdownOf, is_header_start, is_in_list, is_in_mono, is_after_empty_item, Marked, blank_text, with_new_line, with_blank_line, with_item, with_raw, is_term_end, marked_after, marked_after_all, first_is, shows, is_code_line}
use Rattle.bpaf_doc.specs.Buffer.Parts.{Part}
use Rattle.bpaf_doc.specs.Markdown.Exact.{new_line, blank_line, indented_line, decides_code, is_in_code, raw_markdown, item_mark, fragment_markdown, markdown_after, markdown_page}
use Rattle.bpaf_doc.proofs.lemmas.Markdown.Cut.{by_weight, flags, item-flags, step-flags, code_next, item-code, step-code}
use Rattle.bpaf_doc.proofs.lemmas.Markdown.Mind.{Agrees, Room, after_empty_is, agrees_after, rooms_next, same_mono}
use Rattle.bpaf_doc.proofs.lemmas.Markdown.Meets.{room_for, at_start, markdown_meets}
use Rattle.bpaf_doc.proofs.lemmas.Markdown.Runs.{marked-append}

code_push : (before : List Fragment) (f : Fragment) → is_in_code (before ++ f ∷ []) ≡ code_next (is_in_code before) f
code_push before f = ap (λ fs. first_is (shows is_code_line) (filter decides_code fs)) (reverse-append before (f ∷ [])) ∙ (grind arith)

record Looks (before : List Fragment) (p : Marked) : Type 0 where
  headed : p.headed ≡ list_any is_header_start before
  in_list : p.in_list ≡ is_in_list before
  mono : nat_lt p.ends p.starts ≡ is_in_mono before
  code : p.in_code ≡ is_in_code before

-- ---- the bytes of a step

line_put : (bytes line : List ℕ) → ((bytes ++ codes "  ") ++ line) ++ codes "\n" ≡ bytes ++ indented_line line
line_put bytes line = append_assoc (bytes ++ codes "  ") line (codes "\n") ∙ append_assoc bytes (codes "  ") (line ++ codes "\n")

new_line_put : (p : Marked) → (with_new_line p).bytes ≡ p.bytes ++ new_line p.bytes
new_line_put p = grind (arith, append-nil p.bytes)

blank_line_put : (p : Marked) → (with_blank_line p).bytes ≡ p.bytes ++ blank_line p.bytes
blank_line_put p = grind (arith, append-nil p.bytes)

-- first one text, and then another
both : (bytes first second : List ℕ) (after : List ℕ) → after ≡ bytes ++ first → after ++ second ≡ bytes ++ (first ++ second)
both bytes first second after e = ap (λ x. x ++ second) e ∙ append_assoc bytes first second

raw_put : (before : List Fragment) (p : Marked) (bytes : List ℕ) (weight : ℕ) → Looks before p → (with_raw p bytes weight).bytes ≡ p.bytes ++ raw_markdown p.bytes before bytes weight
raw_put before p bytes weight h = grind (arith, common_steps, by_weight, line_put, both, new_line_put, append-nil)

-- ---- the dash that waits for the next fragment

abbrev waiting : Bool → List Fragment → List ℕ
waiting pending after = if pending then item_mark after else []

item_put : (p : Marked) (f : Fragment) (fs : List Fragment) → (with_item p (is_term_end f)).bytes ≡ p.bytes ++ waiting p.pending (f ∷ fs)
item_put p f fs = grind (arith, append-nil p.bytes)

last_item_put : (p : Marked) → (with_item p false).bytes ≡ p.bytes ++ waiting p.pending []
last_item_put p = grind (arith, append-nil p.bytes)

step_put : (before : List Fragment) (p : Marked) (f : Fragment) (fs : List Fragment) → Looks before (with_item p (is_term_end f)) → (is_term_end f ≡ false → (with_item p (is_term_end f)).empty_item ≡ is_after_empty_item before)
    → (marked_after p f).bytes ++ waiting (marked_after p f).pending fs ≡ (with_item p (is_term_end f)).bytes ++ fragment_markdown (with_item p (is_term_end f)).bytes before f fs
step_put before p f fs h empty =
    grind (arith, step-flags, append-nil, raw_put, both, blank_line_put, new_line_put, append_assoc)

-- ---- the text

texts_same : (before : List Fragment) (p : Marked) (fs : List Fragment) → Agrees before (flags p) → p.in_code ≡ is_in_code before → Room before fs
    → (with_item (marked_after_all p fs) false).bytes ≡ markdown_after (p.bytes ++ waiting p.pending fs) before fs
texts_same before p [] h code room = last_item_put p
texts_same before p (f ∷ fs) h code room =
    texts_same (before ++ f ∷ []) (marked_after p f) fs (agrees_after before p f fs h room) (step-code p f ∙ ap (λ c. code_next c f) code ∙ sym (code_push before f)) (rooms_next before f fs room)
    ∙ ap (λ text. markdown_after text (before ++ f ∷ []) fs) (step_put before p f fs (grind (arith, item-flags, same_mono, item-code)) (empty f) ∙ ap (λ text. text ++ fragment_markdown text before f fs) (item_put p f fs))
  where
    empty : (f : Fragment) → is_term_end f ≡ false → (with_item p (is_term_end f)).empty_item ≡ is_after_empty_item before
    empty f e = ap (λ b. (with_item p b).empty_item) e ∙ (ap (λ s. s.empty_item) (item-flags p false) ∙ sym (after_empty_is h.item))

-- the text that the code writes of a document
pub text_exact : (document : List Part) (full : Bool) → length document < 2 ^ 64 → (with_item (marked_after_all blank_text (shown_fragments full document)) false).bytes ≡ markdown_after [] [] (shown_fragments full document)
text_exact document full few = texts_same [] blank_text (shown_fragments full document) at_start refl (room_for document full few)

-- the bound is that of a count of the code; each document meets it
pub text_laws : (document : List Part) (full : Bool) → length document < 2 ^ 64 → IsMarkdownOf document full (markdown_page full document)
text_laws document full few = markdown_meets document full (markdown_page full document) few (sym (text_exact document full few))

pub ruleset written_text = (marked-append, text_exact, text_laws)
