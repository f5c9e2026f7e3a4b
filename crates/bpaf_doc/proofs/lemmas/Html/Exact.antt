-- The page that the code writes, one fragment after another, is the page as a
-- function of the document, and this meets the laws.
use Rattle.std.proofs.lemmas.Grind.{common_steps}
use Rattle.std.specs.Prelude.{◌&&◌, ◌++◌, ◌-◌, ◌||◌, ◌∷◌, ◌≡◌, ◌⊎◌}
use Rattle.bpaf_doc.proofs.lemmas.Html.Words.{ℕ, zero, suc, Bool, true, false, List, [], inl, inr, refl, sym, ap, ◌∙◌, append_assoc, append-nil, arith, reverse, flat_map, nat_eq, length, take, list_all, ends_with, reverse-append, list_all-append, and_parts, and_from, cases_Bool, eqb-false, false≢true, Decides-eqb, or-true, and-false, and-true, Block, Part, IsWellNested, Raw, Paragraph, LineBreak, is_line_byte, Fragment, TextStart, Shown, TextEnd, Hidden, Start, End, shown_fragments, escaped_character, IsHtmlPageOf, IsHtmlTextPageOf, Written, blank_page, with_heading, first_or_false, closed, page_after, page_after_all}
use Rattle.std.proofs.lemmas.Slice.Eq.{ends_is}
use Rattle.std.specs.Option.{option_map_or}
use Rattle.bpaf_doc.specs.Html.Page.{is_definition_list}
use Rattle.bpaf_doc.specs.Html.Exact.{start_tag, end_tag, opening_tags, closing_tags, open_block, break_text, is_empty, is_at_break, fragment_html, html_after, html_page}
use Rattle.bpaf_doc.proofs.lemmas.Html.Fragments.Lines.{fragment_is_line}
use Rattle.bpaf_doc.proofs.lemmas.Html.Meets.{shown_lines, page_meets, page_text}

-- ---- how a text ends

byte_at : ℕ → List ℕ → ℕ
byte_at k [] = 0
byte_at zero (b ∷ bs) = b
byte_at (suc k) (b ∷ bs) = byte_at k bs

-- no text ends in a break when this is put after it
abbrev EndsOther : List ℕ → Type 0
EndsOther t = (text front : List ℕ) → text ++ t ≡ front ++ break_text → ⊥

turned : (t text front : List ℕ) → text ++ t ≡ front ++ break_text → reverse t ++ reverse text ≡ reverse break_text ++ reverse front
turned t text front e = sym (reverse-append text t) ∙ ap reverse e ∙ reverse-append front break_text

-- what was put is nothing, or ends in another way
abbrev IsOther : List ℕ → Type 0
IsOther t = (t ≡ []) ⊎ ((is_empty t ≡ false) × EndsOther t)

line_ends_other : (b : ℕ) (bs : List ℕ) → list_all is_line_byte (b ∷ bs) ≡ true → EndsOther (b ∷ bs)
unfolding byte_at
line_ends_other b [] h text front e = grind (arith, turned (b ∷ []) text front e, false≢true, and_parts (is_line_byte b) true h)
line_ends_other b (c ∷ cs) h text front e = grind (arith, line_ends_other c cs (and_parts (is_line_byte b) (list_all is_line_byte (c ∷ cs)) h).1 (text ++ b ∷ []) front, and_parts (is_line_byte b) (list_all is_line_byte (c ∷ cs)) h, append_assoc text (b ∷ []) (c ∷ cs))

line_is_other : (t : List ℕ) → list_all is_line_byte t ≡ true → IsOther t
line_is_other t h = grind (arith, line_ends_other)

-- a tag with a newline after it, by the letter before its `>`
tag_is_other : (t : List ℕ) → is_empty t ≡ false → nat_eq (byte_at 2 (reverse t)) 114 ≡ false → ((rest : List ℕ) → byte_at 2 (reverse t ++ rest) ≡ byte_at 2 (reverse t)) → IsOther t
unfolding byte_at
tag_is_other t some other stays =
    inr (some, λ text front e. eqb-false (byte_at 2 (reverse t)) 114 other (sym (stays (reverse text)) ∙ ap (byte_at 2) (turned t text front e)))

start_is_other : (b : Block) (in_list : Bool) → IsOther (start_tag b in_list)
unfolding byte_at
start_is_other b in_list = grind (arith, tag_is_other, line_is_other)

end_is_other : (b : Block) (in_list : Bool) → IsOther (end_tag b in_list)
unfolding byte_at
end_is_other b in_list = grind (arith, tag_is_other, line_is_other)

words_line : (bytes : List ℕ) → list_all is_line_byte bytes ≡ true → list_all is_line_byte (flat_map escaped_character bytes) ≡ true
words_line [] h = refl
words_line (b ∷ bs) h = grind (arith, words_line bs, and_parts, list_all-append, and_from, h)

some_stays : (text t : List ℕ) → is_empty t ≡ false → is_empty (text ++ t) ≡ false
some_stays [] t h = h
some_stays (b ∷ bs) t h = refl

-- a text is at a break after a break
break_put : (text : List ℕ) → is_at_break (text ++ break_text) ≡ true
break_put text = grind (arith, common_steps, ends_is, Decides-eqb, or-true)

no_break : (text t : List ℕ) → is_empty t ≡ false → EndsOther t → is_at_break (text ++ t) ≡ false
no_break text t some other = at (cases_Bool (ends_with nat_eq (text ++ t) break_text)) where
  whole : List ℕ
  whole = text ++ t

  at : (ends_with nat_eq (text ++ t) break_text ≡ true) ⊎ (ends_with nat_eq (text ++ t) break_text ≡ false) → is_at_break (text ++ t) ≡ false
  at (inl h) = absurd (other text (take (length (text ++ t) - length break_text) (text ++ t)) ((ends_is Decides-eqb (text ++ t) break_text (ends_with nat_eq (text ++ t) break_text) refl).0 h))
  at (inr h) = ap (λ b. is_empty (text ++ t) || b) h ∙ ap (λ b. b || false) (some_stays text t some)

-- what the code keeps about breaks, after it wrote something else
fresh_put : (text t : List ℕ) (fresh : Bool) → fresh ≡ is_at_break text → IsOther t → (fresh && is_empty t) ≡ is_at_break (text ++ t)
fresh_put text t fresh h1 h2 = grind (arith, and-true, append-nil, and-false, no_break)

-- ---- what the code keeps is what looking back says

nth : ℕ → List Bool → Bool
nth n [] = false
nth zero (b ∷ bs) = b
nth (suc n) (b ∷ bs) = nth n bs

-- whether a block is open, of the fragments backwards
abbrev in_list_at : ℕ → List Fragment → Bool
in_list_at n back = option_map_or is_definition_list (open_block back n) false

record Agrees (before : List Fragment) (p : Written) : Type 0 where
  fresh : p.fresh ≡ is_at_break p.bytes
  lists : (n : ℕ) → nth n (p.in_list ∷ p.outer) ≡ in_list_at n (reverse before)

first_is : (outer : List Bool) → first_or_false outer ≡ nth 0 outer
unfolding nth
first_is outer = grind arith

next_lists : (before : List Fragment) (p : Written) (f : Fragment) → ((n : ℕ) → nth n (p.in_list ∷ p.outer) ≡ in_list_at n (reverse before))
    → (n : ℕ) → nth n ((page_after p f).in_list ∷ (page_after p f).outer) ≡ in_list_at n (f ∷ reverse before)
unfolding nth
next_lists before p f h1 n = grind (arith, nth)

-- ---- a fragment more

step_bytes : (before : List Fragment) (p : Written) (f : Fragment) → Agrees before p → (page_after p f).bytes ≡ p.bytes ++ fragment_html p.bytes before f
unfolding nth
step_bytes before p f h = grind (arith, append-nil, append_assoc, first_is, reverse-append)

step_fresh : (p : Written) (f : Fragment) → fragment_is_line f ≡ true → p.fresh ≡ is_at_break p.bytes → (page_after p f).fresh ≡ is_at_break (page_after p f).bytes
step_fresh p (TextStart style) line e = fresh_put p.bytes (opening_tags style) p.fresh e (grind (arith, line_is_other))
step_fresh p (Shown style (Raw bytes weight)) line e = words bytes line
  where
    words : (bytes : List ℕ) → list_all is_line_byte bytes ≡ true → (p.fresh && is_empty bytes) ≡ is_at_break (p.bytes ++ flat_map escaped_character bytes)
    words [] line = fresh_put p.bytes [] p.fresh e (inl refl)
    words (b ∷ bs) line = ap (λ x. p.fresh && x) (sym (grind arith)) ∙ fresh_put p.bytes (flat_map escaped_character (b ∷ bs)) p.fresh e (line_is_other (flat_map escaped_character (b ∷ bs)) (words_line (b ∷ bs) line))
step_fresh p (Shown style Paragraph) line e = sym (break_put p.bytes)
step_fresh p (Shown style LineBreak) line e = sym (break_put p.bytes)
step_fresh p (TextEnd style) line e = fresh_put p.bytes (closing_tags style) p.fresh e (grind (arith, line_is_other))
step_fresh p Hidden line e = e
step_fresh p (Start b) line e = fresh_put (with_heading p b).bytes (start_tag b p.in_list) (with_heading p b).fresh (grind (arith, break_put)) (start_is_other b p.in_list)
step_fresh p (End b) line e = fresh_put (with_heading (closed p) b).bytes (end_tag b (first_or_false p.outer)) (with_heading (closed p) b).fresh (grind (arith, break_put)) (end_is_other b (first_or_false p.outer))

-- ---- the page

pages_same : (before : List Fragment) (p : Written) (fs : List Fragment) → list_all fragment_is_line fs ≡ true → Agrees before p → (page_after_all p fs).bytes ≡ html_after p.bytes before fs
pages_same before p [] lines h = refl
pages_same before p (f ∷ fs) lines h =
    grind (arith, pages_same (before ++ f ∷ []) (page_after p f) fs, and_parts, step_fresh, next_lists, reverse-append, step_bytes)

at_start : Agrees [] blank_page
unfolding nth
at_start = grind arith

-- the page that the code writes of a document
pub page_exact : (document : List Part) (full : Bool) → (page_after_all blank_page (shown_fragments full document)).bytes ≡ html_after [] [] (shown_fragments full document)
page_exact document full = pages_same [] blank_page (shown_fragments full document) (shown_lines document full) at_start

-- ---- the laws of the page

pub page_laws : (document : List Part) (full include_css : Bool) → IsWellNested document → IsHtmlPageOf document full include_css (html_page full include_css document)
page_laws document full include_css nested =
    (html_after [] [] (shown_fragments full document), page_meets document full (html_after [] [] (shown_fragments full document)) nested (sym (page_exact document full)), refl)

pub page_words : (document : List Part) (full include_css : Bool) → IsHtmlTextPageOf document full include_css (html_page full include_css document)
page_words document full include_css = grind (arith, page_text, page_exact)
