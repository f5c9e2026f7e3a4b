-- What each call keeps of an open page.
use Rattle.std.proofs.Common.{◌≡◌, ℕ, Bool, true, false, not, ◌&&◌, ◌||◌, List, [], ◌∷◌, ◌++◌, refl, sym, ap, ◌∙◌, subst, append_assoc, append-nil, length, arith}
use Rattle.std.specs.Prelude.{Option, Some, None, codes, unwrap_or}
use Rattle.std.specs.List.{list_any, list_all}
use Rattle.std.specs.Str.{IsUtf8, chars, is_utf8}
use Rattle.std.proofs.lemmas.Bool.{and_parts, and_from}
use Rattle.std.proofs.lemmas.Str.{IsUtf8-from_is_utf8}
use Rattle.web_page.specs.Tree.{Attribute, Nodes, none, element, is_tag}
use Rattle.web_page.specs.Reader.{Draft, Frame, Reading, Content, are_attributes, begin, is_kept, is_permitted, is_void, joined, no_draft, reading, reading_of, settled, takes_elements, with_element, with_start}
use Rattle.web_page.specs.Models.{ReadsAs, ReadsInBody, are_fit, are_in_order, empty_body, fits_attributes, fits_model, has_ink, is_ink, is_language, last_child, may_end, may_hold, page_of, wants_ink}
use Rattle.web_page.specs.Calls.{are_written, has_end_sign, has_ink_in, is_in_link, is_inside_body, is_link, may_end_in, may_stand_in, head_content, new_page, whole_page, with_end, with_end_in, with_text, with_words}
use Rattle.web_page.specs.Exact.{end_text, escaped, page_end, page_front, start_text}
use Rattle.web_page.specs.Steps.Open.{AreOpen, Describes, IsBody, IsContent, IsOngoing, after_child, after_text, draft_of, ends, in_page, inked, moved, opened}
use Rattle.web_page.proofs.Nodes.{joined-assoc, joined-none, are_fit-joined, are_fit-with_words, are_in_order-joined, are_in_order-with_words, are_kept-joined, are_kept-with_words, has_ink-joined, has_ink-with_words, last_child-joined, last_child-with_words}
use Rattle.web_page.proofs.Pages.{IsBodyContent, body_of, fit_head, front_reads, page_reads}
use Rattle.web_page.proofs.Readings.{CanStart, ReadAttributes, break_reads, each_tag, end_reads, run, run-append, run_then, start_reads, text_reads}
use Rattle.web_page.proofs.Settles.{settles}
use Rattle.web_page.proofs.White.{clean_white, elements-after, elements-with_words, white_reads}
use Rattle.web_page.proofs.Texts.{IsClean, is_ascii_byte, clean-append, clean-ascii, clean-escaped, clean-nil, kept_text}
use Rattle.web_page.specs.declared.elements.Child.{Child}
use Rattle.web_page.specs.declared.elements.Child.TheVariants.{Words, Inner}
use Rattle.web_page.specs.declared.elements.Tag.{Tag}
use Rattle.web_page.specs.declared.elements.Tag.TheVariants.{Html, Title, Style, Body, Br, A}
use Rattle.web_page.specs.declared.writer.Open.{Open}

-- ---- what is written reads on

-- a text of a page is read further
reads_on : (bytes more : List ℕ) (draft next : Draft) → reading_of bytes ≡ reading Content (Some draft) → run (reading Content (Some draft)) more ≡ reading Content (Some next) → reading_of (bytes ++ more) ≡ reading Content (Some next)
unfolding reading_of
reads_on bytes more draft next e f = run-append begin bytes more ∙ ap (λ r. run r more) e ∙ f

permitted_on : (bytes more : List ℕ) → IsUtf8 bytes → list_all is_permitted (chars bytes) ≡ true → IsClean more → list_all is_permitted (chars (bytes ++ more)) ≡ true
permitted_on bytes more u h c = (clean-append bytes more (record { utf8 = u; permitted = h }) c).permitted

-- the page that a text reads as
pub draft_is : (bytes : List ℕ) (draft : Draft) → reading_of bytes ≡ reading Content (Some draft) → draft_of bytes ≡ draft
draft_is bytes draft e = ap (λ (r : Reading). unwrap_or r.draft no_draft) e

-- ---- what is written reads in the body of any page

content_on : {at : ℕ} (bytes more : List ℕ) (draft after : Draft) → IsContent bytes at draft → IsClean more
    → ((language : List ℕ) (head before : Nodes) → run (reading Content (Some (in_page language head before draft))) more ≡ reading Content (Some (in_page language head before after))) → IsContent (bytes ++ more) at after
content_on bytes more draft after c clean reads =
    let both = clean-append c.content more (record { utf8 = c.utf8; permitted = c.permitted }) clean in record {
      front = c.front;
      content = c.content ++ more;
      split = ap (λ x. x ++ more) c.split ∙ append_assoc c.front c.content more;
      begins = c.begins;
      utf8 = both.utf8;
      permitted = both.permitted;
      reads = λ language head before. run_then (reading Content (Some (body_of language head (joined before none)))) (reading Content (Some (in_page language head before draft))) (reading Content (Some (in_page language head before after))) c.content more (c.reads language head before) (reads language head before);
    }

takes_moved : (before : Nodes) (language : List ℕ) (head : Nodes) (frames : List Frame) → takes_elements frames ≡ true → takes_elements (moved before (empty_body language head).open_elements frames) ≡ true
takes_moved before language head [] t = refl
takes_moved before language head (frame ∷ []) t = refl
takes_moved before language head (frame ∷ outer ∷ []) t = refl
takes_moved before language head (frame ∷ outer ∷ outermost ∷ []) t = t
takes_moved before language head (frame ∷ outer ∷ outermost ∷ around ∷ frames) t = t

-- how many elements are open
two : (here : Open) (outers : List Open) (frames : List Frame) (nodes : Nodes) → AreOpen here outers frames nodes → (first : Frame) × (second : Frame) × (others : List Frame) × (frames ≡ first ∷ second ∷ others)
two here outers [] nodes a = absurd a
two here [] (frame ∷ []) nodes a = let same = a.1.is in cc
two here [] (frame ∷ second ∷ frames) nodes a = (frame, second, frames, refl)
two here (outer ∷ outers) (frame ∷ []) nodes a = absurd (none_open a.2) where
  none_open : AreOpen outer outers [] frame.before → ⊥
  none_open b = elim outers as (λ o. AreOpen outer o [] frame.before → ⊥) [ [] ↦ λ x. x | o ∷ os ↦ λ x. x ] b
two here (outer ∷ outers) (frame ∷ second ∷ frames) nodes a = (frame, second, frames, refl)

three : (here outer : Open) (outers : List Open) (frames : List Frame) (nodes : Nodes) → AreOpen here (outer ∷ outers) frames nodes → (first : Frame) × (second : Frame) × (third : Frame) × (others : List Frame) × (frames ≡ first ∷ second ∷ third ∷ others)
three here outer outers [] nodes a = absurd a
three here outer outers (frame ∷ frames) nodes a = let t = two outer outers frames frame.before a.2 in (frame, t.0, t.1, t.2, ap (λ list. frame ∷ list) t.3)

-- what may not stand in the body directly stands in an element of it
in_body : (here : Open) (outers : List Open) (frames : List Frame) (nodes : Nodes) (child : Child) → may_hold Body (last_child None nodes) child ≡ false → may_stand_in frames nodes child ≡ true → AreOpen here outers frames nodes
    → (first : Frame) × (second : Frame) × (third : Frame) × (others : List Frame) × (frames ≡ first ∷ second ∷ third ∷ others)
in_body here [] [] nodes child not_there may a = absurd a
in_body here [] (frame ∷ frames) nodes child not_there may a =
    let f : may_stand_in (new_page a.1.language a.1.title a.1.style).open_elements nodes child ≡ true = subst (λ list. may_stand_in list nodes child ≡ true) a.1.is may in
    let g : (may_hold Body (last_child None nodes) child && not (false && is_link child)) ≡ true = f in
    let both = and_parts (may_hold Body (last_child None nodes) child) (not (false && is_link child)) g in cc
in_body here (outer ∷ outers) frames nodes child not_there may a = three here outer outers frames nodes a

-- ---- the innermost element

-- a child may stand in it just where the code's answer is so
abbrev pub stands : Open → Child → Bool
stands here child = may_hold here.tag here.before child && not (here.in_link && is_link child)

stands_in : (here : Open) (frame : Frame) (frames : List Frame) (nodes : Nodes) (child : Child) → Describes here frame frames nodes → stands here child ≡ may_stand_in (frame ∷ frames) nodes child
stands_in here frame frames nodes child d = grind arith

pub stands_is : (here : Open) (outers : List Open) (frames : List Frame) (nodes : Nodes) (child : Child) → AreOpen here outers frames nodes → stands here child ≡ may_stand_in frames nodes child
stands_is here outers frames nodes child h5 = grind (arith, stands_in)

-- ---- a text

described_text : (here : Open) (frame : Frame) (frames : List Frame) (nodes : Nodes) (bytes : List ℕ) → may_stand_in (frame ∷ frames) nodes Words ≡ true → list_all is_kept bytes ≡ true → Describes here frame frames nodes → Describes (after_text here bytes) frame frames (with_words nodes bytes)
described_text here frame frames nodes bytes h5 h6 h7 = grind (arith, last_child-with_words, has_ink-with_words, are_in_order-with_words, and_parts, are_fit-with_words, are_kept-with_words)

text_inside : (here : Open) (outers : List Open) (frames : List Frame) (nodes : Nodes) (bytes : List ℕ) → may_stand_in frames nodes Words ≡ true → list_all is_kept bytes ≡ true → AreOpen here outers frames nodes → AreOpen (after_text here bytes) outers frames (with_words nodes bytes)
text_inside here outers frames nodes bytes h5 h6 h7 = grind (arith, described_text)

text_there : (draft : Draft) (words : List ℕ) → (first : Frame) × (second : Frame) × (third : Frame) × (others : List Frame) × (draft.open_elements ≡ first ∷ second ∷ third ∷ others)
    → (language : List ℕ) (head before : Nodes) → run (reading Content (Some (in_page language head before draft))) (escaped false words) ≡ reading Content (Some (in_page language head before (with_text draft words)))
text_there draft words t language head before =
    text_reads (in_page language head before draft) words
    ∙ ap (λ draft. reading Content (Some draft)) (subst (λ list. with_text (in_page language head before (record { open_elements = list; nodes = draft.nodes })) words ≡ in_page language head before (with_text (record { open_elements = list; nodes = draft.nodes }) words)) (sym t.4) refl)

pub text_held : {at : ℕ} (bytes : List ℕ) (here : Open) (outers : List Open) (words : List ℕ) (o : IsOngoing bytes at here outers) → IsUtf8 bytes → IsUtf8 words → are_written words ≡ true → stands here Words ≡ true
    → (p : IsOngoing (bytes ++ escaped false words) at (after_text here words) outers) × (p.draft ≡ with_text o.draft words)
text_held bytes here outers words o u v w may = (
  record {
    draft = with_text o.draft words;
    reads = reads_on bytes (escaped false words) o.draft (with_text o.draft words) o.reads (text_reads o.draft words);
    permitted = permitted_on bytes (escaped false words) u o.permitted (clean-escaped false words v w);
    are_open = text_inside here outers o.draft.open_elements o.draft.nodes words (sym (stands_is here outers o.draft.open_elements o.draft.nodes Words o.are_open) ∙ may) (kept_text words v w) o.are_open;
    content = content_on bytes (escaped false words) o.draft (with_text o.draft words) o.content (clean-escaped false words v w) (text_there o.draft words (in_body here outers o.draft.open_elements o.draft.nodes Words refl (sym (stands_is here outers o.draft.open_elements o.draft.nodes Words o.are_open) ∙ may) o.are_open));
  },
  refl,
)

-- ---- an element in an element

or_nothing : (a : Bool) → a ≡ (a || false)
or_nothing a = grind arith

-- with one more element, which is as its model has it
with_inner : (here : Open) (frame : Frame) (frames : List Frame) (nodes : Nodes) (tag : Tag) (given : List Attribute) (content : Nodes) (ink : Bool)
    → may_stand_in (frame ∷ frames) nodes (Inner tag) ≡ true → fits_model tag given content ≡ true → are_fit (is_tag A tag || is_in_link (frame ∷ frames)) content ≡ true → ink ≡ has_ink content
    → Describes here frame frames nodes → Describes (after_child here tag ink) frame frames (joined nodes (element tag given content none))
with_inner here frame frames nodes tag given content ink may model fit inked d = grind (arith, and_parts, last_child-joined, or_nothing, has_ink-joined, are_in_order-joined, and_from, are_fit-joined, are_kept-joined)

-- ---- a break

break_inside : (here : Open) (outers : List Open) (frames : List Frame) (nodes : Nodes) → may_stand_in frames nodes (Inner Br) ≡ true → AreOpen here outers frames nodes → AreOpen (after_child here Br false) outers frames (joined nodes (element Br [] none none))
break_inside here outers frames nodes h4 h5 = grind (arith, with_inner)

-- what holds an element takes elements
holder_takes : (tag : Tag) (before : Option Child) (inner : Tag) → may_hold tag before (Inner inner) ≡ true → not (is_tag Title tag || is_tag Style tag) ≡ true
holder_takes tag before inner h3 = grind arith

takes : (frames : List Frame) (nodes : Nodes) (tag : Tag) → may_stand_in frames nodes (Inner tag) ≡ true → takes_elements frames ≡ true
takes frames nodes tag h3 = grind (arith, holder_takes, and_parts)

break_there : (draft : Draft) → takes_elements draft.open_elements ≡ true → (first : Frame) × (second : Frame) × (third : Frame) × (others : List Frame) × (draft.open_elements ≡ first ∷ second ∷ third ∷ others)
    → (language : List ℕ) (head before : Nodes) → run (reading Content (Some (in_page language head before draft))) (codes "<br>") ≡ reading Content (Some (in_page language head before (with_element draft Br [] none)))
break_there draft takes t language head before =
    break_reads (in_page language head before draft) (takes_moved before language head draft.open_elements takes)
    ∙ ap (λ draft. reading Content (Some draft)) (subst (λ list. with_element (in_page language head before (record { open_elements = list; nodes = draft.nodes })) Br [] none ≡ in_page language head before (with_element (record { open_elements = list; nodes = draft.nodes }) Br [] none)) (sym t.4) refl)

pub break_held : {at : ℕ} (bytes : List ℕ) (here : Open) (outers : List Open) (o : IsOngoing bytes at here outers) → IsUtf8 bytes → stands here (Inner Br) ≡ true
    → (p : IsOngoing (bytes ++ codes "<br>") at (after_child here Br false) outers) × (p.draft ≡ with_element o.draft Br [] none)
break_held bytes here outers o u stood =
    let may : may_stand_in o.draft.open_elements o.draft.nodes (Inner Br) ≡ true = sym (stands_is here outers o.draft.open_elements o.draft.nodes (Inner Br) o.are_open) ∙ stood in (
      record {
        draft = with_element o.draft Br [] none;
        reads = reads_on bytes (codes "<br>") o.draft (with_element o.draft Br [] none) o.reads (break_reads o.draft (takes o.draft.open_elements o.draft.nodes Br may));
        permitted = permitted_on bytes (codes "<br>") u o.permitted (clean-ascii (codes "<br>") refl);
        are_open = break_inside here outers o.draft.open_elements o.draft.nodes may o.are_open;
        content = content_on bytes (codes "<br>") o.draft (with_element o.draft Br [] none) o.content (clean-ascii (codes "<br>") refl)
            (break_there o.draft (takes o.draft.open_elements o.draft.nodes Br may) (in_body here outers o.draft.open_elements o.draft.nodes (Inner Br) refl may o.are_open));
      },
      refl,
    )

-- ---- a start

described_start : (here : Open) (frame : Frame) (frames : List Frame) (nodes : Nodes) (tag : Tag) (given : List Attribute) → fits_attributes tag given ≡ true → Describes here frame frames nodes
    → Describes (opened here tag) (record { tag = tag; attributes = given; before = nodes }) (frame ∷ frames) none
described_start here frame frames nodes tag given fits d = grind arith

start_inside : (here : Open) (outers : List Open) (frames : List Frame) (nodes : Nodes) (tag : Tag) (given : List Attribute) → fits_attributes tag given ≡ true → may_stand_in frames nodes (Inner tag) ≡ true → AreOpen here outers frames nodes
    → AreOpen (opened here tag) (here ∷ outers) (record { tag = tag; attributes = given; before = nodes } ∷ frames) none
start_inside here outers frames nodes tag given h6 h7 h8 = grind (arith, described_start)

-- a start in the body of any page
start_there : (here : Open) (outers : List Open) (frames : List Frame) (nodes : Nodes) (tag : Tag) (given : List Attribute) → AreOpen here outers frames nodes → (language : List ℕ) (head before : Nodes)
    → with_start (in_page language head before (record { open_elements = frames; nodes = nodes })) tag given ≡ in_page language head before (with_start (record { open_elements = frames; nodes = nodes }) tag given)
start_there here [] [] nodes tag given a language head before = absurd a
start_there here [] (frame ∷ frames) nodes tag given a language head before =
    subst (λ list. with_start (in_page language head before (record { open_elements = list; nodes = nodes })) tag given ≡ in_page language head before (with_start (record { open_elements = list; nodes = nodes }) tag given)) (sym a.1.is) refl
start_there here (outer ∷ outers) frames nodes tag given a language head before =
    subst (λ list. with_start (in_page language head before (record { open_elements = list; nodes = nodes })) tag given ≡ in_page language head before (with_start (record { open_elements = list; nodes = nodes }) tag given)) (sym (three here outer outers frames nodes a).4) refl

-- an element with its attributes that can be started anywhere where it may stand
pub record IsStart (tag : Tag) (given : List Attribute) : Type 0 where
  pub fits : fits_attributes tag given ≡ true
  pub distinct : are_attributes given ≡ true
  pub ends : is_void tag ≡ false
  pub not_style : is_tag Style tag ≡ false
  pub read : ReadAttributes given
  pub clean : IsClean (start_text tag given)

pub start_held : {at : ℕ} (bytes : List ℕ) (here : Open) (outers : List Open) (tag : Tag) (given : List Attribute) (o : IsOngoing bytes at here outers) → IsUtf8 bytes → stands here (Inner tag) ≡ true → IsStart tag given
    → (p : IsOngoing (bytes ++ start_text tag given) at (opened here tag) (here ∷ outers)) × (p.draft ≡ with_start o.draft tag given)
start_held bytes here outers tag given o u stood s =
    let may : may_stand_in o.draft.open_elements o.draft.nodes (Inner tag) ≡ true = sym (stands_is here outers o.draft.open_elements o.draft.nodes (Inner tag) o.are_open) ∙ stood in
    let can : CanStart o.draft tag given = record { takes = takes o.draft.open_elements o.draft.nodes tag may; distinct = s.distinct; ends = s.ends; not_style = s.not_style } in
    let can_there : (language : List ℕ) (head before : Nodes) → CanStart (in_page language head before o.draft) tag given =
    λ language head before. record { takes = takes_moved before language head o.draft.open_elements can.takes; distinct = s.distinct; ends = s.ends; not_style = s.not_style } in (
      record {
        draft = with_start o.draft tag given;
        reads = reads_on bytes (start_text tag given) o.draft (with_start o.draft tag given) o.reads (start_reads o.draft tag given can s.read);
        permitted = permitted_on bytes (start_text tag given) u o.permitted s.clean;
        are_open = start_inside here outers o.draft.open_elements o.draft.nodes tag given s.fits may o.are_open;
        content = content_on bytes (start_text tag given) o.draft (with_start o.draft tag given) o.content s.clean
            (λ language head before. start_reads (in_page language head before o.draft) tag given (can_there language head before) s.read
            ∙ ap (λ draft. reading Content (Some draft)) (start_there here outers o.draft.open_elements o.draft.nodes tag given o.are_open language head before));
      },
      refl,
    )

-- ---- an end

ends_in : (here : Open) (frame : Frame) (frames : List Frame) (nodes : Nodes) → Describes here frame frames nodes → ends here ≡ may_end frame.tag (last_child None nodes)
ends_in here frame frames nodes d = ap (λ tag. may_end tag here.before) d.tag ∙ ap (may_end frame.tag) d.before

inked_in : (here : Open) (frame : Frame) (frames : List Frame) (nodes : Nodes) → Describes here frame frames nodes → inked here ≡ (not (wants_ink frame.tag) || has_ink nodes)
inked_in here frame frames nodes d = ap (λ tag. not (wants_ink tag) || here.has_ink) d.tag ∙ ap (λ ink. not (wants_ink frame.tag) || ink) d.ink

pub ends_is : (here : Open) (outers : List Open) (frames : List Frame) (nodes : Nodes) → AreOpen here outers frames nodes → ends here ≡ may_end_in frames nodes
ends_is here outers frames nodes h4 = grind (arith, ends_in)

pub inked_is : (here : Open) (outers : List Open) (frames : List Frame) (nodes : Nodes) → AreOpen here outers frames nodes → inked here ≡ has_ink_in frames nodes
inked_is here outers frames nodes h4 = grind (arith, inked_in)

-- whether there is an element in the body that is open
abbrev pub is_around : List Open → Bool
is_around [] = false
is_around (outer ∷ outers) = true

pub around_is : (here : Open) (outers : List Open) (frames : List Frame) (nodes : Nodes) → AreOpen here outers frames nodes → is_around outers ≡ is_inside_body frames
around_is here outers frames nodes h4 = grind arith

model_from : (here : Open) (frame : Frame) (frames : List Frame) (nodes : Nodes) → Describes here frame frames nodes → ends here ≡ true → inked here ≡ true → fits_model frame.tag frame.attributes nodes ≡ true
model_from here frame frames nodes d may ink = grind (arith, and_from, ends_in, inked_in)

-- after the end of an element that is as its model has it
end_inside : (here outer : Open) (outers : List Open) (frame : Frame) (frames : List Frame) (nodes : Nodes) → ends here ≡ true → inked here ≡ true → AreOpen here (outer ∷ outers) (frame ∷ frames) nodes
    → AreOpen (after_child outer here.tag here.has_ink) outers frames (joined frame.before (element frame.tag frame.attributes nodes none))
end_inside here outer outers frame frames nodes h6 h7 h8 = grind (arith, with_inner, model_from)

clean_end : (tag : Tag) → IsClean (end_text tag)
clean_end tag = clean-ascii (end_text tag) (each_tag (λ other. list_all is_ascii_byte (end_text other)) refl tag)

-- the end of an element in the body of any page
-- where it is in the body directly, and where it is deeper
abbrev EndsThere : Frame → Nodes → List ℕ → Nodes → Nodes → List Frame → Type 0
EndsThere frame nodes language head before frames =
    run (reading Content (Some (in_page language head before (record { open_elements = frame ∷ frames; nodes = nodes })))) (end_text frame.tag) ≡ reading Content (Some (in_page language head before (with_end_in (frame ∷ frames) nodes)))

end_there : (here outer : Open) (outers : List Open) (frame : Frame) (frames : List Frame) (nodes : Nodes) → AreOpen here (outer ∷ outers) (frame ∷ frames) nodes → (language : List ℕ) (head before : Nodes) → EndsThere frame nodes language head before frames
end_there here outer [] frame [] nodes a language head before = absurd a.2
end_there here outer [] frame (body ∷ frames) nodes a language head before =
    let open_body : List Frame = (empty_body language head).open_elements in
    subst (EndsThere frame nodes language head before) (sym a.2.1.is)
    (end_reads (record frame { before = joined before frame.before }) open_body nodes (settles frame.tag nodes a.0.ordered a.0.kept)
    ∙ ap (λ x. reading Content (Some (record { open_elements = open_body; nodes = x }))) (joined-assoc before frame.before (element frame.tag frame.attributes nodes none)))
end_there here outer (around ∷ outers) frame frames nodes a language head before =
    let t = three outer around outers frames frame.before a.2 in
    subst (EndsThere frame nodes language head before) (sym t.4)
    (end_reads frame (moved before (empty_body language head).open_elements (t.0 ∷ t.1 ∷ t.2 ∷ t.3)) nodes (settles frame.tag nodes a.0.ordered a.0.kept))

end_held_at : {at : ℕ} (bytes : List ℕ) (here outer : Open) (outers : List Open) (frames : List Frame) (nodes : Nodes) → reading_of bytes ≡ reading Content (Some (record { open_elements = frames; nodes = nodes })) → list_all is_permitted (chars bytes) ≡ true
    → AreOpen here (outer ∷ outers) frames nodes → IsContent bytes at (record { open_elements = frames; nodes = nodes }) → IsUtf8 bytes → ends here ≡ true → inked here ≡ true → (o : IsOngoing (bytes ++ end_text here.tag) at (after_child outer here.tag here.has_ink) outers) × (o.draft ≡ with_end_in frames nodes)
end_held_at bytes here outer outers [] nodes reads permitted a c u may ink = absurd a
end_held_at bytes here outer outers (frame ∷ frames) nodes reads permitted a c u may ink =
    let draft : Draft = record { open_elements = frame ∷ frames; nodes = nodes } in (
      record {
        draft = with_end_in (frame ∷ frames) nodes;
        reads = ap (λ tag. reading_of (bytes ++ end_text tag)) a.0.tag ∙ reads_on bytes (end_text frame.tag) draft (with_end_in (frame ∷ frames) nodes) reads (end_reads frame frames nodes (settles frame.tag nodes a.0.ordered a.0.kept));
        permitted = permitted_on bytes (end_text here.tag) u permitted (clean_end here.tag);
        are_open = end_inside here outer outers frame frames nodes may ink a;
        content = content_on bytes (end_text here.tag) draft (with_end_in (frame ∷ frames) nodes) c (clean_end here.tag)
            (λ language head before. ap (λ tag. run (reading Content (Some (in_page language head before draft))) (end_text tag)) a.0.tag ∙ end_there here outer outers frame frames nodes a language head before);
      },
      refl,
    )

pub end_held : {at : ℕ} (bytes : List ℕ) (here outer : Open) (outers : List Open) (o : IsOngoing bytes at here (outer ∷ outers)) → IsUtf8 bytes → ends here ≡ true → inked here ≡ true
    → (p : IsOngoing (bytes ++ end_text here.tag) at (after_child outer here.tag here.has_ink) outers) × (p.draft ≡ with_end o.draft)
end_held bytes here outer outers o u may ink = end_held_at bytes here outer outers o.draft.open_elements o.draft.nodes o.reads o.permitted o.are_open o.content u may ink

-- ---- the whole

pub new_held : (language title style : List ℕ) → IsClean (page_front language title style) → list_all is_kept language ≡ true → list_all is_kept title ≡ true → list_all is_kept style ≡ true → has_end_sign style ≡ false
    → is_language language ≡ true → list_any is_ink title ≡ true → (here : Open) → here ≡ record { tag = Body; before = None; has_ink = false; in_link = false }
    → (p : IsOngoing (page_front language title style) (length (page_front language title style)) here []) × (p.draft ≡ new_page language title style)
new_held language title style clean kept_language kept_title kept_style no_sign is has here e = (
  record {
    draft = new_page language title style;
    reads = front_reads language title style kept_language kept_title kept_style no_sign;
    permitted = clean.permitted;
    are_open = (
      record {
        tag = ap (λ (o : Open). o.tag) e;
        before = ap (λ (o : Open). o.before) e;
        ink = ap (λ (o : Open). o.has_ink) e;
        in_link = ap (λ (o : Open). o.in_link) e;
        ordered = refl;
        fit = refl;
        kept = refl;
        attributes = refl;
      },
      record { language = language; title = title; style = style; is = refl; is_language = is; has_title = has },
    );
    content = record {
      front = page_front language title style;
      content = [];
      split = sym (append-nil (page_front language title style));
      begins = refl;
      utf8 = clean-nil.utf8;
      permitted = clean-nil.permitted;
      reads = λ language head before. refl;
    };
  },
  refl,
)

-- the open elements of a page where none of the body is open
record IsAtBody (frames : List Frame) (nodes : Nodes) : Type 0 where
  pub body : (frame : Frame) × (others : List Frame) × (frames ≡ frame ∷ others) × IsBody frame others
  pub content : IsBodyContent nodes

at_body : (here : Open) (frames : List Frame) (nodes : Nodes) → AreOpen here [] frames nodes → ends here ≡ true → IsAtBody frames nodes
at_body here [] nodes a may = absurd a
at_body here (frame ∷ frames) nodes a may =
    let same : frame ∷ frames ≡ (new_page a.1.language a.1.title a.1.style).open_elements = a.1.is in
    let is_body : frame.tag ≡ Body = ap (λ list. tag_at list) same in record {
      body = (frame, frames, refl, a.1);
      content = record {
        ordered = subst (λ tag. are_in_order tag None nodes ≡ true) is_body a.0.ordered;
        fit = subst (λ linked. are_fit linked nodes ≡ true) (ap is_in_link same) a.0.fit;
        ends = subst (λ tag. may_end tag (last_child None nodes) ≡ true) is_body (sym (ends_in here frame frames nodes a.0) ∙ may);
        kept = a.0.kept;
      };
    }
  where
    tag_at : List Frame → Tag
    tag_at [] = Html
    tag_at (frame ∷ frames) = frame.tag

pub whole_held : {at : ℕ} (bytes : List ℕ) (here : Open) (o : IsOngoing bytes at here []) → IsUtf8 bytes → ends here ≡ true → ReadsAs (bytes ++ page_end) (whole_page o.draft)
whole_held bytes here o u may =
    let at = at_body here o.draft.open_elements o.draft.nodes o.are_open may in
    let body = at.body.3 in
    let head : Nodes = head_content body.title body.style in
    let same : o.draft.open_elements ≡ (empty_body body.language head).open_elements = at.body.2 ∙ body.is in
    let reads = o.reads ∙ ap (λ list. reading Content (Some (record { open_elements = list; nodes = o.draft.nodes }))) same in
    subst (λ list. ReadsAs (bytes ++ page_end) (whole_page (record { open_elements = list; nodes = o.draft.nodes }))) (sym same)
    (page_reads bytes body.language head o.draft.nodes o.draft.nodes (record { utf8 = u; permitted = o.permitted }) reads (settles Body o.draft.nodes at.content.ordered at.content.kept) body.is_language (fit_head body.title body.style body.has_title) refl at.content)

-- what follows the front
pub content_held : {at : ℕ} (bytes : List ℕ) (here : Open) (o : IsOngoing bytes at here []) → ends here ≡ true → ReadsInBody o.content.content o.draft.nodes
unfolding reading_of
content_held bytes here o may front language head f before after white white_after =
    let at = at_body here o.draft.open_elements o.draft.nodes o.are_open may in
    let c = o.content in
    let content : List ℕ = c.content in
    let nodes : Nodes = o.draft.nodes in
    let space : Nodes = with_words none before in
    let open_body : Nodes → Reading = λ x. reading Content (Some (body_of language head x)) in
    let found : Nodes = with_words (joined space nodes) after in
    let moves : in_page language head space o.draft ≡ body_of language head (joined space nodes) =
    ap (λ list. in_page language head space (record { open_elements = list; nodes = nodes })) (at.body.2 ∙ at.body.3.is) in
    let reads_content : run (open_body space) content ≡ open_body (joined space nodes) =
    ap (λ x. run (open_body x) content) (sym (joined-none space)) ∙ c.reads language head space ∙ ap (λ draft. reading Content (Some draft)) moves in
    let reads : run begin (front ++ (before ++ (content ++ after))) ≡ open_body found =
    run_then begin (open_body none) (open_body found) front (before ++ (content ++ after)) f.reads
    (run_then (open_body none) (open_body space) (open_body found) before (content ++ after) (white_reads (body_of language head none) before white)
    (run_then (open_body space) (open_body (joined space nodes)) (open_body found) content after reads_content (white_reads (body_of language head (joined space nodes)) after white_after))) in
    let settles_so : settled Body found ≡ Some nodes =
    elements-with_words (joined space nodes) after white_after ∙ elements-after before nodes white ∙ settles Body nodes at.content.ordered at.content.kept in
    let parts = and_parts (is_utf8 front) (list_all is_permitted (chars front)) f.is_text in
    let clean = clean-append front (before ++ (content ++ after)) (record { utf8 = IsUtf8-from_is_utf8 front parts.0; permitted = parts.1 })
    (clean-append before (content ++ after) (clean_white before white) (clean-append content after (record { utf8 = c.utf8; permitted = c.permitted }) (clean_white after white_after))) in
    subst (λ x. ReadsAs x (page_of language head nodes))
    (append_assoc front (before ++ (content ++ after)) page_end ∙ ap (λ x. front ++ x) (append_assoc before (content ++ after) page_end ∙ ap (λ x. before ++ x) (append_assoc content after page_end)))
    (page_reads (front ++ (before ++ (content ++ after))) language head found nodes clean reads settles_so f.is_language f.fit f.encoded at.content)
