-- What each call leaves, by what its parts left; and with which fault it fails.
use Rattle.std.proofs.Common.{◌≡◌, length, ℕ, true, false, not, List, [], ◌∷◌, ◌++◌, refl, sym, ap, ◌∙◌, subst, reverse, drop, arith, Result, Err}
use Rattle.std.specs.Prelude.{None, codes, ◌==◌}
use Rattle.std.specs.Str.{IsUtf8}
use Rattle.std.specs.String.Boundary.{IsSplitPoint}
use Rattle.std.proofs.lemmas.Str.{IsCharBoundary-at_seam}
use Rattle.std.proofs.Math.Seq.{drop-append_seam}
use Rattle.std.proofs.lemmas.Bool.{and_right, ne_eqb}
use Rattle.std.proofs.lemmas.List.{reverse-append}
use Rattle.web_page.specs.Tree.{Attribute, none}
use Rattle.web_page.specs.Reader.{Draft, with_element, with_start}
use Rattle.web_page.specs.Models.{ReadsAs, ReadsInBody}
use Rattle.web_page.specs.Calls.{FailsOnlyBy, are_written, child_fault, end_fault, finish_fault, has_ink_in, is_inside_body, may_end_in, may_stand, text_fault, whole_page, with_end, with_text}
use Rattle.web_page.specs.Exact.{end_text, escaped, page_end, start_text}
use Rattle.web_page.specs.Steps.Open.{IsOngoing, attributes_of, after_child, after_text, draft_of, ends, inked, may_give, opened}
use Rattle.web_page.proofs.Held.{around_is, break_held, content_held, draft_is, end_held, ends_is, inked_is, is_around, stands, stands_is, start_held, text_held, whole_held}
use Rattle.web_page.proofs.Starts.{start_is}
use Rattle.web_page.specs.declared.elements.Child.{Child}
use Rattle.web_page.specs.declared.elements.Child.TheVariants.{Words, Inner}
use Rattle.web_page.specs.declared.elements.Tag.{Tag}
use Rattle.web_page.specs.declared.elements.Tag.TheVariants.{Br}
use Rattle.web_page.specs.declared.errors.PageError.{PageError}
use Rattle.web_page.specs.declared.errors.PageError.TheVariants as errors
use Rattle.web_page.specs.declared.output.Key.{Key}
use Rattle.web_page.specs.declared.writer.Open.{Open}

-- an open page as the code holds it, and what is seen of it
pub record Outcome (bytes : List ℕ) (at : ℕ) (here : Open) (outers : List Open) (draft : Draft) : Type 0 where
  pub ongoing : IsOngoing bytes at here outers
  pub is : draft_of bytes ≡ draft

pub outcome : {at : ℕ} (bytes bytes' : List ℕ) (here here' : Open) (outers outers' : List Open) (draft : Draft) (o : IsOngoing bytes at here outers) → o.draft ≡ draft → bytes' ≡ bytes → here' ≡ here → outers' ≡ outers → Outcome bytes' at here' outers' draft
outcome bytes bytes' here here' outers outers' draft o d b h os = grind (arith, draft_is)

-- what is seen of a page is what it reads as
seen : {at : ℕ} (bytes : List ℕ) (here : Open) (outers : List Open) (now : Draft) (o : IsOngoing bytes at here outers) → draft_of bytes ≡ now → o.draft ≡ now
seen bytes here outers now o v = sym (draft_is bytes o.draft o.reads) ∙ v

pub stands_now : {at : ℕ} (bytes : List ℕ) (here : Open) (outers : List Open) (now : Draft) (child : Child) (o : IsOngoing bytes at here outers) → draft_of bytes ≡ now → stands here child ≡ may_stand now child
stands_now bytes here outers now child o v = stands_is here outers o.draft.open_elements o.draft.nodes child o.are_open ∙ ap (λ d. may_stand d child) (seen bytes here outers now o v)

pub started : {at : ℕ} (bytes bytes' value : List ℕ) (here here' : Open) (old new : List Open) (now : Draft) (tag : Tag) (key : Key) (o : IsOngoing bytes at here (reverse old)) → draft_of bytes ≡ now → IsUtf8 bytes → IsUtf8 value → may_give tag key value ≡ true → stands here (Inner tag) ≡ true
    → bytes' ≡ bytes ++ start_text tag (attributes_of key value) → here' ≡ opened here tag → new ≡ old ++ here ∷ [] → Outcome bytes' at here' (reverse new) (with_start now tag (attributes_of key value))
started bytes bytes' value here here' old new now tag key o v u w may stood b h os =
    let given : List Attribute = attributes_of key value in
    let held = start_held bytes here (reverse old) tag given o u stood (start_is tag key value w may) in
    outcome (bytes ++ start_text tag given) bytes' (opened here tag) here' (here ∷ reverse old) (reverse new) (with_start now tag given)
    held.0 (held.1 ∙ ap (λ d. with_start d tag given) (seen bytes here (reverse old) now o v)) b h (ap reverse os ∙ reverse-append old (here ∷ []))

pub texted : {at : ℕ} (bytes bytes' words : List ℕ) (here here' : Open) (outers : List Open) (now : Draft) (o : IsOngoing bytes at here outers) → draft_of bytes ≡ now → IsUtf8 bytes → IsUtf8 words → are_written words ≡ true → stands here Words ≡ true
    → bytes' ≡ bytes ++ escaped false words → here' ≡ after_text here words → Outcome bytes' at here' outers (with_text now words)
texted bytes bytes' words here here' outers now o v u w written stood b h =
    let held = text_held bytes here outers words o u w written stood in
    outcome (bytes ++ escaped false words) bytes' (after_text here words) here' outers outers (with_text now words) held.0 (held.1 ∙ ap (λ d. with_text d words) (seen bytes here outers now o v)) b h refl

pub broken : {at : ℕ} (bytes bytes' : List ℕ) (here here' : Open) (outers : List Open) (now : Draft) (o : IsOngoing bytes at here outers) → draft_of bytes ≡ now → IsUtf8 bytes → stands here (Inner Br) ≡ true
    → bytes' ≡ bytes ++ codes "<br>" → here' ≡ after_child here Br false → Outcome bytes' at here' outers (with_element now Br [] none)
broken bytes bytes' here here' outers now o v u stood b h =
    let held = break_held bytes here outers o u stood in
    outcome (bytes ++ codes "<br>") bytes' (after_child here Br false) here' outers outers (with_element now Br [] none) held.0 (held.1 ∙ ap (λ d. with_element d Br [] none) (seen bytes here outers now o v)) b h refl

pub ended : {at : ℕ} (bytes bytes' : List ℕ) (here outer here' : Open) (old new : List Open) (now : Draft) (o : IsOngoing bytes at here (reverse old)) → draft_of bytes ≡ now → IsUtf8 bytes → ends here ≡ true → inked here ≡ true
    → bytes' ≡ bytes ++ end_text here.tag → here' ≡ after_child outer here.tag here.has_ink → old ≡ new ++ outer ∷ [] → Outcome bytes' at here' (reverse new) (with_end now)
ended {at = at} bytes bytes' here outer here' old new now o v u may ink b h os =
    let back : reverse old ≡ outer ∷ reverse new = ap reverse os ∙ reverse-append new (outer ∷ []) in
    let held = end_held bytes here outer (reverse new) (subst (IsOngoing bytes at here) back o) u may ink in
    outcome (bytes ++ end_text here.tag) bytes' (after_child outer here.tag here.has_ink) here' (reverse new) (reverse new) (with_end now) held.0
    (held.1 ∙ ap with_end (seen bytes here (outer ∷ reverse new) now (subst (IsOngoing bytes at here) back o) v)) b h refl

pub whole : {at : ℕ} (bytes bytes' : List ℕ) (here : Open) (old : List Open) (now : Draft) (o : IsOngoing bytes at here (reverse old)) → draft_of bytes ≡ now → IsUtf8 bytes → ends here ≡ true → old ≡ [] → bytes' ≡ bytes ++ page_end → ReadsAs bytes' (whole_page now)
whole {at = at} bytes bytes' here old now o v u may os b =
    let alone : IsOngoing bytes at here [] = subst (IsOngoing bytes at here) (ap reverse os) o in
    subst (λ x. ReadsAs x (whole_page now)) (sym b) (subst (λ d. ReadsAs (bytes ++ page_end) (whole_page d)) (seen bytes here [] now alone v) (whole_held bytes here alone u may))

pub content : {at : ℕ} (bytes : List ℕ) (here : Open) (old : List Open) (now : Draft) (o : IsOngoing bytes at here (reverse old)) → draft_of bytes ≡ now → ends here ≡ true → old ≡ [] → ReadsInBody (drop at bytes) now.nodes
content {at = at} bytes here old now o v may os =
    let alone : IsOngoing bytes at here [] = subst (IsOngoing bytes at here) (ap reverse os) o in
    let c = alone.content in
    let is : drop at bytes ≡ c.content = ap (drop at) c.split ∙ ap (λ n. drop n (c.front ++ c.content)) (sym c.begins) ∙ drop-append_seam c.front c.content in
    subst (λ x. ReadsInBody x now.nodes) (sym is) (subst (λ (d : Draft). ReadsInBody c.content d.nodes) (seen bytes here [] now alone v) (content_held bytes here alone may))

-- where the content begins, a text may be cut
pub content_begins : {at : ℕ} (bytes : List ℕ) (here : Open) (outers : List Open) (o : IsOngoing bytes at here outers) → IsSplitPoint bytes at
content_begins bytes here outers o =
    let place = IsCharBoundary-at_seam bytes o.content.front o.content.content o.content.split o.content.utf8 in
    subst (IsSplitPoint bytes) o.content.begins (place.0, λ _. place.1)

-- ---- faults

pub misplaced : (T : Type 0) (draft : Draft) (child : Child) → may_stand draft child ≡ false → FailsOnlyBy {T = T} (child_fault draft child) (Err errors.Misplaced)
misplaced T draft child h = rw h refl

pub placed : {T : Type 0} (draft : Draft) (child : Child) (r : Result T PageError) → may_stand draft child ≡ true → FailsOnlyBy None r → FailsOnlyBy (child_fault draft child) r
placed draft child r h f = rw h f

pub text_misplaced : (T : Type 0) (draft : Draft) (words : List ℕ) → are_written words ≡ true → may_stand draft Words ≡ false → FailsOnlyBy {T = T} (text_fault draft words) (Err errors.Misplaced)
text_misplaced T draft words w h = rw (w, h) refl

pub text_placed : {T : Type 0} (draft : Draft) (words : List ℕ) (r : Result T PageError) → are_written words ≡ true → may_stand draft Words ≡ true → FailsOnlyBy None r → FailsOnlyBy (text_fault draft words) r
text_placed draft words r w h f = rw (w, h) f

-- how the code's tests lead to those of an end
pub around_now : {at : ℕ} (bytes : List ℕ) (here : Open) (outers : List Open) (now : Draft) (o : IsOngoing bytes at here outers) → draft_of bytes ≡ now → is_around outers ≡ is_inside_body now.open_elements
around_now bytes here outers now o v = around_is here outers o.draft.open_elements o.draft.nodes o.are_open ∙ ap (λ (d : Draft). is_inside_body d.open_elements) (seen bytes here outers now o v)

pub ends_now : {at : ℕ} (bytes : List ℕ) (here : Open) (outers : List Open) (now : Draft) (o : IsOngoing bytes at here outers) → draft_of bytes ≡ now → ends here ≡ may_end_in now.open_elements now.nodes
ends_now bytes here outers now o v = ends_is here outers o.draft.open_elements o.draft.nodes o.are_open ∙ ap (λ (d : Draft). may_end_in d.open_elements d.nodes) (seen bytes here outers now o v)

pub inked_now : {at : ℕ} (bytes : List ℕ) (here : Open) (outers : List Open) (now : Draft) (o : IsOngoing bytes at here outers) → draft_of bytes ≡ now → inked here ≡ has_ink_in now.open_elements now.nodes
inked_now bytes here outers now o v = inked_is here outers o.draft.open_elements o.draft.nodes o.are_open ∙ ap (λ (d : Draft). has_ink_in d.open_elements d.nodes) (seen bytes here outers now o v)

-- an end where the code's tests allow one, and where they find no ink
pub end_placed : {T : Type 0} (draft : Draft) (r : Result T PageError) → is_inside_body draft.open_elements ≡ true → may_end_in draft.open_elements draft.nodes ≡ true → has_ink_in draft.open_elements draft.nodes ≡ true → FailsOnlyBy None r → FailsOnlyBy (end_fault draft) r
end_placed draft r a e i f = rw (a, e, i) f

pub end_without_ink : (T : Type 0) (draft : Draft) → is_inside_body draft.open_elements ≡ true → may_end_in draft.open_elements draft.nodes ≡ true → has_ink_in draft.open_elements draft.nodes ≡ false → FailsOnlyBy {T = T} (end_fault draft) (Err errors.NoInk)
end_without_ink T draft a e i = rw (a, e, i) refl

pub not_around : (T : Type 0) (draft : Draft) → is_inside_body draft.open_elements ≡ false → FailsOnlyBy {T = T} (end_fault draft) (Err errors.Misplaced)
not_around T draft a = rw a refl

pub may_not_end : (T : Type 0) (draft : Draft) → may_end_in draft.open_elements draft.nodes ≡ false → FailsOnlyBy {T = T} (end_fault draft) (Err errors.Misplaced)
may_not_end T draft e = let both = and_right (is_inside_body draft.open_elements) (may_end_in draft.open_elements draft.nodes) e in rw both refl

pub finish_placed : {T : Type 0} (draft : Draft) (r : Result T PageError) → is_inside_body draft.open_elements ≡ false → may_end_in draft.open_elements draft.nodes ≡ true → FailsOnlyBy None r → FailsOnlyBy (finish_fault draft) r
finish_placed draft r a e f = rw (a, e) f

around_last : (list : List Open) (first : Open) → is_around (list ++ first ∷ []) ≡ true
around_last [] first = refl
around_last (x ∷ list) first = refl

-- a list has an element around just where it is not empty
pub around_by : (old : List Open) → is_around (reverse old) ≡ not (length old == 0)
around_by [] = refl
around_by (first ∷ old) = grind (arith, ne_eqb (length (first ∷ old)) 0 (omega arith), reverse-append (first ∷ []) old, around_last (reverse old) first)

pub empty_is : (old : List Open) → (length old == 0) ≡ true → old ≡ []
empty_is [] h = refl
empty_is (first ∷ old) h = let some : (length (first ∷ old) == 0) ≡ false = ne_eqb (length (first ∷ old)) 0 (omega arith) in cc
