-- The front and the end of a page.
use Rattle.std.proofs.Common.{◌≡◌, ℕ, true, false, List, [], ◌∷◌, ◌++◌, refl, ◌∙◌, arith}
use Rattle.std.specs.Prelude.{Some, None, codes}
use Rattle.std.specs.List.{list_any, list_all}
use Rattle.std.specs.Str.{IsUtf8}
use Rattle.std.proofs.lemmas.Bool.{and_from, and_parts}
use Rattle.std.proofs.lemmas.Str.{is_utf8-from_IsUtf8}
use Rattle.web_page.specs.Tree.{Attribute, Nodes, none, element}
use Rattle.web_page.specs.Reader.{Draft, Frame, Opening, Reading, Content, Raw, RawSign, Value, are_kept, begin, is_kept, no_draft, read, reading, reading_of, settled}
use Rattle.web_page.specs.Models.{IsPage, ReadsAs, are_fit, are_in_order, begins_with_encoding, empty_body, is_ink, is_language, last_child, may_end, page_of}
use Rattle.web_page.specs.Calls.{are_written, attribute, has_end_sign, head_content, new_page, text_element, with_end_in, with_words}
use Rattle.web_page.specs.Exact.{escaped, page_end, page_front}
use Rattle.web_page.proofs.Nodes.{are_fit-with_words, are_in_order-with_words, are_kept-with_words, has_ink-with_words}
use Rattle.web_page.proofs.Readings.{end_reads, end_settles, run, run_then, style_reads, text_reads, value_reads}
use Rattle.web_page.proofs.Settles.{settles}
use Rattle.web_page.proofs.Texts.{IsClean, clean-append, clean-ascii, clean-escaped, clean-plain}
use Rattle.web_page.specs.declared.elements.Tag.{Tag}
use Rattle.web_page.specs.declared.elements.Tag.TheVariants.{Html, Head, Meta, Title, Style, Body}

-- ---- the front

abbrev metas : Nodes → Nodes
metas rest = element Meta (attribute (codes "charset") (codes "utf-8")) none (element Meta (record { name = codes "name"; value = codes "viewport" } ∷ attribute (codes "content") (codes "width=device-width")) none rest)

abbrev html_frame : List ℕ → Frame
html_frame language = record { tag = Html; attributes = attribute (codes "lang") language; before = none }

abbrev head_frame : Frame
head_frame = record { tag = Head; attributes = []; before = none }

abbrev title_frame : Frame
title_frame = record { tag = Title; attributes = []; before = metas none }

abbrev html_open : List ℕ → Draft
html_open language = record { open_elements = html_frame language ∷ []; nodes = none }

abbrev in_title : List ℕ → Nodes → Draft
in_title language nodes = record { open_elements = title_frame ∷ head_frame ∷ html_frame language ∷ []; nodes = nodes }

abbrev style_frame : List ℕ → Frame
style_frame title = record { tag = Style; attributes = []; before = metas (text_element Title title none) }

abbrev in_style : List ℕ → List ℕ → Nodes → Draft
in_style language title nodes = record { open_elements = style_frame title ∷ head_frame ∷ html_frame language ∷ []; nodes = nodes }

first_tag : (language : List ℕ) → list_all is_kept language ≡ true
    → run (reading (Value (record { name = codes "html"; attributes = [] }) (record { name = codes "lang"; value = language })) (Some no_draft)) (codes "\">") ≡ reading Content (Some (html_open language))
first_tag language k = rw k refl

to_title : (language : List ℕ) → run (reading Content (Some (html_open language))) (codes "<head><meta charset=\"utf-8\"><meta name=\"viewport\" content=\"width=device-width\"><title>") ≡ reading Content (Some (in_title language none))
to_title language = refl

words_settle : (tag : Tag) (words : List ℕ) → are_in_order tag None (with_words none words) ≡ true → list_all is_kept words ≡ true → settled tag (with_words none words) ≡ Some (with_words none words)
words_settle tag words o k = settles tag (with_words none words) o (are_kept-with_words none words k refl)

title_in_order : (title : List ℕ) → are_in_order Title None (with_words none title) ≡ true
title_in_order title = are_in_order-with_words Title None none title refl refl

style_in_order : (style : List ℕ) → are_in_order Style None (with_words none style) ≡ true
style_in_order style = are_in_order-with_words Style None none style refl refl

to_style : (language title : List ℕ) → list_all is_kept title ≡ true → run (reading Content (Some (in_title language (with_words none title)))) (codes "</title><style>") ≡ reading Raw (Some (in_style language title none))
to_style language title k = grind (arith, run_then (reading Content (Some (in_title language (with_words none title)))), end_reads title_frame (head_frame ∷ html_frame language ∷ []) (with_words none title), words_settle Title title, title_in_order title)

style_ends : (language title : List ℕ) (nodes : Nodes) → settled Style nodes ≡ Some nodes
    → run (reading RawSign (Some (in_style language title nodes))) (codes "/style>") ≡ reading Content (Some (with_end_in (style_frame title ∷ head_frame ∷ html_frame language ∷ []) nodes))
style_ends language title nodes s = rw s refl

pub front_reads : (language title style : List ℕ) → list_all is_kept language ≡ true → list_all is_kept title ≡ true → list_all is_kept style ≡ true → has_end_sign style ≡ false
    → reading_of (page_front language title style) ≡ reading Content (Some (new_page language title style))
unfolding reading_of
front_reads language title style kept_language kept_title kept_style no_sign =
    let opening : Opening = record { name = codes "html"; attributes = [] } in
    let at_language : Attribute → Reading = λ given. reading (Value opening given) (Some no_draft) in
    let empty : Attribute = record { name = codes "lang"; value = [] } in
    let full : Attribute = record { name = codes "lang"; value = language } in
    let ended : Reading = reading Content (Some (with_end_in (style_frame title ∷ head_frame ∷ html_frame language ∷ []) (with_words none style))) in
    let after_style : List ℕ = style ++ codes "</style></head><body>" in
    let after_title : List ℕ = codes "</title><style>" ++ after_style in
    let from_title : List ℕ = escaped false title ++ after_title in
    let from_head : List ℕ = codes "<head><meta charset=\"utf-8\"><meta name=\"viewport\" content=\"width=device-width\"><title>" ++ from_title in
    let after_language : List ℕ = codes "\">" ++ from_head in
    let whole : Reading = reading Content (Some (new_page language title style)) in
    let style_part : run (reading Raw (Some (in_style language title none))) after_style ≡ whole =
    style_reads style (in_style language title none) (codes "/style></head><body>") no_sign
    ∙ run_then (reading RawSign (Some (in_style language title (with_words none style)))) ended whole (codes "/style>") (codes "</head><body>") (style_ends language title (with_words none style) (words_settle Style style (style_in_order style) kept_style)) refl in
    let title_part : run (reading Content (Some (in_title language none))) from_title ≡ whole =
    run_then (reading Content (Some (in_title language none))) (reading Content (Some (in_title language (with_words none title)))) whole (escaped false title) after_title (text_reads (in_title language none) title)
    (run_then (reading Content (Some (in_title language (with_words none title)))) (reading Raw (Some (in_style language title none))) whole (codes "</title><style>") after_style (to_style language title kept_title) style_part) in
    let head_part : run (at_language full) after_language ≡ whole =
    run_then (at_language full) (reading Content (Some (html_open language))) whole (codes "\">") from_head (first_tag language kept_language)
    (run_then (reading Content (Some (html_open language))) (reading Content (Some (in_title language none))) whole (codes "<head><meta charset=\"utf-8\"><meta name=\"viewport\" content=\"width=device-width\"><title>") from_title (to_title language) title_part) in
    run_then begin (at_language empty) whole (codes "<!DOCTYPE html><html lang=\"") (escaped true language ++ after_language) refl
    (run_then (at_language empty) (at_language full) whole (escaped true language) after_language (value_reads opening empty (Some no_draft) language) head_part)

pub clean_front : (language title style : List ℕ) → IsUtf8 language → are_written language ≡ true → IsUtf8 title → are_written title ≡ true → IsUtf8 style → are_written style ≡ true → IsClean (page_front language title style)
clean_front language title style a b c d e f =
    clean-append (codes "<!DOCTYPE html><html lang=\"") _ (clean-ascii (codes "<!DOCTYPE html><html lang=\"") refl)
    (clean-append (escaped true language) _ (clean-escaped true language a b)
    (clean-append (codes "\"><head><meta charset=\"utf-8\"><meta name=\"viewport\" content=\"width=device-width\"><title>") _ (clean-ascii (codes "\"><head><meta charset=\"utf-8\"><meta name=\"viewport\" content=\"width=device-width\"><title>") refl)
    (clean-append (escaped false title) _ (clean-escaped false title c d)
    (clean-append (codes "</title><style>") _ (clean-ascii (codes "</title><style>") refl)
    (clean-append style (codes "</style></head><body>") (clean-plain style e f) (clean-ascii (codes "</style></head><body>") refl))))))

-- ---- the end

-- a page whose body is open, with these nodes in it
abbrev pub body_of : List ℕ → Nodes → Nodes → Draft
body_of language head nodes = record { open_elements = (empty_body language head).open_elements; nodes = nodes }

end_of_page : (language : List ℕ) (head found nodes : Nodes) → settled Body found ≡ Some nodes
    → run (reading Content (Some (body_of language head found))) page_end ≡ reading Content (Some (record { open_elements = []; nodes = page_of language head nodes }))
end_of_page language head found nodes s = grind (arith, run_then (reading Content (Some (body_of language head found))), end_settles, end_reads (html_frame language))

is_whole_text : (bytes language : List ℕ) (head nodes : Nodes) → IsClean bytes
    → reading_of bytes ≡ reading Content (Some (record { open_elements = []; nodes = page_of language head nodes }))
    → read bytes ≡ Some (page_of language head nodes)
unfolding read
is_whole_text bytes language head nodes clean reads = rw (is_utf8-from_IsUtf8 bytes clean.utf8, clean.permitted, reads) refl

is_page : (language : List ℕ) (head nodes : Nodes) → is_language language ≡ true → are_fit false (element Head [] head none) ≡ true → begins_with_encoding head ≡ true
    → are_in_order Body None nodes ≡ true → are_fit false nodes ≡ true → may_end Body (last_child None nodes) ≡ true → IsPage (page_of language head nodes)
is_page language head nodes is fit_head encoded ordered fit ends = grind (arith, and_parts, and_from)

pub fit_head : (title style : List ℕ) → list_any is_ink title ≡ true → are_fit false (element Head [] (head_content title style) none) ≡ true
fit_head title style has = grind (arith, title_in_order, are_fit-with_words, has_ink-with_words, style_in_order)

-- what may be the content of a body
pub record IsBodyContent (nodes : Nodes) : Type 0 where
  pub ordered : are_in_order Body None nodes ≡ true
  pub fit : are_fit false nodes ≡ true
  pub ends : may_end Body (last_child None nodes) ≡ true
  pub kept : are_kept nodes ≡ true

-- a text that is read up to the end of the content of a body, which comes to these nodes, and the end of the page
pub page_reads : (bytes language : List ℕ) (head found nodes : Nodes) → IsClean bytes → reading_of bytes ≡ reading Content (Some (body_of language head found)) → settled Body found ≡ Some nodes
    → is_language language ≡ true → are_fit false (element Head [] head none) ≡ true → begins_with_encoding head ≡ true → IsBodyContent nodes → ReadsAs (bytes ++ page_end) (page_of language head nodes)
unfolding reading_of
page_reads bytes language head found nodes clean reads settles_so is fit_head encoded content = record {
  reads = is_whole_text (bytes ++ page_end) language head nodes (clean-append bytes page_end clean (clean-ascii page_end refl))
      (run_then begin (reading Content (Some (body_of language head found))) _ bytes page_end reads (end_of_page language head found nodes settles_so));
  page = is_page language head nodes is fit_head encoded content.ordered content.fit content.ends;
}
