-- A written page reads back.
use Rattle.std.proofs.Common.{◌≡◌, ℕ, Bool, true, false, List, [], ◌∷◌, ◌++◌, refl, sym, ap, ◌∙◌, subst, append-nil, append_assoc}
use Rattle.std.specs.Prelude.{Option, Some, codes, flat_map, map}
use Rattle.std.specs.List.{list_all}
use Rattle.std.proofs.lemmas.Bool.{and_parts}
use Rattle.page_model.specs.Content.{PartSaid, heading, usage, block, entries}
use Rattle.page_model.specs.Permitted.{are_permitted, is_permitted_byte, is_permitted_part}
use Rattle.man_page.specs.Sheet.{Roman, Glyph, Plain, Said}
use Rattle.man_page.specs.Kept.{TitleSaid, in_font, page_kept, part_kept, title_words}
use Rattle.man_page.specs.Exact.{is_heading, page_text, part_text, parts_text, title_line}
use Rattle.man_page.specs.Reader
use Rattle.man_page.specs.Reader.{Fresh, Reading, Stand, done_if, is_open, next_line, nothing_read, whole_page, with_title}
use Rattle.man_page.specs.Promises.{ArePermitted, ReadsAs}
use Rattle.man_page.proofs.Inputs.{Leads, leads_line, leads_whole}
use Rattle.man_page.proofs.Pieces.{bytes_of}
use Rattle.man_page.proofs.Words.{TitleIsPermitted, title_asks, title_inside, title_line_is, title_shown, title_words_read, title_words_text}
use Rattle.man_page.proofs.Blocks.{Comes, block_comes, comes_front, comes_nothing, comes_then, comes_to, entries_come, forms_come, heading_leads, here}

-- ---- parts

module _ (title : List (List Glyph)) (section : List ℕ) (permitted : list_all is_permitted_byte section ≡ true) where
  -- a part is read, and after a heading the next text begins a paragraph
  abbrev PartComes : Bool → PartSaid → List Said → Stand → Type 0
  PartComes follows part said stand = (p : Comes (part_text section follows part) (here title said [] stand) title (said ++ part_kept section part) []) × (is_heading part ≡ true → p.after ≡ Fresh Plain)

  part_comes : (follows : Bool) (part : PartSaid) (said : List Said) (stand : Stand) → is_permitted_part part ≡ true → is_open stand ≡ true → (follows ≡ true → stand ≡ Fresh Plain) → PartComes follows part said stand
  part_comes follows (heading rank text) said stand h o fresh = (record { after = Fresh Plain; opens = refl; leads = heading_leads title rank text said stand (bytes_of text h) o }, λ _. refl)
  part_comes follows (usage forms) said stand h o fresh = (forms_come title section permitted forms said stand h o, λ e. absurd cc)
  part_comes follows (block shown) said stand h o fresh = (block_comes title section permitted follows shown said stand h o fresh, λ e. absurd cc)
  part_comes follows (entries list) said stand h o fresh = (entries_come title section permitted list said stand h o, λ e. absurd cc)

  parts_come : (follows : Bool) (parts : List PartSaid) (said : List Said) (stand : Stand) → list_all is_permitted_part parts ≡ true → is_open stand ≡ true → (follows ≡ true → stand ≡ Fresh Plain)
      → Comes (parts_text section follows parts) (here title said [] stand) title (said ++ flat_map (part_kept section) parts) []
  parts_come follows [] said stand h o fresh = comes_to (sym (append-nil said)) (comes_nothing title said [] stand o)
  parts_come follows (part ∷ parts) said stand h o fresh =
      let both = and_parts (is_permitted_part part) (list_all is_permitted_part parts) h in
      let first = part_comes follows part said stand both.0 o fresh in
      comes_then first.0 (comes_to (append_assoc said (part_kept section part) (flat_map (part_kept section) parts))
      (parts_come (is_heading part) parts (said ++ part_kept section part) first.0.after both.1 first.0.opens first.1))

-- ---- the page

title_permitted : (title : TitleSaid) → list_all are_permitted (title_words title) ≡ true → TitleIsPermitted title
title_permitted title h =
    let one = and_parts (are_permitted title.name) (list_all are_permitted (title.section ∷ title.date ∷ title.vendor ∷ title.title ∷ [])) h in
    let two = and_parts (are_permitted title.section) (list_all are_permitted (title.date ∷ title.vendor ∷ title.title ∷ [])) one.1 in
    let three = and_parts (are_permitted title.date) (list_all are_permitted (title.vendor ∷ title.title ∷ [])) two.1 in
    let four = and_parts (are_permitted title.vendor) (list_all are_permitted (title.title ∷ [])) three.1 in
    let five = and_parts (are_permitted title.title) true four.1 in
    record { name = bytes_of title.name one.0; section = bytes_of title.section two.0; date = bytes_of title.date three.0; vendor = bytes_of title.vendor four.0; title = bytes_of title.title five.0 }

title_leads : (title : TitleSaid) → TitleIsPermitted title → Leads (title_line title) (Some nothing_read) (here (map (in_font Roman) (title_words title)) [] [] (Fresh Plain))
title_leads title p =
    let next : Option Reading = here (map (in_font Roman) (title_words title)) [] [] (Fresh Plain) in
    subst (λ x. Leads x (Some nothing_read) next) (title_line_is title)
    (leads_line (codes ".TH " ++ title_words_text title) (Some nothing_read) next (title_inside title p)
    (ap (done_if nothing_read) (title_asks (title_words_text title))
    ∙ ap (λ x. with_title nothing_read Reader.Front (Reader.shown_if true x)) (title_words_read title p)
    ∙ ap (with_title nothing_read Reader.Front) (title_shown title p)))

page_comes : (title : TitleSaid) (parts : List PartSaid) → TitleIsPermitted title → list_all is_permitted_part parts ≡ true
    → Comes (page_text title parts) (Some nothing_read) (map (in_font Roman) (title_words title)) (page_kept title parts).said []
page_comes title parts p h = comes_front (title_leads title p) (parts_come (map (in_font Roman) (title_words title)) title.section p.section false parts [] (Fresh Plain) h refl (λ e. absurd cc))

whole_is : (title : List (List Glyph)) (said : List Said) (after : Stand) → is_open after ≡ true → whole_page (here title said [] after) ≡ Some (record { title = title; said = said })
whole_is title said after o = rw o refl

comes_whole : (bytes : List ℕ) (title : List (List Glyph)) (said : List Said) → Comes bytes (Some nothing_read) title said [] → ReadsAs bytes (record { title = title; said = said })
comes_whole bytes title said p =
    leads_whole p.leads ∙ whole_is title said p.after p.opens

pub reads_back : (title : TitleSaid) (parts : List PartSaid) → ArePermitted title parts → ReadsAs (page_text title parts) (page_kept title parts)
reads_back title parts h = comes_whole (page_text title parts) (map (in_font Roman) (title_words title)) (page_kept title parts).said (page_comes title parts (title_permitted title h.0) h.1)
