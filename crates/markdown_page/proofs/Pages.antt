-- A written page reads back.
use Rattle.std.proofs.Common.{◌≡◌, ℕ, Bool, true, List, [], ◌∷◌, ◌++◌, refl, ap, ◌∙◌, subst, append_assoc}
use Rattle.std.specs.Prelude.{Some, None, codes, flat_map, map, if◌then◌else◌}
use Rattle.std.specs.List.{list_all}
use Rattle.std.proofs.lemmas.Bool.{and_parts}
use Rattle.std.proofs.lemmas.List.Folds.{list_all-map}
use Rattle.page_model.specs.Content.{FormSaid, Line, PartSaid, heading, usage, block, entries}
use Rattle.page_model.specs.Permitted.{are_permitted, is_permitted_byte, is_permitted_entry, is_permitted_form, is_permitted_line, is_permitted_part}
use Rattle.markdown_page.specs.Sheet.{Said, Heading}
use Rattle.markdown_page.specs.Kept.{entry_kept, form_bytes, item_bytes, page_kept, part_kept, plain, seen}
use Rattle.markdown_page.specs.Exact.{entry_text, page_text, part_text, title_text}
use Rattle.markdown_page.specs.Reader.{Between, Stand, is_open, nothing_read, whole_page}
use Rattle.markdown_page.specs.Promises.{ArePermitted, ReadsAs}
use Rattle.markdown_page.proofs.Bools.{all_both, weaker}
use Rattle.markdown_page.proofs.Pieces.{bytes_of, line_permitted}
use Rattle.markdown_page.proofs.Blocks.{Comes, block_comes, code_comes, comes_front, each_comes, entry_comes, heading_comes, leads_whole, on, title_leads}

items_permitted : (items : List Line) → list_all is_permitted_line items ≡ true → list_all is_permitted_byte (flat_map item_bytes items) ≡ true
items_permitted [] h = refl
items_permitted (item ∷ items) h =
    let parts = and_parts (is_permitted_line item) (list_all is_permitted_line items) h in
    all_both is_permitted_byte (item_bytes item) (flat_map item_bytes items) (line_permitted item parts.0) (items_permitted items parts.1)

form_permitted : (form : FormSaid) → is_permitted_form form ≡ true → list_all is_permitted_byte (form_bytes form) ≡ true
form_permitted form h =
    let parts = and_parts (are_permitted form.name) (list_all is_permitted_line form.items) h in
    all_both is_permitted_byte form.name (flat_map item_bytes form.items) (bytes_of form.name parts.0) (items_permitted form.items parts.1)

forms_permitted : (forms : List FormSaid) → list_all is_permitted_form forms ≡ true → list_all (list_all is_permitted_byte) (map form_bytes forms) ≡ true
forms_permitted forms h = list_all-map (list_all is_permitted_byte) form_bytes forms ∙ weaker is_permitted_form (λ form. list_all is_permitted_byte (form_bytes form)) form_permitted forms h

part_comes : (part : PartSaid) (said : List Said) (more : ℕ) (stand : Stand) → is_permitted_part part ≡ true → is_open stand ≡ true
    → Comes (part_text part) (on said more stand) 0 (said ++ part_kept part)
part_comes (heading rank title) said more stand h o = heading_comes rank title said more stand (bytes_of title h) o
part_comes (usage forms) said more stand h o = code_comes 0 (map form_bytes forms) said more stand (forms_permitted forms h) o
part_comes (block shown) said more stand h o = block_comes 0 shown said more stand h o
part_comes (entries list) said more stand h o = each_comes 0 entry_text entry_kept is_permitted_entry entry_comes list said more stand h o

page_comes : (title : List ℕ) (parts : List PartSaid) → ArePermitted title parts → Comes (page_text title parts) (Some nothing_read) 0 (page_kept title parts)
page_comes title parts h =
    let first : List Said = Heading 1 (seen (plain title)) ∷ [] in
    subst (λ x. Comes (codes "# " ++ x) (Some nothing_read) 0 (page_kept title parts)) (append_assoc (title_text title) (codes "\n") (flat_map part_text parts))
    (comes_front (title_leads title (bytes_of title h.0)) (each_comes 0 part_text part_kept is_permitted_part part_comes parts first 0 Between h.1 refl))

whole_is : (said : List Said) (depth : ℕ) (after : Stand) → is_open after ≡ true → whole_page (on said depth after) ≡ Some said
whole_is said depth after o = ap (λ (x : Bool). if x then Some said else None) o

pub reads_back : (title : List ℕ) (parts : List PartSaid) → ArePermitted title parts → ReadsAs (page_text title parts) (page_kept title parts)
reads_back title parts h =
    let p = page_comes title parts h in
    leads_whole p.leads ∙ whole_is (page_kept title parts) p.more p.after p.opens
