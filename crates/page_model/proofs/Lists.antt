-- A page is permitted where each text of it is.
use Rattle.std.proofs.Common.{◌≡◌, ◌++◌, ◌&&◌, Bool, true, false, not, ℕ, List, [], ◌∷◌, Option, Some, None, map, flat_map, ap, ◌∙◌, refl, cond}
use Rattle.std.proofs.Math.Bool.{and-true}
use Rattle.std.specs.List.{list_all}
use Rattle.std.specs.Option.{is_none}
use Rattle.std.proofs.lemmas.List.Folds.{list_all-append, list_all-map}
use Rattle.page_model.specs.Content.{Piece, words, literal, value, link, page, Line, BlockSaid, paragraph, code, bullets, TargetSaid, to_page, to_heading, EntrySaid, FormSaid, PartSaid, heading, usage, block, entries}
use Rattle.page_model.specs.Permitted.{are_permitted, is_permitted_piece, is_permitted_line, is_permitted_block, leads_to_permitted, is_permitted_entry, is_permitted_form, is_permitted_part, piece_text, line_texts, block_texts, target_texts, entry_texts, form_texts, part_texts, refused_in}

-- the first is refused, or the others decide
none_more : (permitted : Bool) (text : List ℕ) (texts : List (List ℕ)) → is_none (cond (not permitted) (Some text) (refused_in texts)) ≡ (permitted && is_none (refused_in texts))
none_more true text texts = refl
none_more false text texts = refl

none_refused : (texts : List (List ℕ)) → is_none (refused_in texts) ≡ list_all are_permitted texts
none_refused [] = refl
none_refused (text ∷ texts) = none_more (are_permitted text) text texts ∙ ap (λ others. are_permitted text && others) (none_refused texts)

all_texts : {Y : Type 0} (texts : Y → List (List ℕ)) (permitted : Y → Bool) → ((y : Y) → list_all are_permitted (texts y) ≡ permitted y) → (ys : List Y) → list_all are_permitted (flat_map texts ys) ≡ list_all permitted ys
all_texts texts permitted each [] = refl
all_texts texts permitted each (y ∷ ys) = list_all-append are_permitted (texts y) (flat_map texts ys) ∙ ap (λ here. here && list_all are_permitted (flat_map texts ys)) (each y) ∙ ap (λ others. permitted y && others) (all_texts texts permitted each ys)

one_text : (text : List ℕ) → list_all are_permitted (text ∷ []) ≡ are_permitted text
one_text text = and-true (are_permitted text)

piece_texts : (piece : Piece) → list_all are_permitted (piece_text piece ∷ []) ≡ is_permitted_piece piece
piece_texts (words text) = one_text text
piece_texts (literal text) = one_text text
piece_texts (value text) = one_text text
piece_texts (link text) = one_text text
piece_texts (page name) = one_text name

line_all : (line : Line) → list_all are_permitted (line_texts line) ≡ is_permitted_line line
line_all = all_texts (λ piece. piece_text piece ∷ []) is_permitted_piece piece_texts

block_all : (shown : BlockSaid) → list_all are_permitted (block_texts shown) ≡ is_permitted_block shown
block_all (paragraph lines) = all_texts line_texts is_permitted_line line_all lines
block_all (code lines) = refl
block_all (bullets items) = all_texts (flat_map line_texts) (list_all is_permitted_line) (all_texts line_texts is_permitted_line line_all) items

target_all : (target : Option TargetSaid) → list_all are_permitted (target_texts target) ≡ leads_to_permitted target
target_all None = refl
target_all (Some (to_page name)) = one_text name
target_all (Some (to_heading title)) = one_text title

entry_all : (entry : EntrySaid) → list_all are_permitted (entry_texts entry) ≡ is_permitted_entry entry
entry_all entry =
    list_all-append are_permitted (target_texts entry.target) (flat_map line_texts entry.terms ++ flat_map block_texts entry.body)
    ∙ ap (λ here. here && list_all are_permitted (flat_map line_texts entry.terms ++ flat_map block_texts entry.body)) (target_all entry.target)
    ∙ ap (λ others. leads_to_permitted entry.target && others) (list_all-append are_permitted (flat_map line_texts entry.terms) (flat_map block_texts entry.body)
    ∙ ap (λ here. here && list_all are_permitted (flat_map block_texts entry.body)) (all_texts line_texts is_permitted_line line_all entry.terms)
    ∙ ap (λ others. list_all is_permitted_line entry.terms && others) (all_texts block_texts is_permitted_block block_all entry.body))

form_all : (form : FormSaid) → list_all are_permitted (form_texts form) ≡ is_permitted_form form
form_all form = ap (λ others. are_permitted form.name && others) (all_texts line_texts is_permitted_line line_all form.items)

part_all : (part : PartSaid) → list_all are_permitted (part_texts part) ≡ is_permitted_part part
part_all (heading rank title) = one_text title
part_all (usage forms) = all_texts form_texts is_permitted_form form_all forms
part_all (block shown) = block_all shown
part_all (entries list) = all_texts entry_texts is_permitted_entry entry_all list

pub forms_permitted : {X : Type 0} (see : X → FormSaid) (forms : List X) → is_none (refused_in (flat_map form_texts (map see forms))) ≡ list_all (λ form. is_permitted_form (see form)) forms
forms_permitted see forms = none_refused (flat_map form_texts (map see forms)) ∙ all_texts form_texts is_permitted_form form_all (map see forms) ∙ list_all-map is_permitted_form see forms

pub parts_permitted : {X : Type 0} (see : X → PartSaid) (parts : List X) → is_none (refused_in (flat_map part_texts (map see parts))) ≡ list_all (λ part. is_permitted_part (see part)) parts
parts_permitted see parts = none_refused (flat_map part_texts (map see parts)) ∙ all_texts part_texts is_permitted_part part_all (map see parts) ∙ list_all-map is_permitted_part see parts
