-- How blocks, entries, usages and headings are read.
use Rattle.std.proofs.Common.{◌≡◌, ℕ, Bool, true, false, List, [], ◌∷◌, ◌++◌, refl, sym, ap, ◌∙◌, subst, append-nil, append_assoc}
use Rattle.std.specs.Prelude.{Option, Some, None, codes, flat_map, map, if◌then◌else◌}
use Rattle.std.specs.List.{list_all}
use Rattle.std.proofs.lemmas.Bool.{and_parts}
use Rattle.std.proofs.lemmas.List.Concat.{flat_map_single}
use Rattle.page_model.specs.Content.{Line, BlockSaid, paragraph, code, bullets, EntrySaid, FormSaid}
use Rattle.page_model.specs.Permitted.{are_permitted, has_permitted_content, is_permitted_block, is_permitted_byte, is_permitted_entry, is_permitted_form, is_permitted_line, leads_to_permitted}
use Rattle.page_model.specs.declared.parts.Rank.{Rank}
use Rattle.page_model.specs.declared.parts.Rank.TheVariants.{Page, Section, Subsection}
use Rattle.man_page.specs.Sheet.{Roman, Glyph, Kind, Plain, Tagged, Bulleted, Continued, Indent, Usual, Columns, Said, Heading, Paragraph, Example, Synopsis}
use Rattle.man_page.specs.Kept.{block_kept, body_kept, code_shown, entry_kept, form_kept, in_font, inner_kept, item_kept, line_shown, lines_shown, paragraph_kept, rank_kept, terms_shown}
use Rattle.man_page.specs.Exact.{block_text, body_text, bullet_text, code_line, ends_sentence, entry_text, escaped, example_text, form_text, heading_name, heading_text, inner_text, input_line, item_text, lines_text, new_paragraph, piece_bytes, pieces_text, terms_text, title_text, word_text}
use Rattle.man_page.specs.Reader.{Bodied, Broken, Filled, Fresh, InExample, InSynopsis, Reading, Stand, Tag, done_if, heading_glyphs, if_open, indented, is_open, next_line, on_last, outdented, placed, saying, with_heading, with_line, with_synopsis}
use Rattle.man_page.specs.declared.escape.Role.TheVariants.{Text, Item, Code}
use Rattle.man_page.proofs.Glyphs.{all_written, is_solid, is_text_byte, text_reads, writes_item, writes_text}
use Rattle.man_page.proofs.Inputs.{Leads, all_both, code_leads, input_leads, is_in_line, item_leads, leads_line, leads_nothing, leads_then, leads_to}
use Rattle.man_page.proofs.Pieces.{bytes_of, pieces_bytes, pieces_read, solid_signs, terms_bytes, terms_read, text_signs}
use Rattle.man_page.proofs.Words.{name_shown, section_asks, subsection_asks, synopsis_asks, title_is, word_inside}

abbrev pub at : List (List Glyph) → List Said → List Indent → Stand → Reading
at title said indents stand = record { title = title; said = said; indents = indents; stand = stand }

abbrev pub here : List (List Glyph) → List Said → List Indent → Stand → Option Reading
here title said indents stand = Some (at title said indents stand)

-- A text that leads from a reading to one that has said this, where a paragraph may come.
pub record Comes (bytes : List ℕ) (from : Option Reading) (title : List (List Glyph)) (said : List Said) (indents : List Indent) : Type 0 where
  pub after : Stand
  pub opens : is_open after ≡ true
  pub leads : Leads bytes from (here title said indents after)

pub comes_front : {a b : List ℕ} {r s : Option Reading} {title : List (List Glyph)} {said : List Said} {indents : List Indent} → Leads a r s → Comes b s title said indents → Comes (a ++ b) r title said indents
comes_front p q = record { after = q.after; opens = q.opens; leads = leads_then p q.leads }

pub comes_then : {a b : List ℕ} {r : Option Reading} {title : List (List Glyph)} {first said : List Said} {indents : List Indent} (p : Comes a r title first indents) → Comes b (here title first indents p.after) title said indents → Comes (a ++ b) r title said indents
comes_then p q = comes_front p.leads q

pub comes_to : {a : List ℕ} {r : Option Reading} {title : List (List Glyph)} {first said : List Said} {indents : List Indent} → first ≡ said → Comes a r title first indents → Comes a r title said indents
comes_to {title = title} {indents = indents} e p = record { after = p.after; opens = p.opens; leads = leads_to (ap (λ x. here title x indents p.after) e) p.leads }

module _ (title : List (List Glyph)) where
  pub comes_nothing : (said : List Said) (indents : List Indent) (stand : Stand) → is_open stand ≡ true → Comes [] (here title said indents stand) title said indents
  comes_nothing said indents stand o = record { after = stand; opens = o; leads = leads_nothing }

  -- what holds of each part of a list, one after another
  each_comes : {X : Type 0} (indents : List Indent) (text : X → List ℕ) (kept : X → List Said) (may : X → Bool)
      → ((x : X) (said : List Said) (stand : Stand) → may x ≡ true → is_open stand ≡ true → Comes (text x) (here title said indents stand) title (said ++ kept x) indents)
      → (xs : List X) (said : List Said) (stand : Stand) → list_all may xs ≡ true → is_open stand ≡ true → Comes (flat_map text xs) (here title said indents stand) title (said ++ flat_map kept xs) indents
  each_comes indents text kept may one [] said stand h o = comes_to (sym (append-nil said)) (comes_nothing said indents stand o)
  each_comes indents text kept may one (x ∷ xs) said stand h o =
      let parts = and_parts (may x) (list_all may xs) h in
      let p = one x said stand parts.0 o in
      comes_then p (comes_to (append_assoc said (kept x) (flat_map kept xs)) (each_comes indents text kept may one xs (said ++ kept x) p.after parts.1 p.opens))

  -- the same of lines that a place takes one by one
  each_leads : {X : Type 0} (said : List Said) (indents : List Indent) (taking : List (List Glyph) → Stand) (text : X → List ℕ) (shown : X → List Glyph) (may : X → Bool)
      → ((before : List (List Glyph)) (x : X) → may x ≡ true → Leads (text x) (here title said indents (taking before)) (here title said indents (taking (before ++ shown x ∷ []))))
      → (before : List (List Glyph)) (xs : List X) → list_all may xs ≡ true → Leads (flat_map text xs) (here title said indents (taking before)) (here title said indents (taking (before ++ map shown xs)))
  each_leads said indents taking text shown may one before [] h = leads_to (ap (λ x. here title said indents (taking x)) (sym (append-nil before))) leads_nothing
  each_leads said indents taking text shown may one before (x ∷ xs) h =
      let parts = and_parts (may x) (list_all may xs) h in
      leads_then (one before x parts.0)
      (leads_to (ap (λ y. here title said indents (taking y)) (append_assoc before (shown x ∷ []) (map shown xs))) (each_leads said indents taking text shown may one (before ++ shown x ∷ []) xs parts.1))

  -- ---- requests

  opened : (read : Reading) (next : Option Reading) → is_open read.stand ≡ true → if_open read next ≡ next
  opened read next o = ap (λ (x : Bool). if x then next else None) o

  -- a request that comes where a paragraph may come
  asks : (line : List ℕ) (next : Reading → Option Reading) → list_all is_in_line line ≡ true → ((read : Reading) → next_line (Some read) line ≡ if_open read (next read))
      → (read : Reading) → is_open read.stand ≡ true → Leads (line ++ codes "\n") (Some read) (next read)
  asks line next inside does read o = leads_line line (Some read) (next read) inside (does read ∙ opened read (next read) o)

  abbrev becomes : Stand → Reading → Option Reading
  becomes stand read = Some (record read { stand = stand })

  abbrev deeper : Indent → Reading → Option Reading
  deeper indent read = indented read indent

  abbrev less_deep : Reading → Option Reading
  less_deep read = outdented read read.indents

  outdent_leads : (said : List Said) (indent : Indent) (indents : List Indent) (stand : Stand) → is_open stand ≡ true → Leads (codes ".RE\n") (here title said (indent ∷ indents) stand) (here title said indents (Fresh Plain))
  outdent_leads said indent indents stand o = asks (codes ".RE") less_deep refl (λ read. refl) (at title said (indent ∷ indents) stand) o

  -- what stands in an indent
  indented_comes : {bytes : List ℕ} (said first : List Said) (indents : List Indent) (stand : Stand) → is_open stand ≡ true → Comes bytes (here title first (Usual ∷ indents) (Fresh Plain)) title said (Usual ∷ indents)
      → Comes (codes ".RS\n" ++ (bytes ++ codes ".RE\n")) (here title first indents stand) title said indents
  indented_comes said first indents stand o p =
      comes_front (asks (codes ".RS") (deeper Usual) refl (λ read. refl) (at title first indents stand) o)
      (comes_front p.leads (record { after = Fresh Plain; opens = refl; leads = outdent_leads said Usual indents p.after p.opens }))

  -- ---- code

  code_line_leads : (said : List Said) (indents : List Indent) (before : List (List Glyph)) (line : List ℕ) → are_permitted line ≡ true
      → Leads (code_line line) (here title said indents (InExample before)) (here title said indents (InExample (before ++ code_shown line ∷ [])))
  code_line_leads said indents before line h =
      code_leads (at title said indents (InExample before)) (escaped Code line) (code_shown line) refl
      (all_written is_permitted_byte is_text_byte Code (writes_text Code refl) line (bytes_of line h)) (text_reads Code Roman [] line (bytes_of line h))

  example_comes : (said : List Said) (indents : List Indent) (stand : Stand) (lines : List (List ℕ)) → list_all are_permitted lines ≡ true → is_open stand ≡ true
      → Comes (example_text lines) (here title said indents stand) title (said ++ Example (Columns 4 ∷ indents) (map code_shown lines) ∷ []) indents
  example_comes said indents stand lines h o =
      let deep : List Indent = Columns 4 ∷ indents in
      let all : List (List Glyph) = map code_shown lines in
      let whole : List Said = said ++ Example deep all ∷ [] in
      comes_front (asks (codes ".RS 4") (deeper (Columns 4)) refl (λ read. refl) (at title said indents stand) o)
      (comes_front (leads_line (codes ".EX") (here title said deep (Fresh Plain)) (here title said deep (InExample [])) refl refl)
      (comes_front (each_leads said deep InExample code_line code_shown are_permitted (code_line_leads said deep) [] lines h)
      (comes_front (leads_line (codes ".EE") (here title said deep (InExample all)) (here title whole deep (Fresh Plain)) refl refl)
      (record { after = Fresh Plain; opens = refl; leads = outdent_leads whole (Columns 4) indents (Fresh Plain) refl }))))

  -- ---- paragraphs

  on_last_after : (change : Said → Said) (said : List Said) (last : Said) → on_last change (said ++ last ∷ []) ≡ said ++ change last ∷ []
  on_last_after change [] last = refl
  on_last_after change (x ∷ []) last = refl
  on_last_after change (x ∷ y ∷ said) last = ap (λ xs. x ∷ xs) (on_last_after change (y ∷ said) last)

  abbrev in_paragraph : List Said → List Indent → Kind → List (List Glyph) → List Said
  in_paragraph said indents kind lines = said ++ Paragraph indents kind lines ∷ []

  -- where a line of text comes after these lines of a paragraph
  abbrev TakesLines : Reading → List Said → List Indent → Kind → List (List Glyph) → Type 0
  TakesLines read said indents kind before = (line : List Glyph) → placed read read.stand line ≡ here title (in_paragraph said indents kind (before ++ line ∷ [])) indents Filled

  takes_line : (said : List Said) (indents : List Indent) (kind : Kind) (before : List (List Glyph)) (line : List Glyph)
      → here title (on_last (λ last. with_line last line) (in_paragraph said indents kind before)) indents Filled ≡ here title (in_paragraph said indents kind (before ++ line ∷ [])) indents Filled
  takes_line said indents kind before line = ap (λ x. here title x indents Filled) (on_last_after (λ last. with_line last line) said (Paragraph indents kind before))

  module _ (section : List ℕ) (permitted : list_all is_permitted_byte section ≡ true) where
    line_leads : (read : Reading) (said : List Said) (indents : List Indent) (kind : Kind) (before : List (List Glyph)) (line : Line) → is_permitted_line line ≡ true → TakesLines read said indents kind before
        → Leads (input_line (pieces_text Text true section line)) (Some read) (here title (in_paragraph said indents kind (before ++ line_shown section line ∷ [])) indents Filled)
    line_leads read said indents kind before line h takes =
        leads_to (takes (line_shown section line))
        (input_leads read (pieces_text Text true section line) (line_shown section line) (pieces_bytes is_text_byte text_signs Text (writes_text Text refl) true section permitted line h) (pieces_read Text refl true section permitted line [] h (λ _. refl)))

    lines_lead : (read : Reading) (said : List Said) (indents : List Indent) (kind : Kind) (before : List (List Glyph)) (line : Line) (lines : List Line) → list_all is_permitted_line (line ∷ lines) ≡ true → TakesLines read said indents kind before
        → Leads (lines_text section (line ∷ lines)) (Some read) (here title (in_paragraph said indents kind (before ++ lines_shown section (line ∷ lines))) indents Filled)
    lines_lead read said indents kind before line [] h takes = line_leads read said indents kind before line (and_parts (is_permitted_line line) true h).0 takes
    lines_lead read said indents kind before line (next ∷ lines) h takes =
        let parts = and_parts (is_permitted_line line) (list_all is_permitted_line (next ∷ lines)) h in
        let more : List (List Glyph) = before ++ line_shown section line ∷ [] in
        let first : List Said = in_paragraph said indents kind more in
        leads_then (line_leads read said indents kind before line parts.0 takes)
        (leads_then (leads_line (codes ".br") (here title first indents Filled) (here title first indents Broken) refl refl)
        (leads_to (ap (λ x. here title (in_paragraph said indents kind x) indents Filled) (append_assoc before (line_shown section line ∷ []) (lines_shown section (next ∷ lines))))
        (lines_lead (at title first indents Broken) said indents kind more next lines parts.1 (takes_line said indents kind more))))

    paragraph_comes : (said : List Said) (indents : List Indent) (kind : Kind) (lines : List Line) → list_all is_permitted_line lines ≡ true
        → Comes (lines_text section lines) (here title said indents (Fresh kind)) title (said ++ paragraph_kept section indents kind lines) indents
    paragraph_comes said indents kind [] h = comes_to (sym (append-nil said)) (comes_nothing said indents (Fresh kind) refl)
    paragraph_comes said indents kind (line ∷ lines) h = record { after = Filled; opens = refl; leads = lines_lead (at title said indents (Fresh kind)) said indents kind [] line lines h (λ _. refl) }

    -- lines in a paragraph that has none yet
    first_comes : (said : List Said) (indents : List Indent) (kind : Kind) (lines : List Line) → list_all is_permitted_line lines ≡ true
        → Comes (lines_text section lines) (here title (in_paragraph said indents kind []) indents Bodied) title (in_paragraph said indents kind (lines_shown section lines)) indents
    first_comes said indents kind [] h = comes_nothing (in_paragraph said indents kind []) indents Bodied refl
    first_comes said indents kind (line ∷ lines) h = record {
      after = Filled;
      opens = refl;
      leads = lines_lead (at title (in_paragraph said indents kind []) indents Bodied) said indents kind [] line lines h (takes_line said indents kind []);
    }

    abbrev bullets_alone : Reading → Option Reading
    bullets_alone read = saying read (Paragraph read.indents Bulleted []) Bodied

    bullet_comes : (indents : List Indent) (item : List Line) (said : List Said) (stand : Stand) → list_all is_permitted_line item ≡ true → is_open stand ≡ true
        → Comes (bullet_text section item) (here title said indents stand) title (said ++ item_kept section indents item ∷ []) indents
    bullet_comes indents item said stand h o =
        comes_front (asks (codes ".IP \\(bu 2") bullets_alone refl (λ read. refl) (at title said indents stand) o) (first_comes said indents Bulleted item h)

    bullets_come : (indents : List Indent) (items : List (List Line)) (said : List Said) (stand : Stand) → list_all (list_all is_permitted_line) items ≡ true → is_open stand ≡ true
        → Comes (flat_map (bullet_text section) items) (here title said indents stand) title (said ++ map (item_kept section indents) items) indents
    bullets_come indents items said stand h o =
        comes_to (ap (λ x. said ++ x) (flat_map_single (item_kept section indents) items))
        (each_comes indents (bullet_text section) (λ item. item_kept section indents item ∷ []) (list_all is_permitted_line) (bullet_comes indents) items said stand h o)

    -- ---- blocks

    before_block : (after : Bool) (said : List Said) (stand : Stand) → is_open stand ≡ true → (after ≡ true → stand ≡ Fresh Plain)
        → Leads (new_paragraph after) (here title said [] stand) (here title said [] (Fresh Plain))
    before_block true said stand o fresh = leads_to (ap (here title said []) (fresh refl)) leads_nothing
    before_block false said stand o fresh = asks (codes ".PP") (becomes (Fresh Plain)) refl (λ read. refl) (at title said [] stand) o

    pub block_comes : (after : Bool) (shown : BlockSaid) (said : List Said) (stand : Stand) → is_permitted_block shown ≡ true → is_open stand ≡ true → (after ≡ true → stand ≡ Fresh Plain)
        → Comes (block_text section after shown) (here title said [] stand) title (said ++ block_kept section shown) []
    block_comes after (paragraph lines) said stand h o fresh = comes_front (before_block after said stand o fresh) (paragraph_comes said [] Plain lines h)
    block_comes after (code lines) said stand h o fresh = comes_front (before_block after said stand o fresh) (example_comes said [] (Fresh Plain) lines h refl)
    block_comes after (bullets items) said stand h o fresh = bullets_come [] items said stand h o

    inner_comes : (shown : BlockSaid) (said : List Said) (stand : Stand) → is_permitted_block shown ≡ true → is_open stand ≡ true
        → Comes (inner_text section shown) (here title said [] stand) title (said ++ inner_kept section shown) []
    inner_comes (paragraph lines) said stand h o = comes_front (asks (codes ".IP") (becomes (Fresh Continued)) refl (λ read. refl) (at title said [] stand) o) (paragraph_comes said [] Continued lines h)
    inner_comes (code lines) said stand h o =
        indented_comes (said ++ Example (Columns 4 ∷ Usual ∷ []) (map code_shown lines) ∷ []) said [] stand o
        (comes_front (asks (codes ".PP") (becomes (Fresh Plain)) refl (λ read. refl) (at title said (Usual ∷ []) (Fresh Plain)) refl) (example_comes said (Usual ∷ []) (Fresh Plain) lines h refl))
    inner_comes (bullets items) said stand h o = indented_comes (said ++ map (item_kept section (Usual ∷ [])) items) said [] stand o (bullets_come (Usual ∷ []) items said (Fresh Plain) h refl)

    -- ---- entries

    -- blocks after what stands in the paragraph of a tag
    after_tagged : (said : List Said) (tag : List Glyph) (lines : List (List Glyph)) (blocks : List BlockSaid) (stand : Stand) → list_all is_permitted_block blocks ≡ true → is_open stand ≡ true
        → Comes (flat_map (inner_text section) blocks) (here title (in_paragraph said [] (Tagged tag) lines) [] stand) title (said ++ Paragraph [] (Tagged tag) lines ∷ flat_map (inner_kept section) blocks) []
    after_tagged said tag lines blocks stand h o =
        comes_to (append_assoc said (Paragraph [] (Tagged tag) lines ∷ []) (flat_map (inner_kept section) blocks))
        (each_comes [] (inner_text section) (inner_kept section) is_permitted_block inner_comes blocks (in_paragraph said [] (Tagged tag) lines) stand h o)

    body_comes : (said : List Said) (tag : List Glyph) (body : List BlockSaid) → list_all is_permitted_block body ≡ true
        → Comes (body_text section body) (here title (in_paragraph said [] (Tagged tag) []) [] Bodied) title (said ++ body_kept section tag body) []
    body_comes said tag [] h = comes_nothing (in_paragraph said [] (Tagged tag) []) [] Bodied refl
    body_comes said tag (paragraph lines ∷ blocks) h =
        let parts = and_parts (list_all is_permitted_line lines) (list_all is_permitted_block blocks) h in
        let first = first_comes said [] (Tagged tag) lines parts.0 in
        comes_then first (after_tagged said tag (lines_shown section lines) blocks first.after parts.1 first.opens)
    body_comes said tag (code lines ∷ blocks) h = after_tagged said tag [] (code lines ∷ blocks) Bodied h refl
    body_comes said tag (bullets items ∷ blocks) h = after_tagged said tag [] (bullets items ∷ blocks) Bodied h refl

    entry_comes : (entry : EntrySaid) (said : List Said) (stand : Stand) → is_permitted_entry entry ≡ true → is_open stand ≡ true
        → Comes (entry_text section entry) (here title said [] stand) title (said ++ entry_kept section entry) []
    entry_comes entry said stand h o =
        let content = (and_parts (leads_to_permitted entry.target) (has_permitted_content entry) h).1 in
        let parts = and_parts (list_all is_permitted_line entry.terms) (list_all is_permitted_block entry.body) content in
        comes_front (asks (codes ".TP") (becomes Tag) refl (λ read. refl) (at title said [] stand) o)
        (comes_front (input_leads (at title said [] Tag) (terms_text section entry.terms) (terms_shown section entry.terms) (terms_bytes section permitted entry.terms parts.0) (terms_read section permitted entry.terms [] parts.0))
        (body_comes said (terms_shown section entry.terms) entry.body parts.1))

    pub entries_come : (list : List EntrySaid) (said : List Said) (stand : Stand) → list_all is_permitted_entry list ≡ true → is_open stand ≡ true
        → Comes (flat_map (entry_text section) list) (here title said [] stand) title (said ++ flat_map (entry_kept section) list) []
    entries_come = each_comes [] (entry_text section) (entry_kept section) is_permitted_entry entry_comes

    -- ---- usages

    item_comes : (said : List Said) (name : List Glyph) (before : List (List Glyph)) (item : Line) → is_permitted_line item ≡ true
        → Leads (item_text section item) (here title said [] (InSynopsis name before)) (here title said [] (InSynopsis name (before ++ line_shown section item ∷ [])))
    item_comes said name before item h =
        item_leads (at title said [] (InSynopsis name before)) (ends_sentence false (flat_map (piece_bytes section) item)) (pieces_text Item false section item) (line_shown section item)
        (pieces_bytes is_text_byte text_signs Item (writes_text Item refl) false section permitted item h)
        (pieces_bytes is_solid solid_signs Item writes_item false section permitted item h)
        (pieces_read Item refl false section permitted item [] h (λ _. refl))

    name_leads : (said : List Said) (stand : Stand) (name : List ℕ) → list_all is_permitted_byte name ≡ true → is_open stand ≡ true
        → Leads ((codes ".SY " ++ word_text Text name) ++ codes "\n") (here title said [] stand) (here title said [] (InSynopsis (in_font Roman name) []))
    name_leads said stand name h o =
        let read : Reading = at title said [] stand in
        let next : Option Reading = here title said [] (InSynopsis (in_font Roman name) []) in
        leads_line (codes ".SY " ++ word_text Text name) (Some read) next (all_both is_in_line (codes ".SY ") (word_text Text name) refl (word_inside Text name h))
        (ap (done_if read) (synopsis_asks (word_text Text name)) ∙ ap (with_synopsis read) (name_shown name h) ∙ opened read next o)

    form_comes : (form : FormSaid) (said : List Said) (stand : Stand) → is_permitted_form form ≡ true → is_open stand ≡ true
        → Comes (form_text section form) (here title said [] stand) title (said ++ form_kept section form ∷ []) []
    form_comes form said stand h o =
        let parts = and_parts (are_permitted form.name) (list_all is_permitted_line form.items) h in
        let name : List Glyph = in_font Roman form.name in
        let items : List (List Glyph) = map (line_shown section) form.items in
        subst (λ x. Comes (codes ".SY " ++ x) (here title said [] stand) title (said ++ form_kept section form ∷ []) []) (append_assoc (word_text Text form.name) (codes "\n") (flat_map (item_text section) form.items ++ codes ".YS\n"))
        (comes_front (name_leads said stand form.name (bytes_of form.name parts.0) o)
        (comes_front (each_leads said [] (InSynopsis name) (item_text section) (line_shown section) is_permitted_line (item_comes said name) [] form.items parts.1)
        (record { after = Fresh Plain; opens = refl; leads = leads_line (codes ".YS") (here title said [] (InSynopsis name items)) (here title (said ++ Synopsis name items ∷ []) [] (Fresh Plain)) refl refl })))

    pub forms_come : (forms : List FormSaid) (said : List Said) (stand : Stand) → list_all is_permitted_form forms ≡ true → is_open stand ≡ true
        → Comes (flat_map (form_text section) forms) (here title said [] stand) title (said ++ map (form_kept section) forms) []
    forms_come forms said stand h o =
        comes_to (ap (λ x. said ++ x) (flat_map_single (form_kept section) forms))
        (each_comes [] (form_text section) (λ form. form_kept section form ∷ []) is_permitted_form form_comes forms said stand h o)

  -- ---- headings

  section_line : (read : Reading) (written : List ℕ) (shown : List Glyph) → heading_glyphs written ≡ Some shown → is_open read.stand ≡ true
      → next_line (Some read) (codes ".SH " ++ written) ≡ with_heading read Section (Some shown)
  section_line read written shown e o = ap (done_if read) (section_asks written) ∙ opened read (with_heading read Section (heading_glyphs written)) o ∙ ap (with_heading read Section) e

  heading_line : (rank : Rank) (read : Reading) (written : List ℕ) (shown : List Glyph) → heading_glyphs written ≡ Some shown → is_open read.stand ≡ true
      → next_line (Some read) (heading_name rank ++ written) ≡ with_heading read (rank_kept rank) (Some shown)
  heading_line Page read written shown e o = section_line read written shown e o
  heading_line Section read written shown e o = section_line read written shown e o
  heading_line Subsection read written shown e o = ap (done_if read) (subsection_asks written) ∙ opened read (with_heading read Subsection (heading_glyphs written)) o ∙ ap (with_heading read Subsection) e

  name_inside : (rank : Rank) → list_all is_in_line (heading_name rank) ≡ true
  name_inside Page = refl
  name_inside Section = refl
  name_inside Subsection = refl

  pub heading_leads : (rank : Rank) (text : List ℕ) (said : List Said) (stand : Stand) → list_all is_permitted_byte text ≡ true → is_open stand ≡ true
      → Leads (heading_text rank text) (here title said [] stand) (here title (said ++ Heading (rank_kept rank) (in_font Roman text) ∷ []) [] (Fresh Plain))
  heading_leads rank text said stand h o =
      let is = title_is text h in
      let next : Option Reading = here title (said ++ Heading (rank_kept rank) (in_font Roman text) ∷ []) [] (Fresh Plain) in
      subst (λ x. Leads x (here title said [] stand) next) (append_assoc (heading_name rank) (title_text text) (codes "\n"))
      (leads_line (heading_name rank ++ title_text text) (here title said [] stand) next
      (all_both is_in_line (heading_name rank) (title_text text) (name_inside rank) is.inside)
      (heading_line rank (at title said [] stand) (title_text text) (in_font Roman text) is.reads o))
