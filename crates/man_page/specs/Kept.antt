-- What a manual page keeps of a page: texts and their fonts, not where links lead to, and white space as blanks.
use Rattle.std.specs.Prelude.{ℕ, ◌||◌, ◌==◌, List, [], ◌∷◌, ◌++◌, map, flat_map, codes, if◌then◌else◌}
use Rattle.page_model.specs.Content.{Piece, words, literal, value, link, page, Line, BlockSaid, paragraph, code, bullets, EntrySaid, FormSaid, PartSaid, heading, usage, block, entries}
use Rattle.page_model.specs.declared.parts.Rank.{Rank}
use Rattle.page_model.specs.declared.parts.Rank.TheVariants.{Page, Section, Subsection}
use Rattle.man_page.specs.Sheet.{Font, Roman, Bold, Italic, Glyph, Kind, Plain, Tagged, Bulleted, Continued, Indent, Usual, Columns, Said, Heading, Paragraph, Example, Synopsis, Sheet}

-- a newline and a tab are a blank; in code a tab stays
abbrev pub shown_byte : ℕ → ℕ
shown_byte b = if b == 9 || b == 10 then 32 else b

abbrev pub code_byte : ℕ → ℕ
code_byte b = if b == 10 then 32 else b

abbrev pub in_font : Font → List ℕ → List Glyph
in_font font bytes = map (λ b. record { byte = shown_byte b; font = font }) bytes

-- The page of a name is its name and the section.
abbrev pub piece_shown : List ℕ → Piece → List Glyph
piece_shown section (words text) = in_font Roman text
piece_shown section (literal text) = in_font Bold text
piece_shown section (value text) = in_font Italic text
piece_shown section (link text) = in_font Roman text
piece_shown section (page name) = in_font Bold name ++ in_font Roman (codes "(" ++ (section ++ codes ")"))

abbrev pub line_shown : List ℕ → Line → List Glyph
line_shown section pieces = flat_map (piece_shown section) pieces

abbrev pub lines_shown : List ℕ → List Line → List (List Glyph)
lines_shown section lines = map (line_shown section) lines

-- a paragraph without lines is nothing
abbrev pub paragraph_kept : List ℕ → List Indent → Kind → List Line → List Said
paragraph_kept section indents kind [] = []
paragraph_kept section indents kind (line ∷ lines) = Paragraph indents kind (lines_shown section (line ∷ lines)) ∷ []

-- terms with a comma and a blank between two
abbrev pub terms_shown : List ℕ → List Line → List Glyph
terms_shown section [] = []
terms_shown section (term ∷ []) = line_shown section term
terms_shown section (term ∷ next ∷ terms) =
    line_shown section term ++ (in_font Roman (codes ", ") ++ terms_shown section (next ∷ terms))

abbrev pub code_shown : List ℕ → List Glyph
code_shown line = map (λ b. record { byte = code_byte b; font = Roman }) line

-- an item has its bullet, without lines too
abbrev pub item_kept : List ℕ → List Indent → List Line → Said
item_kept section indents item = Paragraph indents Bulleted (lines_shown section item)

-- code is indented by four columns
abbrev pub block_kept : List ℕ → BlockSaid → List Said
block_kept section (paragraph lines) = paragraph_kept section [] Plain lines
block_kept section (code lines) = Example (Columns 4 ∷ []) (map code_shown lines) ∷ []
block_kept section (bullets items) = map (item_kept section []) items

-- a block in the body of an entry
abbrev pub inner_kept : List ℕ → BlockSaid → List Said
inner_kept section (paragraph lines) = paragraph_kept section [] Continued lines
inner_kept section (code lines) = Example (Columns 4 ∷ Usual ∷ []) (map code_shown lines) ∷ []
inner_kept section (bullets items) = map (item_kept section (Usual ∷ [])) items

-- an entry is a paragraph with its terms as the tag; the first paragraph of its body stands in it
abbrev pub body_kept : List ℕ → List Glyph → List BlockSaid → List Said
body_kept section tag [] = Paragraph [] (Tagged tag) [] ∷ []
body_kept section tag (paragraph lines ∷ blocks) =
    Paragraph [] (Tagged tag) (lines_shown section lines) ∷ flat_map (inner_kept section) blocks
body_kept section tag (code lines ∷ blocks) =
    Paragraph [] (Tagged tag) [] ∷ flat_map (inner_kept section) (code lines ∷ blocks)
body_kept section tag (bullets items ∷ blocks) =
    Paragraph [] (Tagged tag) [] ∷ flat_map (inner_kept section) (bullets items ∷ blocks)

abbrev pub entry_kept : List ℕ → EntrySaid → List Said
entry_kept section entry = body_kept section (terms_shown section entry.terms) entry.body

abbrev pub form_kept : List ℕ → FormSaid → Said
form_kept section form = Synopsis (in_font Roman form.name) (map (line_shown section) form.items)

-- a page that follows another has the heading of a section
abbrev pub rank_kept : Rank → Rank
rank_kept Page = Section
rank_kept Section = Section
rank_kept Subsection = Subsection

abbrev pub part_kept : List ℕ → PartSaid → List Said
part_kept section (heading rank title) = Heading (rank_kept rank) (in_font Roman title) ∷ []
part_kept section (usage forms) = map (form_kept section) forms
part_kept section (block shown) = block_kept section shown
part_kept section (entries list) = flat_map (entry_kept section) list

-- the words of the title line
pub record TitleSaid : Type 0 where
  pub name : List ℕ
  pub section : List ℕ
  pub date : List ℕ
  pub vendor : List ℕ
  pub title : List ℕ

abbrev pub title_words : TitleSaid → List (List ℕ)
title_words title = title.name ∷ title.section ∷ title.date ∷ title.vendor ∷ title.title ∷ []

abbrev pub page_kept : TitleSaid → List PartSaid → Sheet
page_kept title parts = record {
  title = map (in_font Roman) (title_words title);
  said = flat_map (part_kept title.section) parts;
}
