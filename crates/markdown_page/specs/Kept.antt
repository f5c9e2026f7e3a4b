-- What markdown keeps of a page: texts, which of them are code, and where links lead; white space as blanks.
use Rattle.std.specs.Prelude.{ℕ, suc, ◌/◌, ◌%◌, Bool, not, ◌&&◌, ◌||◌, ◌==◌, nat_lt, false, true, List, [], ◌∷◌, ◌++◌, get_or, map, flat_map, Option, Some, None, codes, if◌then◌else◌}
use Rattle.std.specs.List.{list_all}
use Rattle.page_model.specs.declared.parts.Rank.{Rank}
use Rattle.page_model.specs.declared.parts.Rank.TheVariants.{Page, Section, Subsection}
use Rattle.page_model.specs.Content.{Piece, words, literal, value, link, page, Line, BlockSaid, paragraph, code, bullets, TargetSaid, to_page, to_heading, EntrySaid, FormSaid, PartSaid, heading, usage, block, entries}
use Rattle.markdown_page.specs.Bytes.{begins_with, holds_definition, is_word}
use Rattle.markdown_page.specs.Slugs.{slug}
use Rattle.markdown_page.specs.Sheet.{Glyph, Said, Heading, Item, Paragraph, Code}

-- a newline and a tab are a blank; in code that stands by itself a tab stays
abbrev pub shown_byte : ℕ → ℕ
shown_byte b = if b == 9 || b == 10 then 32 else b

abbrev pub code_byte : ℕ → ℕ
code_byte b = if b == 10 then 32 else b

abbrev pub plain : List ℕ → List Glyph
plain text = map (λ b. record { byte = shown_byte b; is_code = false; address = None }) text

abbrev pub spanned : List ℕ → List Glyph
spanned text = map (λ b. record { byte = shown_byte b; is_code = true; address = None }) text

abbrev pub leading_to : List ℕ → List Glyph → List Glyph
leading_to address glyphs = map {A = Glyph} (λ glyph. record glyph { address = Some address }) glyphs

-- an empty line is a blank
abbrev pub seen : List Glyph → List Glyph
seen [] = plain (32 ∷ [])
seen (glyph ∷ glyphs) = glyph ∷ glyphs

-- ---- addresses

-- an address in the web, without blanks, `<` and `>`, and without `{`, which a site generator may take for its own
abbrev pub is_link_byte : ℕ → Bool
is_link_byte b = nat_lt 32 b && not (b == 60 || b == 62 || b == 123 || b == 127)

abbrev pub is_link : List ℕ → Bool
is_link text = (begins_with (codes "http://") text || begins_with (codes "https://") text) && list_all is_link_byte text

-- the page of a name, beside this one: the name and `.md`, in which only unreserved bytes stay as they are
abbrev pub is_unreserved : ℕ → Bool
is_unreserved b = is_word b || (b == 45 || b == 46 || b == 95 || b == 126)

abbrev pub hex_digit : ℕ → ℕ
hex_digit n = get_or (codes "0123456789ABCDEF") n 48

abbrev pub encoded_byte : ℕ → List ℕ
encoded_byte b = if is_unreserved b then b ∷ [] else 37 ∷ hex_digit (b / 16) ∷ hex_digit (b % 16) ∷ []

abbrev pub page_address : List ℕ → List ℕ
page_address name = flat_map encoded_byte name ++ codes ".md"

-- a heading of this page, by the id that sites give to it
abbrev pub heading_address : List ℕ → List ℕ
heading_address title = codes "#" ++ flat_map encoded_byte (slug title)

abbrev pub target_address : TargetSaid → List ℕ
target_address (to_page name) = page_address name
target_address (to_heading title) = heading_address title

-- ---- lines

-- a text that is not an address in the web is not a link
abbrev pub piece_shown : Piece → List Glyph
piece_shown (words text) = plain text
piece_shown (literal text) = spanned text
piece_shown (value text) = plain text
piece_shown (link text) = if is_link text then leading_to text (plain text) else plain text
piece_shown (page name) = leading_to (page_address name) (plain name)

abbrev pub line_shown : Line → List Glyph
line_shown line = flat_map piece_shown line

abbrev pub line_kept : Line → List Glyph
line_kept line = seen (line_shown line)

-- the text of a line
abbrev pub piece_bytes : Piece → List ℕ
piece_bytes (words text) = text
piece_bytes (literal text) = text
piece_bytes (value text) = text
piece_bytes (link text) = text
piece_bytes (page name) = name

abbrev pub line_bytes : Line → List ℕ
line_bytes line = flat_map piece_bytes line

-- ---- blocks, nested in that many items

-- a paragraph without lines is nothing, and so is an item without them
abbrev pub paragraph_kept : ℕ → List Line → List Said
paragraph_kept level [] = []
paragraph_kept level (line ∷ lines) = Paragraph level (map line_kept (line ∷ lines)) ∷ []

abbrev pub item_kept : ℕ → List Line → List Said
item_kept level [] = []
item_kept level (line ∷ lines) = Item level ∷ Paragraph (suc level) (map line_kept (line ∷ lines)) ∷ []

abbrev pub code_kept : ℕ → List (List ℕ) → List Said
code_kept level lines = Code level (map (map code_byte) lines) ∷ []

abbrev pub block_kept : ℕ → BlockSaid → List Said
block_kept level (paragraph lines) = paragraph_kept level lines
block_kept level (code lines) = code_kept level lines
block_kept level (bullets items) = flat_map (item_kept level) items

-- ---- entries

-- a term is code; the first one leads where the entry does, unless it might define a link
abbrev pub first_term : Option TargetSaid → List ℕ → List Glyph
first_term None text = spanned text
first_term (Some target) text =
    if holds_definition text then spanned text else leading_to (target_address target) (spanned text)

abbrev pub further_term : Line → List Glyph
further_term term = plain (codes ", ") ++ spanned (line_bytes term)

abbrev pub terms_shown : Option TargetSaid → List Line → List Glyph
terms_shown target [] = []
terms_shown target (term ∷ terms) = first_term target (line_bytes term) ++ flat_map further_term terms

-- a dash between blanks
abbrev pub dash : List ℕ
dash = 32 ∷ 226 ∷ 128 ∷ 148 ∷ 32 ∷ []

-- an entry is an item, whose first paragraph follows its terms
abbrev pub body_kept : List Glyph → List BlockSaid → List Said
body_kept terms [] = Paragraph 1 (seen terms ∷ []) ∷ []
body_kept terms (paragraph (line ∷ lines) ∷ blocks) =
    Paragraph 1 (seen (terms ++ (plain dash ++ line_shown line)) ∷ map line_kept lines) ∷ flat_map (block_kept 1) blocks
body_kept terms (paragraph [] ∷ blocks) = Paragraph 1 (seen terms ∷ []) ∷ flat_map (block_kept 1) blocks
body_kept terms (code lines ∷ blocks) = Paragraph 1 (seen terms ∷ []) ∷ flat_map (block_kept 1) (code lines ∷ blocks)
body_kept terms (bullets items ∷ blocks) =
    Paragraph 1 (seen terms ∷ []) ∷ flat_map (block_kept 1) (bullets items ∷ blocks)

abbrev pub entry_kept : EntrySaid → List Said
entry_kept entry = Item 0 ∷ body_kept (terms_shown entry.target entry.terms) entry.body

-- ---- the page

-- a form of a usage is a line of code: its name and its items, with a blank between two
abbrev pub item_bytes : Line → List ℕ
item_bytes item = codes " " ++ line_bytes item

abbrev pub form_bytes : FormSaid → List ℕ
form_bytes form = form.name ++ flat_map item_bytes form.items

abbrev pub rank_kept : Rank → ℕ
rank_kept Page = 1
rank_kept Section = 2
rank_kept Subsection = 3

abbrev pub part_kept : PartSaid → List Said
part_kept (heading rank title) = Heading (rank_kept rank) (seen (plain title)) ∷ []
part_kept (usage forms) = code_kept 0 (map form_bytes forms)
part_kept (block shown) = block_kept 0 shown
part_kept (entries list) = flat_map entry_kept list

abbrev pub page_kept : List ℕ → List PartSaid → List Said
page_kept title parts = Heading 1 (seen (plain title)) ∷ flat_map part_kept parts
