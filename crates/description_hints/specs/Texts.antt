-- The parts of a text that warnings look at: the pieces of its lines, and its first paragraph.
use Rattle.std.specs.Prelude.{ℕ, Bool, false, ◌&&◌, ◌||◌, ◌==◌, List, [], ◌∷◌, ◌++◌, codes, drop, take, flat_map, Option, Some, None}
use Rattle.std.specs.Char.{is_ascii_lowercase, is_ascii_uppercase}
use Rattle.std.specs.List.{list_all, starts_with}
use Rattle.page_model.specs.Content.{Piece, words, literal, value, link, page, Line, BlockSaid, paragraph, code, bullets}
use Rattle.description_texts.specs.Texts.{text_blocks}
use Rattle.description_hints.specs.Names.{begins}

-- the blocks of a text, if there is one
abbrev pub blocks_of : Option (List ℕ) → List BlockSaid
blocks_of None = []
blocks_of (Some text) = text_blocks text

-- the pieces of paragraphs and of items, in order; code has none
abbrev pub pieces_of_lines : List Line → List Piece
pieces_of_lines lines = flat_map (λ line. line) lines

abbrev pub pieces_of_block : BlockSaid → List Piece
pieces_of_block (paragraph lines) = pieces_of_lines lines
pieces_of_block (code lines) = []
pieces_of_block (bullets items) = flat_map pieces_of_lines items

abbrev pub pieces_of : List BlockSaid → List Piece
pieces_of blocks = flat_map pieces_of_block blocks

-- ---- a paragraph as one text

abbrev pub piece_text : Piece → List ℕ
piece_text (words text) = text
piece_text (literal text) = text
piece_text (value text) = text
piece_text (link text) = text
piece_text (page text) = text

-- the texts of its pieces
abbrev pub line_text : Line → List ℕ
line_text line = flat_map piece_text line

-- those of its lines, with a blank between two
abbrev pub after_blank : Line → List ℕ
after_blank line = 32 ∷ line_text line

abbrev pub paragraph_text : List Line → List ℕ
paragraph_text [] = []
paragraph_text (line ∷ lines) = line_text line ++ flat_map after_blank lines

-- ---- sentences

-- a text begins with two small letters, a full stop, a blank and a capital
abbrev pub begins_turn : List ℕ → Bool
begins_turn text =
    list_all is_ascii_lowercase (take 2 text) && starts_with ◌==◌ (drop 2 text) (codes ". ")
    && begins is_ascii_uppercase (drop 4 text)

-- it does so at some place, where another sentence begins
abbrev pub has_turn : List ℕ → Bool
has_turn [] = false
has_turn (b ∷ text) = begins_turn (b ∷ text) || has_turn text
