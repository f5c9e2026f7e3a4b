-- A help in one line: the first paragraph of a text.
use Rattle.std.specs.Prelude.{ℕ, List, [], ◌∷◌, ◌++◌, flat_map, Option, Some, None, unwrap_or, option_map}
use Rattle.page_model.specs.Content.{Piece, words, literal, value, link, page, Line}
use Rattle.description_texts.specs.Texts.{first_paragraph, text_blocks}

abbrev pub piece_text : Piece → List ℕ
piece_text (words text) = text
piece_text (literal text) = text
piece_text (value text) = text
piece_text (link text) = text
piece_text (page text) = text

abbrev pub line_text : Line → List ℕ
line_text line = flat_map piece_text line

-- its lines, with a blank between two
abbrev pub after_blank : Line → List ℕ
after_blank line = 32 ∷ line_text line

abbrev pub paragraph_text : List Line → List ℕ
paragraph_text [] = []
paragraph_text (line ∷ lines) = line_text line ++ flat_map after_blank lines

-- the first paragraph of a text, if there is one
abbrev pub paragraph_in : Option (List ℕ) → Option (List ℕ)
paragraph_in None = None
paragraph_in (Some text) = option_map paragraph_text (first_paragraph (text_blocks text))

abbrev pub help_text : Option (List ℕ) → List ℕ
help_text help = unwrap_or (paragraph_in help) []

-- of a command: that of its help, otherwise of what is said about it
abbrev pub command_help : (help about : Option (List ℕ)) → List ℕ
command_help help about = unwrap_or (paragraph_in help) (help_text about)
