-- Blocks at the margin, as lines that each end with a newline.
use Rattle.std.specs.Prelude.{ℕ, ◌-◌, List, [], ◌∷◌, ◌++◌, flat_map, codes}
use Rattle.page_model.specs.Content.{Line, BlockSaid, paragraph, code, bullets}
use Rattle.console_page.specs.declared.texts.Role.TheVariants.{Code}
use Rattle.console_page.specs.Texts.{shown, line_text}
use Rattle.console_page.specs.Lines.{prefixed, laid_out}

-- the text of lines with a line break between two, as a document has it
abbrev pub further_line : Line → List ℕ
further_line line = codes "\n " ++ line_text line

abbrev pub broken_lines : List Line → List ℕ
broken_lines [] = []
broken_lines (line ∷ lines) = line_text line ++ flat_map further_line lines

-- a paragraph is laid out by itself
abbrev pub paragraph_text : ℕ → List Line → List ℕ
paragraph_text width lines = laid_out width (broken_lines lines) ++ codes "\n"

abbrev pub item_text : ℕ → List Line → List ℕ
item_text width item = prefixed (codes "- ") (codes "  ") (paragraph_text (width - 2) item)

-- a line of code as it stands
abbrev pub code_line : List ℕ → List ℕ
code_line line = shown Code line ++ codes "\n"

-- code is indented by four columns
abbrev pub code_text : List (List ℕ) → List ℕ
code_text lines = prefixed (codes "    ") (codes "    ") (flat_map code_line lines)

abbrev pub block_text : ℕ → BlockSaid → List ℕ
block_text width (paragraph lines) = paragraph_text width lines
block_text width (code lines) = code_text lines
block_text width (bullets items) = flat_map (item_text width) items

-- a block after another, below an empty line
abbrev pub further_block : ℕ → BlockSaid → List ℕ
further_block width block = codes "\n" ++ block_text width block

abbrev pub blocks_text : ℕ → List BlockSaid → List ℕ
blocks_text width [] = []
blocks_text width (block ∷ blocks) = block_text width block ++ flat_map (further_block width) blocks
