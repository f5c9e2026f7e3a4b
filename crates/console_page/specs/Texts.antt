-- Texts of a page as a console shows them: letters alone.
use Rattle.std.specs.Prelude.{ℕ, ◌==◌, List, [], ◌∷◌, flat_map, codes, if◌then◌else◌}
use Rattle.page_model.specs.Content.{Piece, words, literal, value, link, page, Line}
use Rattle.console_page.specs.declared.texts.Role.{Role}
use Rattle.console_page.specs.declared.texts.Role.TheVariants.{Text, Code}

-- A newline is a blank, and so is a tab except in code.
abbrev pub tab_text : Role → List ℕ
tab_text Text = codes " "
tab_text Code = 9 ∷ []

abbrev pub shown_byte : Role → ℕ → List ℕ
shown_byte role b = if b == 10 then codes " " else if b == 9 then tab_text role else b ∷ []

abbrev pub shown : Role → List ℕ → List ℕ
shown role text = flat_map (shown_byte role) text

abbrev pub piece_text : Piece → List ℕ
piece_text (words text) = shown Text text
piece_text (literal text) = shown Text text
piece_text (value text) = shown Text text
piece_text (link text) = shown Text text
piece_text (page name) = shown Text name

abbrev pub line_text : Line → List ℕ
line_text line = flat_map piece_text line
