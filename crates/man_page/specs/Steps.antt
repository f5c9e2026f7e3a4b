-- What the steps of the code write.
use Rattle.std.specs.Prelude.{ℕ, List, ◌++◌, codes, true, false, if◌then◌else◌}
use Rattle.page_model.specs.Content.{Line, BlockSaid, paragraph, code, bullets}
use Rattle.man_page.specs.declared.escape.Role.TheVariants.{Text, Item, Title}
use Rattle.man_page.specs.declared.escape.Role.{Role}
use Rattle.man_page.specs.Exact.{inner_text, input_line, is_spaced_text, lines_text, pieces_text, word_text}

-- a line after the first of a paragraph, and a term after the first of an entry
abbrev pub further_line : List ℕ → Line → List ℕ
further_line section line = codes ".br\n" ++ input_line (pieces_text Text true section line)

abbrev pub further_term : List ℕ → Line → List ℕ
further_term section term = codes ", " ++ pieces_text Text false section term

-- the first block of a body
abbrev pub first_text : List ℕ → BlockSaid → List ℕ
first_text section (paragraph lines) = lines_text section lines
first_text section (code lines) = inner_text section (code lines)
first_text section (bullets items) = inner_text section (bullets items)

abbrev pub title_role : List ℕ → Role
title_role title = if is_spaced_text true title then Text else Item

-- a word of the title line after a blank
abbrev pub title_word : List ℕ → List ℕ
title_word word = codes " " ++ word_text Title word
