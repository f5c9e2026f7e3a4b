-- References to the pages above and below a level.
use Rattle.std.specs.Prelude.{ℕ, List, [], ◌∷◌, ◌++◌, codes, map}
use Rattle.page_model.specs.Content.{page, BlockSaid, paragraph}
use Rattle.description_pages.specs.Levels.{PageSaid}
use Rattle.description_usage.specs.Lines.{joined}

-- a paragraph, with a comma and a blank between two
abbrev pub reference_blocks : (names : List (List ℕ)) → List BlockSaid
reference_blocks [] = []
reference_blocks (name ∷ names) = paragraph (joined (codes ", ") (map (λ n. page n ∷ []) (name ∷ names)) ∷ []) ∷ []

-- a page with them under its last title
abbrev pub with_references : PageSaid → PageSaid
with_references said = record said { see_also = said.see_also ++ reference_blocks said.references }
