-- What the law of pages refuses: an escape character between the name of a page
-- and its summary, which no other clause speaks of.
use Rattle.std.proofs.Common.{◌≡◌, ℕ, true, List, [], ◌∷◌, codes}
use Rattle.std.specs.List.{list_all}
use Rattle.std.proofs.lemmas.Bool.{and_parts, false≢true}
use Rattle.page_model.specs.Content.{Piece, words, Line, block, paragraph}
use Rattle.page_model.specs.Permitted.{are_permitted, is_permitted_line, is_permitted_part, is_permitted_piece}

-- as `name_line` of the manual page, except the first byte of what stands between
abbrev escaped_line : (name : List ℕ) → Piece → Line → Line
escaped_line name piece line = words name ∷ words (27 ∷ codes "- ") ∷ piece ∷ line

refused : (name : List ℕ) (piece : Piece) (line : Line) → is_permitted_part (block (paragraph (escaped_line name piece line ∷ []))) ≡ true → ⊥
refused name piece line h =
    let shown = and_parts (is_permitted_line (escaped_line name piece line)) true h in
    let after : Line = words (27 ∷ codes "- ") ∷ piece ∷ line in
    let further = and_parts (are_permitted name) (list_all is_permitted_piece after) shown.0 in
    let between = and_parts (are_permitted (27 ∷ codes "- ")) (list_all is_permitted_piece (piece ∷ line)) further.1 in
    false≢true between.0
