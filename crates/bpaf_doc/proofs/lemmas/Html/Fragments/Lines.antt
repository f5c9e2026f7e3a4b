-- No chunk of a text has a newline in it, so no fragment of a document has.
use Rattle.std.specs.Prelude.{◌∷◌, ◌≡◌}
use Rattle.bpaf_doc.proofs.lemmas.Html.Words.{arith, ℕ, suc, Bool, true, List, [], take, refl, ap, list_all, list_all-append, list_all-map, and_parts, and_from, Part, Chunk, Raw, Paragraph, LineBreak, is_line_byte, chunks_of, Fragment, Shown, walk, depth_after}
use Rattle.bpaf_doc.proofs.lemmas.Splitter.Pieces.{Pieces, none, piece, pieces}
use Rattle.bpaf_doc.proofs.lemmas.Splitter.Spelling.{spells_its_chunks}

-- no newline in it
abbrev pub chunk_is_line : Chunk → Bool
chunk_is_line (Raw bytes weight) = list_all is_line_byte bytes
chunk_is_line Paragraph = true
chunk_is_line LineBreak = true

abbrev pub fragment_is_line : Fragment → Bool
fragment_is_line (Shown style chunk) = chunk_is_line chunk
fragment_is_line _ = true

lines_of_pieces : {chunks : List Chunk} {text : List ℕ} → Pieces chunks text → list_all chunk_is_line chunks ≡ true
lines_of_pieces (none ec et) = ap (list_all chunk_is_line) ec
lines_of_pieces (piece gap there after rest chunk others ec et g h t good w s) = grind (arith, lines_of_pieces s, and_from)

pub lines_of : (text : List ℕ) → list_all chunk_is_line (chunks_of text) ≡ true
lines_of text = lines_of_pieces (pieces (spells_its_chunks text))

list_all-take : {X : Type 0} (p : X → Bool) (n : ℕ) (xs : List X) → list_all p xs ≡ true → list_all p (take n xs) ≡ true
list_all-take p (suc n) (x ∷ xs) h = grind (arith, list_all-take p n xs, and_parts, and_from)
list_all-take p y z h = grind arith

-- no fragment of a document has a newline in it
pub walk_lines : (full : Bool) (depth : ℕ) (parts : List Part) → list_all fragment_is_line (walk full depth parts) ≡ true
walk_lines full depth [] = refl
walk_lines full depth (part ∷ parts) = grind (arith, walk_lines full (depth_after full part depth) parts, list_all-append, and_from, list_all-map, list_all-take, lines_of)
