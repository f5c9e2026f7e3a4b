-- Pieces that are written into a document, and what a call that may fail leaves there.
use Rattle.std.specs.Prelude.{◌++◌, ◌∷◌, ◌≡◌}
use Rattle.bpaf_items.specs.Words.{ℕ, true, List, [], Result, OnOk, encode_utf8, Bor, Part, Write, start, end, text, literal, doc_writes, em_doc_writes, with_writes, name_of, tree_of, metavar_writes, usage_writes}
use Rattle.bpaf_doc.specs.Buffer.Growth.{Grows}
use Rattle.bpaf_items.specs.Page.EntryWrites.{names_writes}
use Rattle.bpaf_items.specs.declared.meta_help.pieces.Piece.{Piece}
use Rattle.bpaf_items.specs.declared.meta_help.pieces.Piece.TheVariants as piece

-- texts as one
abbrev pub joined : List (Bor (List ℕ)) → List ℕ
joined [] = []
joined (t ∷ []) = t.now
joined (t ∷ u ∷ ts) = t.now ++ joined (u ∷ ts)

-- what a piece writes
abbrev pub piece_writes : {A : Type 0} → Piece A → List Write
piece_writes (piece.Start b) = start b ∷ []
piece_writes (piece.End b) = end b ∷ []
piece_writes (piece.Text bytes how) = text bytes.now how ∷ []
piece_writes (piece.Character c) = literal (encode_utf8 c) ∷ []
piece_writes (piece.Joined texts how) = text (joined texts.now) how ∷ []
piece_writes (piece.Names n) = names_writes (name_of n)
piece_writes (piece.Value m) = metavar_writes m.0.now
piece_writes (piece.Document d) = doc_writes d.now
piece_writes (piece.Title d) = em_doc_writes d.now
piece_writes (piece.Usage t) = usage_writes true (tree_of t.now)

-- and pieces one after another
abbrev pub pieces_write : {A : Type 0} → List (Piece A) → List Write
pieces_write [] = []
pieces_write (p ∷ []) = piece_writes p
pieces_write (p ∷ q ∷ ps) = piece_writes p ++ pieces_write (q ∷ ps)

-- the document grew by some writes, and on success by these
abbrev pub Leaves : {T E : Type 0} → Result T E → List Part → List Part → List Write → Type 0
Leaves result before now writes = Grows before now × OnOk result (now ≡ with_writes before writes)
