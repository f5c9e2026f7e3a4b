-- What the chunks of a text promise.
use Rattle.std.specs.Prelude.{◌==◌, ◌||◌, ◌∷◌, ◌≡◌, ◌≤◌, ◌⊎◌}
use Rattle.bpaf_doc.specs.Words.{ℕ, Bool, IsTrue, ⊤, List, [], codes, length, drop, slice_range, All, flat_map, list_all, IsUtf8, ink, Chunk, Raw, Paragraph, LineBreak, Plain, Spells, chunk_ink, chunks_of, IsLine, newline, blank}

-- the text is spelled by its chunks, and by no other list
pub record IsSpelledOnce (text : List ℕ) : Type 0 where
  pub spelled : Spells Plain (chunks_of text) text
  pub only : (chunks : List Chunk) → Spells Plain chunks text → chunks ≡ chunks_of text

-- no newline in the chunk
abbrev pub IsOneLine : Chunk → Type 0
IsOneLine (Raw bytes weight) = IsLine bytes
IsOneLine _ = ⊤

-- the bytes of the chunk are UTF-8
abbrev pub IsText : Chunk → Type 0
IsText (Raw bytes weight) = IsUtf8 bytes
IsText _ = ⊤

-- ---- where the chunks stand in the text

-- a newline or a blank
abbrev pub is_gap_byte : ℕ → Bool
is_gap_byte b = (b == newline) || (b == blank)

-- only newlines and blanks
abbrev pub IsGap : List ℕ → Type 0
IsGap bytes = IsTrue (list_all is_gap_byte bytes)

-- The part of the text that a chunk stands for: a Raw for its own bytes, or, if it is a blank, for a newline; a break
-- for its newlines and its blank.
abbrev pub StandsFor : Chunk → List ℕ → Type 0
StandsFor (Raw bytes weight) there = (there ≡ bytes) ⊎ ((there ≡ codes "\n") × (bytes ≡ codes " ") × (weight ≡ 1))
StandsFor Paragraph there = (there ≡ codes "\n\n") ⊎ (there ≡ codes "\n")
StandsFor LineBreak there = there ≡ codes "\n "

-- The chunk's place in the text is from start to end. It begins at this place or after it, with a gap between.
pub record IsPlace (text : List ℕ) (from : ℕ) (chunk : Chunk) (start end : ℕ) : Type 0 where
  pub after : from ≤ start
  pub forward : start ≤ end
  pub within : end ≤ length text
  pub gap : IsGap (slice_range text from start)
  pub stands : StandsFor chunk (slice_range text start end)

-- The chunks have places in the text from this place on, each after the one before it, and the rest of the text is
-- gaps.
abbrev pub StandInOrder : List ℕ → ℕ → List Chunk → Type 0
StandInOrder text from [] = IsGap (drop from text)
StandInOrder text from (chunk ∷ chunks) =
    (start : ℕ) × (end : ℕ) × IsPlace text from chunk start end × StandInOrder text end chunks

-- ---- the laws

-- each text is spelled by exactly one list of chunks
abbrev pub EachTextIsSpelledOnce : Type 0
EachTextIsSpelledOnce = (text : List ℕ) → IsSpelledOnce text

-- together the chunks of a UTF-8 text have its ink, in order
abbrev pub ChunksKeepInk : Type 0
ChunksKeepInk = (text : List ℕ) → IsUtf8 text → flat_map chunk_ink (chunks_of text) ≡ ink text

-- no chunk has a newline in it
abbrev pub ChunksAreLines : Type 0
ChunksAreLines = (text : List ℕ) → All IsOneLine (chunks_of text)

-- the chunks have their places in the text, one after another
abbrev pub ChunksStandInOrder : Type 0
ChunksStandInOrder = (text : List ℕ) → StandInOrder text 0 (chunks_of text)

-- the chunks of a UTF-8 text are UTF-8
abbrev pub ChunksAreTexts : Type 0
ChunksAreTexts = (text : List ℕ) → IsUtf8 text → All IsText (chunks_of text)
