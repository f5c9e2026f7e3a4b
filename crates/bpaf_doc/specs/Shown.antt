-- What is shown of a document: all of it in full, and less in brief.
use Rattle.std.specs.Prelude.{ℕ, ◌+◌, Bool, true, false, ◌&&◌, ◌||◌, List, [], ◌∷◌, map, take, count_by, flat_map, nat_le, if◌then◌else◌}
use Rattle.std.specs.List.{list_any, list_all, enumerate_from, position_or_len}
use Rattle.bpaf_roff.specs.Bytes as byte
use Rattle.bpaf_doc.specs.declared.buffer.Block.{Block, TheVariants.InlineBlock, TheVariants.TermRef}
use Rattle.bpaf_doc.specs.Buffer.Parts.{Part, Text, Start, End, is_start_of, is_end_of}
use Rattle.bpaf_doc.specs.Splitter.Chunks.{Chunk, chunks_of, chunk_ink, is_paragraph}

-- the parts of a document in order, each with its place
abbrev pub numbered : List Part → List (ℕ × Part)
numbered document = enumerate_from 0 document

-- the fronts of a list, from the empty one to the whole
abbrev pub fronts : {A : Type 0} → List A → List (List A)
fronts [] = [] ∷ []
fronts (x ∷ xs) = [] ∷ map (λ front. x ∷ front) (fronts xs)

-- what was open before these is open at each of them: in no front do more of them close than open
abbrev pub stays_open : {A : Type 0} → (A → Bool) → (A → Bool) → List A → Bool
stays_open opens closes xs = list_all (λ front. nat_le (count_by closes front) (count_by opens front)) (fronts xs)

-- the block InlineBlock, which hiding counts
abbrev pub is_inline : Block → Bool
is_inline InlineBlock = true
is_inline _ = false

-- a text with a Paragraph chunk
abbrev pub breaks_off : Part → Bool
breaks_off (Text bytes style) = list_any is_paragraph (chunks_of bytes)
breaks_off _ = false

-- Whether brief hides a text after these parts: one of them is a text with a Paragraph, and the inline block around it,
-- or else the document, is still open. (What hid that text, if anything, hides this one too.)
abbrev pub is_hidden : List Part → Bool
is_hidden [] = false
is_hidden (part ∷ between) =
    (breaks_off part && stays_open (is_start_of is_inline) (is_end_of is_inline) between) || is_hidden between

-- the chunks up to and with the first Paragraph
abbrev pub through_paragraph : List Chunk → List Chunk
through_paragraph chunks = take (position_or_len is_paragraph chunks + 1) chunks

-- The chunks that are shown of a text after these parts. In brief the Paragraph that hides what follows is the last of
-- them: a console takes it as a break. (HTML and markdown leave it out: `Fragments`.)
-- e.g. shown_chunks false [] (codes "a\n\nb") ≡ Raw (codes "a") 1 ∷ Paragraph ∷ []
abbrev pub shown_chunks : Bool → List Part → List ℕ → List Chunk
shown_chunks full before bytes =
    if full then chunks_of bytes else if is_hidden before then [] else through_paragraph (chunks_of bytes)

-- the block of TermRef marks
abbrev pub is_term_ref : Block → Bool
is_term_ref TermRef = true
is_term_ref _ = false

-- the backquote that a TermRef mark writes
abbrev pub mark_bytes : Block → List ℕ
mark_bytes b = if is_term_ref b then byte.backquote ∷ [] else []

-- the ink of a part after these parts
abbrev pub shown_part_ink : Bool → List Part → Part → List ℕ
shown_part_ink full before (Text bytes style) = flat_map chunk_ink (shown_chunks full before bytes)
shown_part_ink full before (Start b) = mark_bytes b
shown_part_ink full before (End b) = mark_bytes b

-- the ink of what is shown, with a backquote at each TermRef mark
-- e.g. console_ink true (inside block.TermRef (words (codes "b c"))) ≡ codes "`bc`"
abbrev pub console_ink : Bool → List Part → List ℕ
console_ink full document = flat_map (λ (k, part). shown_part_ink full (take k document) part) (numbered document)
