-- What HTML and markdown show of a document, in order: each shown text with its chunks, each hidden text, and each
-- mark. In brief the last chunk of a console text may be the Paragraph that hides what follows; HTML and markdown leave
-- that Paragraph out.
use Rattle.std.specs.Prelude.{if◌then◌else◌, ◌&&◌, ◌++◌, ◌∷◌}
use Rattle.bpaf_doc.specs.Words.{Bool, not, List, [], map, take, false, flat_map, before_first, Style, Block, Part, Text, Start as PartStart, End as PartEnd, Chunk, is_paragraph, numbered, is_hidden, shown_chunks}

-- the start of a shown text, a chunk of it, its end, a hidden text, or a mark
pub data Fragment : Type 0 where
  TextStart : Style → Fragment
  Shown : Style → Chunk → Fragment
  TextEnd : Style → Fragment
  Hidden : Fragment
  Start : Block → Fragment
  End : Block → Fragment

-- a shown chunk that passes a test
abbrev pub shows : (Chunk → Bool) → Fragment → Bool
shows passes (Shown style chunk) = passes chunk
shows passes _ = false

-- there is a first one, and it passes the test
abbrev pub first_is : (Fragment → Bool) → List Fragment → Bool
first_is test [] = false
first_is test (fragment ∷ fragments) = test fragment

-- in brief without the Paragraph at the end
abbrev pub visible : Bool → List Chunk → List Chunk
visible full chunks = if full then chunks else before_first is_paragraph chunks

-- the fragments of a part after these parts
abbrev pub part_fragments : Bool → List Part → Part → List Fragment
part_fragments full before (Text bytes style) =
    if not full && is_hidden before then Hidden ∷ []
    else TextStart style ∷ (map (Shown style) (visible full (shown_chunks full before bytes)) ++ TextEnd style ∷ [])
part_fragments full before (PartStart b) = Start b ∷ []
part_fragments full before (PartEnd b) = End b ∷ []

-- the fragments of a document, in full or in brief
-- e.g. shown_fragments false (Words (codes "a\n\nb") Text ∷ Words (codes "c") Text ∷ [])
--     ≡ TextStart Text ∷ Shown Text (Raw (codes "a") 1) ∷ TextEnd Text ∷ Hidden ∷ []
abbrev pub shown_fragments : Bool → List Part → List Fragment
shown_fragments full document = flat_map (λ (k, part). part_fragments full (take k document) part) (numbered document)
