-- A document is the list of its parts.
use Rattle.std.specs.Prelude.{◌≡◌, ℕ, Bool, false, List, [], ◌∷◌, ◌++◌, All, filter, flat_map, chars}
use Rattle.std.specs.Char.{is_not_whitespace}
use Rattle.std.specs.Str.{IsUtf8}
use Rattle.bpaf_doc.specs.declared.buffer.{Style.Style, Block.Block}

-- a styled text by its bytes, or the start or the end of a block
pub data Part : Type 0 where
  Text : List ℕ → Style → Part
  Start : Block → Part
  End : Block → Part

-- nothing; a text; a start, a well-nested list and the end of the same block; two well-nested lists joined
pub data IsWellNested : List Part → Type 0 where
  nothing : {ps : List Part} → ps ≡ [] → IsWellNested ps
  text : {ps : List Part} (bytes : List ℕ) (style : Style) → ps ≡ Text bytes style ∷ [] → IsWellNested ps
  enclosed : {ps : List Part} (b : Block) (inner : List Part) → ps ≡ Start b ∷ (inner ++ End b ∷ [])
      → IsWellNested inner → IsWellNested ps
  joined : {ps : List Part} (front back : List Part) → ps ≡ front ++ back → IsWellNested front → IsWellNested back
      → IsWellNested ps

-- a start, an end, or a mark of either kind, of a block that passes the test
abbrev pub is_start_of : (Block → Bool) → Part → Bool
is_start_of test (Start b) = test b
is_start_of test _ = false

abbrev pub is_end_of : (Block → Bool) → Part → Bool
is_end_of test (End b) = test b
is_end_of test _ = false

abbrev pub is_mark_of : (Block → Bool) → Part → Bool
is_mark_of test (Start b) = test b
is_mark_of test (End b) = test b
is_mark_of test _ = false

-- the characters of a text that are not White_Space, in order
abbrev pub ink : List ℕ → List ℕ
ink bytes = filter is_not_whitespace (chars bytes)

abbrev pub part_ink : Part → List ℕ
part_ink (Text bytes style) = ink bytes
part_ink _ = []

-- the bytes of a text; a mark has none
abbrev pub part_bytes : Part → List ℕ
part_bytes (Text bytes style) = bytes
part_bytes _ = []

-- the texts of a document, joined
abbrev pub document_bytes : List Part → List ℕ
document_bytes = flat_map part_bytes

-- the texts of a document are UTF-8
abbrev pub HasUtf8Texts : List Part → Type 0
HasUtf8Texts = All (λ part. IsUtf8 (part_bytes part))

-- the ink of the texts of a document, joined
abbrev pub document_ink : List Part → List ℕ
document_ink = flat_map part_ink
