-- What a text is cut into: words, blanks, code lines, and the breaks between them.
use Rattle.std.specs.Prelude.{if◌then◌else◌, ◌≡◌, ◌≢◌, ℕ, zero, suc, ◌==◌, Bool, true, false, not, ◌&&◌, ◌||◌, IsTrue, ◌⊎◌, ⊤, List, [], ◌∷◌, ◌++◌, length, drop, take_while, nat_eq, chars, codes}
use Rattle.std.specs.List.{starts_with, list_all, prefix_len}
use Rattle.unicode_width.specs.Width.{str_width}
use Rattle.bpaf_roff.specs.Bytes as byte
use Rattle.bpaf_doc.specs.Buffer.Parts.{ink}

-- a slice of the text with its weight, a paragraph break, or a line break
pub data Chunk : Type 0 where
  Raw : List ℕ → ℕ → Chunk
  Paragraph : Chunk
  LineBreak : Chunk

-- the columns that a text takes in a terminal
abbrev pub columns : List ℕ → ℕ
columns bytes = str_width false (chars bytes)

-- the weights of a code line and of a line of a fence
abbrev pub code_weight : ℕ
code_weight = 1_000_000

abbrev pub fence_weight : ℕ
fence_weight = 1_000_001

-- a Raw that is neither a code line nor a fence line, by its weight
abbrev pub is_ordinary : Chunk → Bool
is_ordinary (Raw bytes weight) = not (weight == code_weight) && not (weight == fence_weight)
is_ordinary _ = false

-- the characters of a chunk that are not White_Space
abbrev pub chunk_ink : Chunk → List ℕ
chunk_ink (Raw bytes weight) = ink bytes
chunk_ink _ = []

-- not empty
abbrev pub has_some : List ℕ → Bool
has_some [] = false
has_some (x ∷ xs) = true

-- a chunk with ink
abbrev pub is_inked : Chunk → Bool
is_inked chunk = has_some (chunk_ink chunk)

-- a slice of the text
abbrev pub is_raw : Chunk → Bool
is_raw (Raw bytes weight) = true
is_raw _ = false

-- a code line, by its weight
abbrev pub is_code_line : Chunk → Bool
is_code_line (Raw bytes weight) = weight == code_weight
is_code_line _ = false

-- a code line or a line of a fence, by its weight
abbrev pub is_whole_line : Chunk → Bool
is_whole_line (Raw bytes weight) = (weight == code_weight) || (weight == fence_weight)
is_whole_line _ = false

-- a line break
abbrev pub is_line_break : Chunk → Bool
is_line_break LineBreak = true
is_line_break _ = false

-- a paragraph break
abbrev pub is_paragraph : Chunk → Bool
is_paragraph Paragraph = true
is_paragraph _ = false

-- ---- lines and words

-- no newline
abbrev pub is_line_byte : ℕ → Bool
is_line_byte b = not (b == byte.newline)

-- no newline and no blank
abbrev pub is_word_byte : ℕ → Bool
is_word_byte b = not (b == byte.newline) && not (b == byte.blank)

-- no newline in it
abbrev pub IsLine : List ℕ → Type 0
IsLine bytes = IsTrue (list_all is_line_byte bytes)

-- not empty, with no newline and no blank in it
abbrev pub IsWord : List ℕ → Type 0
IsWord bytes = (bytes ≢ []) × IsTrue (list_all is_word_byte bytes)

-- what may follow a line: a newline or the end
abbrev pub IsLineEnd : List ℕ → Type 0
IsLineEnd [] = ⊤
IsLineEnd (b ∷ rest) = b ≡ byte.newline

-- what may follow a word: a newline, a blank or the end
abbrev pub IsWordEnd : List ℕ → Type 0
IsWordEnd [] = ⊤
IsWordEnd (b ∷ rest) = (b ≡ byte.newline) ⊎ (b ≡ byte.blank)

-- next is rest without the newline in front, or both are empty
abbrev pub IsPastNewline : List ℕ → List ℕ → Type 0
IsPastNewline rest next = (rest ≡ byte.newline ∷ next) ⊎ ((rest ≡ []) × (next ≡ []))

-- the text begins with this front
abbrev pub starts : List ℕ → List ℕ → Bool
starts text front = starts_with nat_eq text front

-- ---- the chunk spelling

-- A text is read as plain text, or in a fence: from its opening line on, or from a later line on.
pub data Form : Type 0 where
  Plain : Form
  Opening : Form
  Later : Form

-- the chunks, in order, are spelled by the whole text
pub data Spells : Form → List Chunk → List ℕ → Type 0 where
  -- the empty text spells no chunk
  nothing : {form : Form} {chunks : List Chunk} {text : List ℕ} → chunks ≡ [] → text ≡ [] → Spells form chunks text
  -- a newline and four blanks, then a code line up to the next newline or the end
  code_line : {chunks : List Chunk} {text : List ℕ} (line rest : List ℕ) (others : List Chunk)
      → chunks ≡ Raw line code_weight ∷ others → text ≡ codes "\n    " ++ (line ++ rest) → IsLine line → IsLineEnd rest
      → Spells Plain others rest → Spells Plain chunks text
  -- two newlines with three backquotes after them: a fence opens
  fence : {chunks : List Chunk} {text : List ℕ} (rest : List ℕ) (others : List Chunk) → chunks ≡ Paragraph ∷ others
      → text ≡ codes "\n\n" ++ rest → IsTrue (starts rest (codes "```"))
      → Spells Opening others rest → Spells Plain chunks text
  -- a newline with a code line's newline and four blanks after it
  before_code : {chunks : List Chunk} {text : List ℕ} (rest : List ℕ) (others : List Chunk)
      → chunks ≡ Paragraph ∷ others → text ≡ codes "\n" ++ rest → IsTrue (starts rest (codes "\n    "))
      → Spells Plain others rest → Spells Plain chunks text
  -- two newlines with neither after them
  paragraph : {chunks : List Chunk} {text : List ℕ} (rest : List ℕ) (others : List Chunk) → chunks ≡ Paragraph ∷ others
      → text ≡ codes "\n\n" ++ rest → ¬ IsTrue (starts rest (codes "```")) → ¬ IsTrue (starts rest (codes "    "))
      → Spells Plain others rest → Spells Plain chunks text
  -- a newline and a blank, without three more blanks
  line_break : {chunks : List Chunk} {text : List ℕ} (rest : List ℕ) (others : List Chunk) → chunks ≡ LineBreak ∷ others
      → text ≡ codes "\n " ++ rest → ¬ IsTrue (starts rest (codes "   "))
      → Spells Plain others rest → Spells Plain chunks text
  -- a newline without a newline or a blank after it stands for a blank
  newline : {chunks : List Chunk} {text : List ℕ} (rest : List ℕ) (others : List Chunk)
      → chunks ≡ Raw (codes " ") 1 ∷ others
      → text ≡ codes "\n" ++ rest → ¬ IsTrue (starts rest (codes "\n")) → ¬ IsTrue (starts rest (codes " "))
      → Spells Plain others rest → Spells Plain chunks text
  blank : {chunks : List Chunk} {text : List ℕ} (rest : List ℕ) (others : List Chunk)
      → chunks ≡ Raw (codes " ") 1 ∷ others → text ≡ codes " " ++ rest
      → Spells Plain others rest → Spells Plain chunks text
  word : {chunks : List Chunk} {text : List ℕ} (bytes rest : List ℕ) (others : List Chunk)
      → chunks ≡ Raw bytes (columns bytes) ∷ others → text ≡ bytes ++ rest → IsWord bytes → IsWordEnd rest
      → Spells Plain others rest → Spells Plain chunks text
  -- the opening line of a fence, with its newline
  opening : {chunks : List Chunk} {text : List ℕ} (line rest next : List ℕ) (others : List Chunk)
      → chunks ≡ Raw line fence_weight ∷ others
      → text ≡ line ++ rest → text ≢ [] → IsLine line → IsPastNewline rest next
      → Spells Later others next → Spells Opening chunks text
  -- a later line that does not begin with three backquotes
  later : {chunks : List Chunk} {text : List ℕ} (line rest next : List ℕ) (others : List Chunk)
      → chunks ≡ Raw line fence_weight ∷ others
      → text ≡ line ++ rest → text ≢ [] → IsLine line → ¬ IsTrue (starts line (codes "```")) → IsPastNewline rest next
      → Spells Later others next → Spells Later chunks text
  -- a later line that begins with three backquotes closes the fence
  closing : {chunks : List Chunk} {text : List ℕ} (line rest next : List ℕ) (others : List Chunk)
      → chunks ≡ Raw line fence_weight ∷ others
      → text ≡ line ++ rest → IsLine line → IsTrue (starts line (codes "```")) → ¬ IsTrue (starts rest (codes "\n\n"))
      → IsPastNewline rest next → Spells Plain others next → Spells Later chunks text
  -- the same where two newlines follow, which both stay
  closing_paragraph : {chunks : List Chunk} {text : List ℕ} (line rest : List ℕ) (others : List Chunk)
      → chunks ≡ Raw line fence_weight ∷ others
      → text ≡ line ++ rest → IsLine line → IsTrue (starts line (codes "```")) → IsTrue (starts rest (codes "\n\n"))
      → Spells Plain others rest → Spells Later chunks text

-- ---- the chunks of a text

-- the bytes without the leading ones that pass the test
abbrev pub without_front : (ℕ → Bool) → List ℕ → List ℕ
without_front test bytes = drop (prefix_len test bytes) bytes

-- The chunks of a text of at most n bytes, read in this form. In ordinary text a byte that is neither a word byte nor
-- a blank is a newline, and what follows says what it is.
unfoldable pub chunks_within : ℕ → Form → List ℕ → List Chunk
chunks_within zero form text = []
chunks_within (suc n) form [] = []
chunks_within (suc n) Plain (b ∷ rest) =
    if is_word_byte b then
    Raw (take_while is_word_byte (b ∷ rest)) (columns (take_while is_word_byte (b ∷ rest)))
    ∷ chunks_within n Plain (without_front is_word_byte (b ∷ rest))
    else if b == byte.blank then Raw (codes " ") 1 ∷ chunks_within n Plain rest
    else if starts rest (codes "    ") then
    Raw (take_while is_line_byte (drop 4 rest)) code_weight
    ∷ chunks_within n Plain (without_front is_line_byte (drop 4 rest))
    else if starts rest (codes "\n```") then Paragraph ∷ chunks_within n Opening (drop 1 rest)
    else if starts rest (codes "\n    ") then Paragraph ∷ chunks_within n Plain rest
    else if starts rest (codes "\n") then Paragraph ∷ chunks_within n Plain (drop 1 rest)
    else if starts rest (codes " ") then LineBreak ∷ chunks_within n Plain (drop 1 rest)
    else Raw (codes " ") 1 ∷ chunks_within n Plain rest
chunks_within (suc n) Opening (b ∷ rest) =
    Raw (take_while is_line_byte (b ∷ rest)) fence_weight
    ∷ chunks_within n Later (drop 1 (without_front is_line_byte (b ∷ rest)))
chunks_within (suc n) Later (b ∷ rest) =
    Raw (take_while is_line_byte (b ∷ rest)) fence_weight
    ∷ (if not (starts (b ∷ rest) (codes "```")) then
    chunks_within n Later (drop 1 (without_front is_line_byte (b ∷ rest)))
    else if starts (without_front is_line_byte (b ∷ rest)) (codes "\n\n") then
    chunks_within n Plain (without_front is_line_byte (b ∷ rest))
    else chunks_within n Plain (drop 1 (without_front is_line_byte (b ∷ rest))))

-- the chunks of a text that is read in this form
unfoldable pub chunks_in : Form → List ℕ → List Chunk
chunks_in form text = chunks_within (length text) form text

-- the chunks that the text spells
-- e.g. chunks_of (codes "hello\n world\n")
--     ≡ Raw (codes "hello") 5 ∷ LineBreak ∷ Raw (codes "world") 5 ∷ Raw (codes " ") 1 ∷ []
unfoldable pub chunks_of : List ℕ → List Chunk
chunks_of text = chunks_in Plain text
