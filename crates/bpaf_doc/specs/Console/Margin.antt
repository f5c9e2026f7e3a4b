-- The margin at each place of a document, by counting its marks.
use Rattle.std.specs.Prelude.{if◌then◌else◌, ◌&&◌, ◌+◌, ◌==◌, ◌||◌, ◌∷◌}
use Rattle.bpaf_doc.specs.Words.{ℕ, Bool, true, false, List, [], map, filter, take, drop, max, fold, sum_by, nat_le, list_any, position_or_len, before_first, after_last, Block, Part, Text, Start, End, is_start_of, is_end_of, columns, numbered, stays_open}
use Rattle.bpaf_doc.specs.declared.buffer.Block.TheVariants as blocks

-- the greatest of some numbers, or 0
abbrev pub greatest : List ℕ → ℕ
greatest ns = fold max 0 ns

-- ---- skipped pairs

-- the block Section4
abbrev pub is_section4 : Block → Bool
is_section4 blocks.Section4 = true
is_section4 _ = false

-- the parts begin with a start and an end of Block
abbrev pub has_empty_block : List Part → Bool
has_empty_block (Start blocks.Block ∷ End blocks.Block ∷ rest) = true
has_empty_block _ = false

-- the place after the first Section4 end that follows place i
abbrev pub after_section4 : List Part → ℕ → ℕ
after_section4 document i = i + position_or_len (is_end_of is_section4) (drop (i + 1) document) + 2

-- that Section4 end is directly followed by an empty Block pair
abbrev pub skips_pair : List Part → ℕ → Bool
skips_pair document i = has_empty_block (drop (after_section4 document i) document)

-- place k lies in an empty Block pair that a Section4 start skips
abbrev pub is_skipped : List Part → ℕ → Bool
is_skipped document k =
    list_any
    (λ (i, part). (is_start_of is_section4 part && skips_pair document i)
    && ((k == after_section4 document i) || (k == after_section4 document i + 1)))
    (numbered document)

-- ---- the tab stop

-- the block ItemTerm
abbrev pub is_term : Block → Bool
is_term blocks.ItemTerm = true
is_term _ = false

-- the columns of a text
abbrev pub text_columns : Part → ℕ
text_columns (Text bytes style) = columns bytes
text_columns _ = 0

-- The length at an ItemTerm end after these parts: the columns of the texts between the last ItemTerm start and the
-- first ItemTerm end after it, or 0 without such a start.
-- e.g. term_length (inside block.ItemTerm (words (codes "--a"))) ≡ 3
abbrev pub term_length : List Part → ℕ
term_length before =
    if list_any (is_start_of is_term) before
    then sum_by text_columns (before_first (is_end_of is_term) (after_last (is_start_of is_term) before))
    else 0

-- the lengths at the ItemTerm ends
abbrev pub term_lengths : List Part → List ℕ
term_lengths document =
    map (λ (k, part). term_length (take k document)) (filter (λ (k, part). is_end_of is_term part) (numbered document))

-- 4 plus the greatest length that is at most 24
abbrev pub tab_stop : List Part → ℕ
tab_stop document = 4 + greatest (filter (λ n. nat_le n 24) (term_lengths document))

-- ---- the margin

-- what a part does to the margin: a pushing start adds its indent, a block end takes one away
pub data Shift : Type 0 where
  Indent : ℕ → Shift
  Outdent : Shift
  Level : Shift

-- the shift of the part at place k, if it is not skipped
abbrev pub part_shift : List Part → ℕ → Part → Shift
part_shift document k (Text bytes style) = Level
part_shift document k (End b) = Outdent
part_shift document k (Start blocks.Header) = Indent 0
part_shift document k (Start blocks.Section2) = Indent 0
part_shift document k (Start blocks.Section3) = Indent 2
part_shift document k (Start blocks.Section4) = Indent (if skips_pair document k then 4 else 2)
part_shift document k (Start blocks.ItemTerm) = Indent 4
part_shift document k (Start blocks.ItemBody) = Indent (tab_stop document + 2)
part_shift document k (Start blocks.Block) = Indent 0
part_shift document k (Start b) = Level

-- the shifts of the parts in order, where skipped pairs do nothing
abbrev pub shifts : List Part → List Shift
shifts document =
    map (λ (k, part). if is_skipped document k then Level else part_shift document k part) (numbered document)

-- a pushing start
abbrev pub is_indent : Shift → Bool
is_indent (Indent n) = true
is_indent _ = false

-- a block end
abbrev pub is_outdent : Shift → Bool
is_outdent Outdent = true
is_outdent _ = false

-- the indent of a pushing start
abbrev pub indent : Shift → ℕ
indent (Indent n) = n
indent _ = 0

-- The sum of the indents in force after these shifts. One is in force if nowhere after it there are more block ends
-- than pushing starts.
abbrev pub indents_in_force : List Shift → ℕ
indents_in_force [] = 0
indents_in_force (shift ∷ between) =
    (if stays_open is_indent is_outdent between then indent shift else 0) + indents_in_force between

-- the margin at place j
-- e.g. margin (Start block.Section3 ∷ Start block.ItemTerm ∷ words (codes "a")) 2 ≡ 6
abbrev pub margin : List Part → ℕ → ℕ
margin document j = indents_in_force (take (j + 1) (shifts document))

-- the greatest margin
abbrev pub greatest_margin : List Part → ℕ
greatest_margin document = greatest (map (λ (j, part). margin document j) (numbered document))
