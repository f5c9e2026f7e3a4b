-- The console page as a function of the document, the width, and full or brief: the rules of docs/console.md, one after
-- another. What depends on the place in the document, such as margins and what brief hides, comes from the counting
-- definitions of `Margin` and `Shown`. The ink and the laws of `IsLayout` are theorems about this function
-- (`specs/Laws`): whoever relies on them need not read it.
use Rattle.std.specs.Prelude.{if◌then◌else◌, ◌&&◌, ◌++◌, ◌+◌, ◌-◌, ◌||◌, ◌∷◌}
use Rattle.bpaf_doc.specs.Words.{ℕ, Bool, true, false, not, List, [], codes, take, replicate, min, nat_eq, nat_lt, nat_le, ends_with, trim_end, bytes_eq, Block, Part, Text, Start, End, Chunk, Raw, columns, has_some, numbered, shown_chunks, is_term_ref, blank}
use Rattle.bpaf_doc.specs.declared.buffer.Block.TheVariants as blocks
use Rattle.bpaf_doc.specs.Console.Margin.{margin, is_skipped}

-- what has to stand before the next text
pub data Request : Type 0 where
  NoBreak : Request
  NewLine : Request
  BlankLine : Request

-- The page so far: its text, the columns of its last line, what is asked for, and whether the margin of an item's body
-- is pending.
pub record PageSoFar : Type 0 where
  pub text : List ℕ
  pub column : ℕ
  pub request : Request
  pub is_pending : Bool

-- columns and margins saturate at the greatest usize
abbrev pub saturated : ℕ → ℕ
saturated n = min n 18_446_744_073_709_551_615

-- a newline is put, and the column is 0
abbrev pub on_new_line : PageSoFar → PageSoFar
on_new_line page = record page { text = page.text ++ codes "\n"; column = 0 }

-- that many blanks are put
abbrev pub with_blanks : ℕ → PageSoFar → PageSoFar
with_blanks count page =
    record page { text = page.text ++ replicate count blank; column = saturated (page.column + count) }

-- ---- a Raw chunk, step 1: the line is broken

-- a new line or a blank line is asked for
abbrev pub asks_line : Request → Bool
asks_line NoBreak = false
asks_line _ = true

-- a blank line is asked for
abbrev pub asks_blank_line : Request → Bool
asks_blank_line BlankLine = true
asks_blank_line _ = false

-- (a) a new line or a blank line is asked for, and the text does not end in a newline
abbrev pub lacks_newline : PageSoFar → Bool
lacks_newline page = asks_line page.request && not (ends_with nat_eq page.text (codes "\n"))

-- then a newline is put, and the column is 0
abbrev pub line_ended : PageSoFar → PageSoFar
line_ended page = if lacks_newline page then on_new_line page else page

-- (b) a blank line is asked for, and the text does not end in two newlines
abbrev pub lacks_blank_line : PageSoFar → Bool
lacks_blank_line page = asks_blank_line page.request && not (ends_with nat_eq page.text (codes "\n\n"))

-- then a newline is put
abbrev pub blank_line_put : PageSoFar → PageSoFar
blank_line_put page = if lacks_blank_line page then record page { text = page.text ++ codes "\n" } else page

-- (a) and (b): what is asked for stands at the end of the text
abbrev pub request_met : PageSoFar → PageSoFar
request_met page = blank_line_put (line_ended page)

-- (c) the column plus these columns exceeds the width
abbrev pub has_no_room : ℕ → ℕ → PageSoFar → Bool
has_no_room width more page = nat_lt width (saturated (page.column + more))

-- (c) the White_Space at the end is removed, newlines too, a newline is put, and the column is 0
abbrev pub wrapped : PageSoFar → PageSoFar
wrapped page = on_new_line (record page { text = trim_end page.text })

-- ---- steps 2 to 4: the slice is written from its margin on

-- step 3: where the margin is pending and the column is at least 28, blanks until there are two with those of step 2
abbrev pub body_parted : ℕ → PageSoFar → PageSoFar
body_parted missing page = if page.is_pending && nat_le 28 page.column then with_blanks (2 - missing) page else page

-- step 2, the blanks that are missing up to the margin, none where the column is past it; and step 3
abbrev pub indented : ℕ → PageSoFar → PageSoFar
indented margin page = body_parted (margin - page.column) (with_blanks (margin - page.column) page)

-- steps 2 to 4: all that was asked for or pending is cleared, the slice is written, and the column grows by its weight
abbrev pub placed : ℕ → List ℕ → ℕ → PageSoFar → PageSoFar
placed margin slice weight page =
    let p : PageSoFar = indented margin page in
    record { text = p.text ++ slice; column = saturated (p.column + weight); request = NoBreak; is_pending = false }

-- ---- the chunks of a text

-- A Raw chunk, at the margin of its text. Step 1 is skipped where there is no text yet; otherwise what is asked for is
-- put at its end, and where the slice then has no room (c), the line is wrapped. A blank that has no room is dropped,
-- and the request stays. Any other slice is placed.
abbrev pub raw_put : ℕ → ℕ → List ℕ → ℕ → PageSoFar → PageSoFar
raw_put width margin slice weight page =
    let met : PageSoFar = request_met page in
    if has_some page.text
    then if has_no_room width (columns slice) met
    then if bytes_eq slice (codes " ") then wrapped met else placed margin slice weight (wrapped met)
    else placed margin slice weight met
    else placed margin slice weight page

-- Paragraph and LineBreak write a newline
abbrev pub chunks_put : ℕ → ℕ → List Chunk → PageSoFar → PageSoFar
chunks_put width margin [] page = page
chunks_put width margin (Raw slice weight ∷ chunks) page =
    chunks_put width margin chunks (raw_put width margin slice weight page)
chunks_put width margin (_ ∷ chunks) page = chunks_put width margin chunks (on_new_line page)

-- ---- the marks

-- the backquote of a term reference takes one column
abbrev pub backquoted : Block → PageSoFar → PageSoFar
backquoted b page =
    if is_term_ref b then record page { text = page.text ++ codes "`"; column = saturated (page.column + 1) } else page

-- a new line is asked for, where a blank line is not
abbrev pub at_least_new_line : Request → Request
at_least_new_line NoBreak = NewLine
at_least_new_line request = request

-- what a start asks for
abbrev pub request_at_start : Block → Request → Request
request_at_start blocks.Header request = at_least_new_line request
request_at_start blocks.Section2 request = at_least_new_line request
request_at_start blocks.Section3 request = at_least_new_line request
request_at_start blocks.Section4 request = at_least_new_line request
request_at_start blocks.ItemTerm request = at_least_new_line request
request_at_start _ request = request

-- what an end asks for
abbrev pub request_at_end : Block → Request → Request
request_at_end blocks.Block request = BlankLine
request_at_end _ request = request

abbrev pub is_item_body : Block → Bool
is_item_body blocks.ItemBody = true
is_item_body _ = false

-- a start and an end of a block: an ItemBody start sets the pending margin, and its end clears it
abbrev pub start_put : Block → PageSoFar → PageSoFar
start_put b page =
    backquoted b
    (record page { request = request_at_start b page.request; is_pending = page.is_pending || is_item_body b })

abbrev pub end_put : Block → PageSoFar → PageSoFar
end_put b page =
    backquoted b
    (record page { request = request_at_end b page.request; is_pending = page.is_pending && not (is_item_body b) })

-- ---- the document

-- the part at place k: the shown chunks of a text, at its margin; or a mark, which does nothing in a skipped pair
abbrev pub part_put : Bool → ℕ → List Part → ℕ → Part → PageSoFar → PageSoFar
part_put full width document k (Text bytes style) page =
    chunks_put width (saturated (margin document k)) (shown_chunks full (take k document) bytes) page
part_put full width document k (Start b) page = if is_skipped document k then page else start_put b page
part_put full width document k (End b) page = if is_skipped document k then page else end_put b page

abbrev pub parts_put : Bool → ℕ → List Part → List (ℕ × Part) → PageSoFar → PageSoFar
parts_put full width document [] page = page
parts_put full width document ((k, part) ∷ parts) page =
    parts_put full width document parts (part_put full width document k part page)

abbrev pub empty_page : PageSoFar
empty_page = record { text = []; column = 0; request = NoBreak; is_pending = false }

-- at the end, where a new line or a blank line is still asked for, a newline is written
abbrev pub finished : PageSoFar → List ℕ
finished page = if asks_line page.request then page.text ++ codes "\n" else page.text

-- the bytes of the page
-- e.g. console_page true 5 (words (codes "aaa bbb")) ≡ codes "aaa\nbbb"
abbrev pub console_page : Bool → ℕ → List Part → List ℕ
console_page full width document = finished (parts_put full width document (numbered document) empty_page)
