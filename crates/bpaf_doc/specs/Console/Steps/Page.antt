-- A console page, step by step, as the private functions leave it: the page so far of the exact rules, and what the
-- code carries beside it. This is internal.
use Rattle.std.specs.Prelude.{if◌then◌else◌, ◌&&◌, ◌++◌, ◌+◌, ◌-◌, ◌<◌, ◌==◌, ◌∷◌, ◌≡◌, ◌≤◌}
use Rattle.bpaf_doc.specs.Words.{ℕ, Bool, false, not, List, [], Option, Some, None, unwrap_or, length, take, nat_lt, string_bytes, slice_get, trim_end, bytes_eq, Block, Chunk, Raw, Paragraph, LineBreak, code_weight, columns, codes}
use Rattle.bpaf_doc.specs.declared.buffer.Block.TheVariants as blocks
use Rattle.bpaf_doc.specs.declared.console.page.Asked.TheVariants as asked
use Rattle.bpaf_doc.specs.declared.console.page.{Asked.Asked, Page.Page}
use Rattle.bpaf_doc.specs.Console.Exact.{Request, NoBreak, NewLine, BlankLine, PageSoFar, saturated, empty_page, has_no_room, on_new_line, with_blanks, request_met, wrapped, placed, start_put, end_put}

abbrev pub request_of : Asked → Request
request_of asked.Nothing = NoBreak
request_of asked.NewLine = NewLine
request_of asked.BlankLine = BlankLine

-- what a page says, without where it is in memory
pub record Sheet : Type 0 where
  pub page : PageSoFar
  pub width : ℕ
  pub tab_stop : ℕ
  pub margins : List ℕ

abbrev pub page_of : {B : Type 0} → Page B → PageSoFar
page_of p =
    record { text = string_bytes p.out; column = p.column; request = request_of p.asked; is_pending = p.at_body }

abbrev pub sheet_of : {B : Type 0} → Page B → Sheet
sheet_of p = record { page = page_of p; width = p.width; tab_stop = p.tab_stop; margins = p.margins.items }

abbrev pub blank_sheet : ℕ → ℕ → Sheet
blank_sheet width tab_stop = record { page = empty_page; width = width; tab_stop = tab_stop; margins = [] }

-- a step that changes only the page so far
abbrev pub on : (PageSoFar → PageSoFar) → Sheet → Sheet
on step s = record s { page = step s.page }

-- the innermost margin, which is in force
abbrev pub margin_of : Sheet → ℕ
margin_of s = unwrap_or (slice_get s.margins (length s.margins - 1)) 0

-- there is text, and the next text follows it directly: the line has room, nothing is asked for, and no margin is
-- missing
pub record IsWithinLine (s : Sheet) : Type 0 where
  pub nothing_asked : s.page.request ≡ NoBreak
  pub no_body : s.page.is_pending ≡ false
  pub some : 0 < length s.page.text
  pub past_margin : margin_of s ≤ s.page.column
  pub room : s.page.column < s.width

-- nothing is asked for, and the last line is past the width, as it is after a code line
pub record IsPastLine (s : Sheet) : Type 0 where
  pub nothing_asked : s.page.request ≡ NoBreak
  pub no_body : s.page.is_pending ≡ false
  pub some : 0 < length s.page.text
  pub past : s.width < s.page.column
  pub narrow : s.width < code_weight

-- a line was begun after the last ink, and after its margin no more than one blank fits
pub record DropsBlanks (s : Sheet) : Type 0 where
  pub nothing_asked : s.page.request ≡ NoBreak
  pub no_body : s.page.is_pending ≡ false
  pub line_start : s.page.column ≡ 0
  pub some_room : 0 < s.width
  pub no_more : s.width ≤ margin_of s + 1
  pub small : s.width < 18446744073709551615
  pub bare : s.page.text ≡ trim_end s.page.text ++ 10 ∷ []

abbrev pub wraps : ℕ → ℕ → PageSoFar → Bool
wraps width more page = not (length page.text == 0) && has_no_room width more (request_met page)

abbrev pub room_made : ℕ → ℕ → PageSoFar → PageSoFar
room_made width more page =
    if length page.text == 0 then page
    else if has_no_room width more (request_met page) then wrapped (request_met page)
    else request_met page

-- a code line on a line of its own
abbrev pub code_put : ℕ → List ℕ → PageSoFar → PageSoFar
code_put margin line page =
    let p : PageSoFar = with_blanks margin (wrapped page) in
    record p { text = p.text ++ line; column = saturated (p.column + code_weight) }

-- the columns of a Raw chunk by its weight, unless it is a code or fence line
abbrev pub columns_of : List ℕ → ℕ → ℕ
columns_of raw weight = if nat_lt weight code_weight then weight else columns raw

-- a Raw chunk; a blank that does not fit is left out
unfoldable pub raw_put : ℕ → ℕ → List ℕ → ℕ → PageSoFar → PageSoFar
raw_put width margin raw weight page =
    if wraps width (columns_of raw weight) page && bytes_eq raw (codes " ")
    then room_made width (columns_of raw weight) page
    else placed margin raw weight (room_made width (columns_of raw weight) page)

-- the chunks of a text, in brief through the first paragraph break
abbrev pub chunks_put : ℕ → ℕ → Bool → List Chunk → PageSoFar → PageSoFar
chunks_put width margin full [] page = page
chunks_put width margin full (Raw raw weight ∷ chunks) page =
    chunks_put width margin full chunks (raw_put width margin raw weight page)
chunks_put width margin full (LineBreak ∷ chunks) page = chunks_put width margin full chunks (on_new_line page)
chunks_put width margin full (Paragraph ∷ chunks) page =
    if full then chunks_put width margin full chunks (on_new_line page) else on_new_line page

abbrev pub text_put : Bool → List Chunk → Sheet → Sheet
text_put full chunks s = on (chunks_put s.width (margin_of s) full chunks) s

-- how far the start of a block moves the margin, if it pushes one
abbrev pub indent_of : Block → ℕ → Bool → Option ℕ
indent_of blocks.Header tab_stop adjacent = Some 0
indent_of blocks.Section2 tab_stop adjacent = Some 0
indent_of blocks.Block tab_stop adjacent = Some 0
indent_of blocks.Section3 tab_stop adjacent = Some 2
indent_of blocks.Section4 tab_stop adjacent = Some (if adjacent then 4 else 2)
indent_of blocks.ItemTerm tab_stop adjacent = Some 4
indent_of blocks.ItemBody tab_stop adjacent = Some (saturated (tab_stop + 2))
indent_of _ tab_stop adjacent = None

abbrev pub margin_pushed : Option ℕ → Sheet → Sheet
margin_pushed None s = s
margin_pushed (Some indent) s = record s { margins = s.margins ++ saturated (margin_of s + indent) ∷ [] }

unfoldable pub opened : Block → Bool → Sheet → Sheet
opened b adjacent s = on (start_put b) (margin_pushed (indent_of b s.tab_stop adjacent) s)

unfoldable pub closed : Block → Sheet → Sheet
closed b s = on (end_put b) (record s { margins = take (length s.margins - 1) s.margins })
