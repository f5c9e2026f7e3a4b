-- A console text, part by part, as the private functions leave it. This is internal: that such a text is the exact page
-- is proved.
use Rattle.std.specs.Prelude.{if◌then◌else◌, ◌&&◌, ◌+◌, ◌-◌, ◌==◌, ◌∷◌}
use Rattle.bpaf_doc.specs.Words.{ℕ, Bool, true, false, List, [], drop, max, nat_le, nat_lt, slice_get, position_or_len, Block, Part, Text, Start, End, is_start_of, is_end_of, columns, chunks_of, not, list_any, Chunk, is_paragraph, is_inline}
use Rattle.std.specs.Option.{option_map_or}
use Rattle.bpaf_doc.specs.declared.buffer.Block.TheVariants as blocks
use Rattle.bpaf_doc.specs.declared.console.pairs.Pairs.{Pairs}
use Rattle.bpaf_doc.specs.Console.Margin.{is_section4, is_term}
use Rattle.bpaf_doc.specs.Console.Exact.{saturated, finished}
use Rattle.bpaf_doc.specs.Console.Steps.Page.{Sheet, blank_sheet, text_put, opened, closed}

-- ---- what brief hides, as a count that goes from part to part

-- whether the chunks hide what follows them
abbrev pub hides : Bool → List Chunk → Bool
hides full chunks = not full && list_any is_paragraph chunks

-- How many inline blocks have to end before texts are shown again, 0 where they are shown: the count after the start of
-- a block, after an end, and after any part, from the count before it.
abbrev pub hidden_from_start : ℕ → Block → ℕ
hidden_from_start hidden b = if not (hidden == 0) && is_inline b then hidden + 1 else hidden

abbrev pub hidden_from_end : ℕ → Block → ℕ
hidden_from_end hidden b = if is_inline b then hidden - 1 else hidden

abbrev pub hidden_after : Bool → ℕ → Part → ℕ
hidden_after full hidden (Text bytes style) = if (hidden == 0) && hides full (chunks_of bytes) then 1 else hidden
hidden_after full hidden (Start b) = hidden_from_start hidden b
hidden_after full hidden (End b) = hidden_from_end hidden b

-- ---- the tab stop

-- the wider of two terms, where the second counts only up to 24 columns
abbrev pub wider_term : ℕ → ℕ → ℕ
wider_term widest term = if nat_le term 24 then max widest term else widest

-- the tab stop over the remaining parts, from the widest term so far, whether a term is open, and its columns
abbrev pub tab_stop_from : ℕ → Bool → ℕ → List Part → ℕ
tab_stop_from widest in_term term [] = saturated (widest + 4)
tab_stop_from widest in_term term (Text bytes style ∷ parts) =
    tab_stop_from widest in_term (if in_term then saturated (term + columns bytes) else term) parts
tab_stop_from widest in_term term (Start b ∷ parts) =
    if is_term b then tab_stop_from widest true 0 parts else tab_stop_from widest in_term term parts
tab_stop_from widest in_term term (End b ∷ parts) =
    if is_term b then tab_stop_from (wider_term widest term) false term parts
    else tab_stop_from widest in_term term parts

-- ---- empty Block pairs after a Section4

-- the block `Block`
abbrev pub is_plain_block : Block → Bool
is_plain_block blocks.Block = true
is_plain_block _ = false

-- the place of the first Section4 end after this place, or the number of parts
abbrev pub section4_end : List Part → ℕ → ℕ
section4_end document index =
    index + 1 + position_or_len (is_end_of is_section4) (drop (index + 1) document)

-- a start and an end of Block come directly after this place
abbrev pub has_empty_block : List Part → ℕ → Bool
has_empty_block document index =
    option_map_or (is_start_of is_plain_block) (slice_get document (saturated (index + 1))) false
    && option_map_or (is_end_of is_plain_block) (slice_get document (saturated (index + 2))) false

abbrev pub no_pairs : Pairs
no_pairs = record { end = 0; has_pair = false }

-- what is known of such a pair after the start of a block
abbrev pub pairs_at : List Part → ℕ → Block → Pairs → Pairs
pairs_at document index b p =
    if is_section4 b && nat_le p.end index
    then record {
      end = section4_end document index;
      has_pair = has_empty_block document (section4_end document index);
    } else p

abbrev pub is_adjacent : Block → Pairs → Bool
is_adjacent b p = is_section4 b && p.has_pair

-- a mark that belongs to such a pair
abbrev pub skips : Pairs → ℕ → Block → Bool
skips p index b = (p.has_pair && is_plain_block b) && (nat_lt p.end index && nat_le (index - p.end) 2)

-- ---- the parts

abbrev pub pairs_after : List Part → ℕ → Pairs → Part → Pairs
pairs_after document index p (Start b) = pairs_at document index b p
pairs_after document index p _ = p

abbrev pub part_put : Bool → List Part → ℕ → Pairs → ℕ → Part → Sheet → Sheet
part_put full document index p hidden (Text bytes style) s =
    if hidden == 0 then text_put full (chunks_of bytes) s else s
part_put full document index p hidden (Start b) s =
    if skips (pairs_at document index b p) index b then s else opened b (is_adjacent b (pairs_at document index b p)) s
part_put full document index p hidden (End b) s = if skips p index b then s else closed b s

abbrev pub parts_put : Bool → List Part → ℕ → Pairs → ℕ → List Part → Sheet → Sheet
parts_put full document index p hidden [] s = s
parts_put full document index p hidden (part ∷ parts) s =
    parts_put full document (index + 1) (pairs_after document index p part) (hidden_after full hidden part) parts
    (part_put full document index p hidden part s)

-- the page after all the parts, and its text
abbrev pub whole_page : Bool → ℕ → List Part → Sheet
whole_page full width document =
    parts_put full document 0 no_pairs 0 document (blank_sheet width (tab_stop_from 0 false 0 document))

abbrev pub console_text : Bool → ℕ → List Part → List ℕ
console_text full width document = finished (whole_page full width document).page
