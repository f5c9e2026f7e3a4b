-- What a console text may look like: a layout of a document at a width.
use Rattle.std.specs.Prelude.{if◌then◌else◌, ◌&&◌, ◌++◌, ◌+◌, ◌<◌, ◌==◌, ◌∷◌, ◌≡◌, ◌≢◌, ◌≤◌, ◌⊎◌}
use Rattle.bpaf_doc.specs.Words.{ℕ, max, Bool, true, false, not, IsTrue, List, [], map, length, take, sum_by, count_by, flat_map, All, codes, list_any, list_all, before_first, after_last, slice_split, trim_end, Block, Part, Text, Start, End, ink, Chunk, Raw, Paragraph, LineBreak, code_weight, columns, is_ordinary, is_inked, is_raw, is_whole_line, has_some, starts, numbered, shown_chunks, console_ink, is_term_ref, mark_bytes}
use Rattle.bpaf_roff.specs.Bytes as byte
use Rattle.bpaf_doc.specs.declared.buffer.Block.TheVariants as blocks
use Rattle.bpaf_doc.specs.Console.Margin.{is_skipped, margin, greatest, greatest_margin}

-- ---- what is shown, in order

-- a chunk of the shown text at an index of the document, or a start or an end of a block outside the skipped pairs
pub data Event : Type 0 where
  Shows : ℕ → Chunk → Event
  Opens : Block → Event
  Closes : Block → Event

-- the events of the part at index k
abbrev pub part_events : Bool → List Part → ℕ → Part → List Event
part_events full document k (Text bytes style) =
    map (λ chunk. Shows k chunk) (shown_chunks full (take k document) bytes)
part_events full document k (Start b) = if is_skipped document k then [] else Opens b ∷ []
part_events full document k (End b) = if is_skipped document k then [] else Closes b ∷ []

-- the events of what is shown of a document, in order
-- e.g. shown_events true (words (codes "a bc"))
--     ≡ Shows 0 (Raw (codes "a") 1) ∷ Shows 0 (Raw (codes " ") 1) ∷ Shows 0 (Raw (codes "bc") 2) ∷ []
abbrev pub shown_events : Bool → List Part → List Event
shown_events full document = flat_map (λ (k, part). part_events full document k part) (numbered document)

-- ---- placings

-- where a Raw chunk stands: its text's index in the document, the chunk's bytes and weight, and what the console text
-- has of it
pub record Place : Type 0 where
  pub part : ℕ
  pub bytes : List ℕ
  pub weight : ℕ
  pub shown : List ℕ

-- a byte outside the places, a chunk that has a place, or an event that has none
pub data Stretch : Type 0 where
  Gap : ℕ → Stretch
  Placed : Place → Stretch
  Passed : Event → Stretch

-- the chunk that stands at a place
abbrev pub chunk_at : Place → Chunk
chunk_at e = Raw e.bytes e.weight

-- the backquote of a TermRef mark
abbrev pub event_bytes : Event → List ℕ
event_bytes (Shows k chunk) = []
event_bytes (Opens b) = mark_bytes b
event_bytes (Closes b) = mark_bytes b

-- the bytes of the text that a stretch makes
abbrev pub stretch_bytes : Stretch → List ℕ
stretch_bytes (Gap b) = b ∷ []
stretch_bytes (Placed e) = e.shown
stretch_bytes (Passed event) = event_bytes event

-- the event that a stretch has, if any
abbrev pub stretch_events : Stretch → List Event
stretch_events (Gap b) = []
stretch_events (Placed e) = Shows e.part (chunk_at e) ∷ []
stretch_events (Passed event) = event ∷ []

-- the console text that the stretches make, and the document's events in it
abbrev pub text_of : List Stretch → List ℕ
text_of stretches = flat_map stretch_bytes stretches

abbrev pub events_of : List Stretch → List Event
events_of stretches = flat_map stretch_events stretches

-- a newline outside the places
abbrev pub is_newline : Stretch → Bool
is_newline (Gap b) = b == byte.newline
is_newline _ = false

-- a chunk that passes the test
abbrev pub shows_chunk : (Chunk → Bool) → Event → Bool
shows_chunk test (Shows k chunk) = test chunk
shows_chunk test _ = false

-- an inked chunk, in a place or not
abbrev pub is_inked_stretch : Stretch → Bool
is_inked_stretch stretch = list_any (shows_chunk is_inked) (stretch_events stretch)

-- What may come before these stretches: a blank or a newline; a whole chunk, or one without the White_Space at its end
-- if a newline follows directly; an event that is not an inked chunk.
abbrev pub MayStand : Stretch → List Stretch → Type 0
MayStand (Gap b) after = (b ≡ byte.blank) ⊎ (b ≡ byte.newline)
MayStand (Placed e) after =
    (e.shown ≡ e.bytes) ⊎ ((e.shown ≡ trim_end e.bytes) × IsTrue (starts (text_of after) (codes "\n")))
MayStand (Passed event) after = IsTrue (not (shows_chunk is_inked event))

-- the stretches make the text, and have what is shown of the document, in order, with each inked chunk in a place
pub record IsPlacing (document : List Part) (full : Bool) (text : List ℕ) (stretches : List Stretch) : Type 0 where
  pub whole_text : text_of stretches ≡ text
  pub all_events : events_of stretches ≡ shown_events full document
  pub each_stretch : (before after : List Stretch) (stretch : Stretch) → stretches ≡ before ++ stretch ∷ after
      → MayStand stretch after

-- ---- columns

-- the columns of a chunk count in full, even where its end was cut; a byte outside the places counts one
abbrev pub stretch_columns : Stretch → ℕ
stretch_columns (Gap b) = 1
stretch_columns (Placed e) = columns e.bytes
stretch_columns (Passed event) = length (event_bytes event)

-- what is before a place in its line
abbrev pub line_before : List Stretch → List Stretch
line_before before = after_last is_newline before

-- the column of a place after these stretches
abbrev pub column : List Stretch → ℕ
column before = sum_by stretch_columns (line_before before)

-- the stretches of each line, without the newlines
abbrev pub stretch_lines : List Stretch → List (List Stretch)
stretch_lines stretches = slice_split is_newline stretches

-- the columns of a chunk
abbrev pub event_columns : Event → ℕ
event_columns (Shows k (Raw bytes weight)) = columns bytes
event_columns _ = 0

-- the columns of the widest chunk
abbrev pub widest : List Event → ℕ
widest events = greatest (map event_columns events)

-- ---- the laws

-- the inked chunk at e stands after some stretches, then others follow, and then the inked chunk at f
pub record AreApart (stretches before : List Stretch) (e : Place) (between : List Stretch) (f : Place) : Type 0 where
  pub after : List Stretch
  pub order : stretches ≡ before ++ Placed e ∷ (between ++ Placed f ∷ after)
  pub first_inked : IsTrue (is_inked (chunk_at e))
  pub second_inked : IsTrue (is_inked (chunk_at f))

-- a break chunk; a start of Header, Section2, Section3, Section4 or ItemTerm; an end of Block
abbrev pub asks_newline : Event → Bool
asks_newline (Shows k Paragraph) = true
asks_newline (Shows k LineBreak) = true
asks_newline (Opens blocks.Header) = true
asks_newline (Opens blocks.Section2) = true
asks_newline (Opens blocks.Section3) = true
asks_newline (Opens blocks.Section4) = true
asks_newline (Opens blocks.ItemTerm) = true
asks_newline (Closes blocks.Block) = true
asks_newline _ = false

-- an end of Block
abbrev pub asks_blank_line : Event → Bool
asks_blank_line (Closes blocks.Block) = true
asks_blank_line _ = false

-- there are two newlines in a row
abbrev pub HasBlankLine : List ℕ → Type 0
HasBlankLine text = (front back : List ℕ) × (text ≡ front ++ codes "\n\n" ++ back)

-- Between two inked chunks there is a newline where one is asked for, and a blank line where a Block ends, if there is
-- no Raw between the two and the second fits the width.
pub record BreaksWhereAsked (width : ℕ) (stretches : List Stretch) : Type 0 where
  pub newline : (before between : List Stretch) (e f : Place) → AreApart stretches before e between f
      → IsTrue (list_any asks_newline (events_of between)) → IsTrue (list_any is_newline between)
  pub blank_line : (before between : List Stretch) (e f : Place) → AreApart stretches before e between f
      → IsTrue (list_any asks_blank_line (events_of between))
      → IsTrue (not (list_any (shows_chunk is_raw) (events_of between))) → columns f.bytes ≤ width
      → HasBlankLine (text_of between)

-- kept whole: a Raw has a place, and a place its whole chunk; a byte is outside the places only where it may be added
abbrev pub IsKept : Type 0 → Stretch → Type 0
IsKept may_add (Gap b) = may_add
IsKept may_add (Placed e) = e.shown ≡ e.bytes
IsKept may_add (Passed event) = IsTrue (not (shows_chunk is_raw event))

-- Between neighbouring inked chunks without a newline between them nothing is cut or left out, and blanks are added
-- only between different texts.
abbrev pub KeepsBlanks : List Stretch → Type 0
KeepsBlanks stretches = (before between : List Stretch) (e f : Place) → AreApart stretches before e between f
    → IsTrue (not (list_any is_inked_stretch between)) → IsTrue (not (list_any is_newline between))
    → (e.shown ≡ e.bytes) × All (IsKept (e.part ≢ f.part)) between

-- a code or fence line with no bytes
abbrev pub is_empty_code : Event → Bool
is_empty_code (Shows k (Raw bytes weight)) = not (has_some bytes) && not (is_ordinary (Raw bytes weight))
is_empty_code _ = false

-- what puts a byte on the page, wherever it stands: a Raw that has bytes, a break chunk or a mark of TermRef
abbrev pub is_written : Event → Bool
is_written (Shows k (Raw bytes weight)) = has_some bytes
is_written (Shows k Paragraph) = true
is_written (Shows k LineBreak) = true
is_written (Opens b) = is_term_ref b
is_written (Closes b) = is_term_ref b

-- there is no empty code or fence line before the first byte of the page
abbrev pub BeginsClear : List Event → Type 0
BeginsClear events = IsTrue (not (list_any is_empty_code (before_first is_written events)))

-- what follows these stretches has no inked chunk before it in its line
abbrev pub IsFirstInLine : List Stretch → Type 0
IsFirstInLine before = IsTrue (not (list_any is_inked_stretch (line_before before)))

-- the events since the previous inked chunk, or since the start
abbrev pub events_since_ink : List Stretch → List Event
events_since_ink before = events_of (after_last is_inked_stretch before)

-- a Raw chunk or a mark of TermRef
abbrev pub is_raw_or_ref : Event → Bool
is_raw_or_ref (Shows k chunk) = is_raw chunk
is_raw_or_ref (Opens b) = is_term_ref b
is_raw_or_ref (Closes b) = is_term_ref b

-- the previous inked chunk is of the same text, and between them there is one ordinary blank and no other chunk
pub record FollowsBlank (before : List Stretch) (f : Place) : Type 0 where
  pub front : List Stretch
  pub between : List Stretch
  pub e : Place
  pub order : before ≡ front ++ Placed e ∷ between
  pub inked : IsTrue (is_inked (chunk_at e))
  pub same_text : e.part ≡ f.part
  pub one_blank : events_of between ≡ Shows f.part (Raw (codes " ") 1) ∷ []

-- An inked chunk's column is at least its margin. It is the margin for the first inked chunk of a line if the document
-- has no Raw chunk and no TermRef mark since the last ink, or only one ordinary blank within one text.
pub record KeepsMargin (document : List Part) (stretches : List Stretch) : Type 0 where
  pub at_least : (before after : List Stretch) (f : Place) → stretches ≡ before ++ Placed f ∷ after
      → IsTrue (is_inked (chunk_at f)) → margin document f.part ≤ column before
  pub exact : (before after : List Stretch) (f : Place) → stretches ≡ before ++ Placed f ∷ after
      → IsTrue (is_inked (chunk_at f)) → IsFirstInLine before
      → (IsTrue (not (list_any is_raw_or_ref (events_since_ink before))) ⊎ FollowsBlank before f)
      → column before ≡ margin document f.part

-- the blocks whose marks ask for nothing, write nothing and push no margin (their ends take one away)
abbrev pub is_silent_block : Block → Bool
is_silent_block blocks.InlineBlock = true
is_silent_block blocks.Mono = true
is_silent_block blocks.Meta = true
is_silent_block blocks.DefinitionList = true
is_silent_block _ = false

-- an ordinary chunk without ink, or a mark of InlineBlock, Mono, Meta or DefinitionList
abbrev pub is_light : Event → Bool
is_light (Shows k chunk) = is_ordinary chunk && not (is_inked chunk)
is_light (Opens b) = is_silent_block b
is_light (Closes b) = is_silent_block b

-- such a mark, or one between a term and its body: an ItemTerm end or an ItemBody start
abbrev pub is_light_mark : Event → Bool
is_light_mark (Opens blocks.ItemBody) = true
is_light_mark (Closes blocks.ItemTerm) = true
is_light_mark (Shows k chunk) = false
is_light_mark event = is_light event

-- Where there is a newline between two ordinary inked chunks, and between them the document has only light chunks and
-- marks, or only light marks, the second would pass the width without it.
abbrev pub WrapsOnlyIfNeeded : ℕ → List Stretch → Type 0
WrapsOnlyIfNeeded width stretches =
    (before between : List Stretch) (e f : Place) → AreApart stretches before e between f
    → IsTrue (is_ordinary (chunk_at e)) → IsTrue (is_ordinary (chunk_at f))
    → IsTrue (list_all is_light (events_of between)) ⊎ IsTrue (list_all is_light_mark (events_of between))
    → IsTrue (list_any is_newline between)
    → width < column before + columns e.bytes + sum_by event_columns (events_of between) + columns f.bytes

-- a mark of TermRef
abbrev pub is_ref : Event → Bool
is_ref (Shows k chunk) = false
is_ref (Opens b) = is_term_ref b
is_ref (Closes b) = is_term_ref b

-- no line is longer than the sum of the greatest margin, 2, and the greater of the width and the widest chunk
abbrev pub IsBounded : List Part → ℕ → List Stretch → Type 0
IsBounded document width stretches =
    All (λ line. sum_by stretch_columns line ≤ greatest_margin document + 2 + max width (widest (events_of stretches)))
    (stretch_lines stretches)

-- a chunk in a place
abbrev pub is_placed : Stretch → Bool
is_placed (Placed e) = true
is_placed _ = false

-- a byte outside the places
abbrev pub is_gap : Stretch → Bool
is_gap (Gap b) = true
is_gap _ = false

-- how many bytes outside the places the line has since the last place (in a layout they are directly before the next
-- one)
abbrev pub padding : List Stretch → ℕ
padding before = count_by is_gap (after_last is_placed (line_before before))

-- a chunk in a place, or a mark of TermRef with its backquote
abbrev pub holds_line : Stretch → Bool
holds_line (Gap b) = false
holds_line (Placed e) = true
holds_line (Passed event) = is_ref event

-- A chunk with a place or a backquote before it in its line fits: its columns, and the column where the blanks that are
-- added before it begin, are together at most the width.
abbrev pub FitsWidth : ℕ → List Stretch → Type 0
FitsWidth width stretches = (before after : List Stretch) (f : Place) → stretches ≡ before ++ Placed f ∷ after
    → IsTrue (list_any holds_line (line_before before)) → column before + columns f.bytes ≤ width + padding before

-- a start of ItemBody
abbrev pub opens_body : Event → Bool
opens_body (Opens blocks.ItemBody) = true
opens_body _ = false

-- blanks outside the places, and then a place
abbrev pub leads_to_place : List Stretch → Bool
leads_to_place (Placed e ∷ after) = true
leads_to_place (Gap b ∷ after) = (b == byte.blank) && leads_to_place after
leads_to_place _ = false

-- Blanks are added only up to the margin, or two of them after an ItemBody start; and only before a place, so that no
-- line ends in added blanks, unless an empty code line or a chunk cut to nothing is there.
pub record PadsToMargin (document : List Part) (stretches : List Stretch) : Type 0 where
  pub up_to_margin : (before after : List Stretch) (f : Place) → stretches ≡ before ++ Placed f ∷ after
      → 0 < padding before → (column before ≡ margin document f.part)
      ⊎ ((padding before ≡ 2) × IsTrue (list_any opens_body (events_of (after_last is_placed before))))
  pub before_place : (before after : List Stretch) → stretches ≡ before ++ Gap byte.blank ∷ after
      → IsTrue (leads_to_place after)

-- after a code or fence line there is no other place in its line: a newline comes first
abbrev pub StandsAlone : List Stretch → Type 0
StandsAlone stretches =
    (before between after : List Stretch) (e f : Place) → stretches ≡ before ++ Placed e ∷ (between ++ Placed f ∷ after)
    → IsTrue (is_whole_line (chunk_at e)) → IsTrue (list_any is_newline between)

-- What a chunk or a mark may add to the column: a Raw its weight, a mark of TermRef its backquote, a start of ItemBody
-- two blanks. (Each start may, where the texts of the bodies before have no ink.)
abbrev pub room_of : Event → ℕ
room_of (Shows k (Raw bytes weight)) = weight
room_of (Opens blocks.TermRef) = 1
room_of (Closes blocks.TermRef) = 1
room_of (Opens blocks.ItemBody) = 2
room_of _ = 0

-- Where there is a newline between neighbouring inked chunks, and none is asked for, there may be no room without it:
-- the column of the first, its weight, what everything between may add, the columns of the second and, between
-- different texts, the greatest margin are together more than the width.
abbrev pub BreaksForRoom : List Part → ℕ → List Stretch → Type 0
BreaksForRoom document width stretches =
    (before between : List Stretch) (e f : Place) → AreApart stretches before e between f
    → IsTrue (not (list_any is_inked_stretch between)) → IsTrue (not (list_any asks_newline (events_of between)))
    → IsTrue (list_any is_newline between) → width
    < column before + e.weight + sum_by room_of (events_of between) + columns f.bytes
    + (if e.part == f.part then 0 else greatest_margin document)

-- ---- a layout

-- At width 3 the text "a bc" is the page "a\nbc": the word `a` in its place, the blank passed over, a newline, and the
-- word `bc` in its place, at column 0.
-- e.g. text_of (word_at (codes "a") ∷ Passed (Shows 0 (Raw (codes " ") 1)) ∷ Gap 10 ∷ word_at (codes "bc") ∷ [])
--     ≡ codes "a\nbc"
-- e.g. column (word_at (codes "a") ∷ Passed (Shows 0 (Raw (codes " ") 1)) ∷ Gap 10 ∷ []) ≡ 0

-- What holds of the lines at a width below the weight of a code line, if no empty code or fence line begins the page.
pub record KeepsToLines (document : List Part) (width : ℕ) (stretches : List Stretch) : Type 0 where
  pub margin : KeepsMargin document stretches
  pub needed : WrapsOnlyIfNeeded width stretches
  pub fits : FitsWidth width stretches
  pub padded : PadsToMargin document stretches
  pub room : BreaksForRoom document width stretches
  pub alone : StandsAlone stretches

-- The text is a layout of the document at this width, in full or in brief.
pub record IsLayout (document : List Part) (full : Bool) (width : ℕ) (text : List ℕ) : Type 0 where
  pub same_ink : ink text ≡ console_ink full document
  pub stretches : List Stretch
  pub placing : IsPlacing document full text stretches
  pub asked : BreaksWhereAsked width stretches
  pub kept : KeepsBlanks stretches
  pub lines : width < code_weight → BeginsClear (shown_events full document) → KeepsToLines document width stretches
  pub bound : width < code_weight → IsTrue (not (list_any is_ref (shown_events full document)))
      → IsBounded document width stretches
