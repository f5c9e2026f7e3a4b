-- A console page as it grows. The rules of the console as a relation between what
-- stands before a document event and after it.
-- Internal: `IsLayout` is what is promised, and it is proved of each page that grows so.
use Rattle.std.specs.Prelude.{if◌then◌else◌, ◌&&◌, ◌++◌, ◌+◌, ◌-◌, ◌<◌, ◌||◌, ◌∷◌, ◌≡◌, ◌≢◌, ◌≤◌, ◌⊎◌}
use Rattle.bpaf_doc.proofs.lemmas.Console.Words.{trim_end, IsLine, Chunk, Raw, Paragraph, LineBreak, columns, is_inked, has_some, is_ordinary, Event, Shows, Opens, Closes, Stretch, Gap, Placed, Passed, Place, chunk_at, event_bytes, stretch_bytes, is_newline, asks_newline, asks_blank_line, opens_body, is_silent_block, is_empty_code, Request, NoBreak, NewLine, BlankLine, at_least_new_line, Block, IsTrue, IsUtf8, ℕ, zero, suc, min, ⊤, Bool, true, false, List, [], length, codes}
use Rattle.bpaf_doc.specs.declared.buffer.Block.TheVariants as blocks

-- The page so far. The stretches stand newest first; `latest` is the part of the last chunk, `marked` says that a
-- mark came since, and `settled` that a chunk was placed last.
pub record State : Type 0 where
  pub back : List Stretch
  pub column : ℕ
  pub asked : Request
  pub pending : Bool
  pub margin : ℕ
  pub latest : ℕ
  pub marked : Bool
  pub settled : Bool

-- ---- what the text so far shows

-- the text is not empty
abbrev pub has_text : List Stretch → Bool
has_text [] = false
has_text (x ∷ r) = has_some (stretch_bytes x) || has_text r

-- the text ends in a newline
abbrev pub ends_line : List Stretch → Bool
ends_line [] = false
ends_line (x ∷ r) = if has_some (stretch_bytes x) then is_newline x else ends_line r

-- the text ends in two newlines
abbrev pub ends_blank : List Stretch → Bool
ends_blank [] = false
ends_blank (x ∷ r) = if has_some (stretch_bytes x) then is_newline x && ends_line r else ends_blank r

-- ---- what is written

abbrev pub sat : ℕ → ℕ
sat n = min n 18446744073709551615

-- some blanks
abbrev pub padded : ℕ → List Stretch → List Stretch
padded zero r = r
padded (suc n) r = Gap 32 ∷ padded n r

-- the chunk at a place loses its blank end
abbrev pub cut : Place → Place
cut e = record e { shown = trim_end e.bytes }

-- the text loses its blank end: a chunk without ink has no place any more
abbrev pub trimmed : List Stretch → List Stretch
trimmed [] = []
trimmed (Gap b ∷ r) = trimmed r
trimmed (Placed e ∷ r) = if is_inked (chunk_at e) then Placed (cut e) ∷ r else Passed (Shows e.part (chunk_at e)) ∷ trimmed r
trimmed (Passed event ∷ r) = if has_some (event_bytes event) then Passed event ∷ r else Passed event ∷ trimmed r

abbrev pub is_nothing : Request → Bool
is_nothing NoBreak = true
is_nothing NewLine = false
is_nothing BlankLine = false

abbrev pub asked_after : Event → Request → Request
asked_after event asked = if asks_blank_line event then BlankLine else (if asks_newline event then at_least_new_line asked else asked)

-- an end of ItemBody
abbrev pub closes_body : Event → Bool
closes_body (Closes blocks.ItemBody) = true
closes_body _ = false

abbrev pub pending_after : Event → Bool → Bool
pending_after event pending = if opens_body event then true else (if closes_body event then false else pending)

-- after a mark, with the margin that is in force from here on
abbrev pub passed : Event → ℕ → State → State
passed event margin st = record st {
  back = Passed event ∷ st.back;
  column = sat (st.column + length (event_bytes event));
  asked = asked_after event st.asked;
  pending = pending_after event st.pending;
  margin = margin;
  marked = true;
  settled = false;
}

-- after a Paragraph or a LineBreak of a text
abbrev pub broken : ℕ → Chunk → State → State
broken k chunk st = record st { back = Gap 10 ∷ Passed (Shows k chunk) ∷ st.back; column = 0; latest = k; marked = false; settled = false }

-- a newline is put
abbrev pub on_new_line : State → State
on_new_line st = record st { back = Gap 10 ∷ st.back; column = 0 }

-- the blank end goes, and a newline is put
abbrev pub wrapped : State → State
wrapped st = record st { back = Gap 10 ∷ trimmed st.back; column = 0 }

-- a blank is dropped
abbrev pub dropped : ℕ → List ℕ → ℕ → State → State
dropped k bytes weight st = record st { back = Passed (Shows k (Raw bytes weight)) ∷ st.back; latest = k; marked = false; settled = false }

-- a chunk is placed after n blanks
abbrev pub put : ℕ → ℕ → List ℕ → ℕ → State → State
put n k bytes weight st = record st {
  back = Placed (record { part = k; bytes = bytes; weight = weight; shown = bytes }) ∷ padded n st.back;
  column = sat (st.column + n + weight);
  asked = NoBreak;
  pending = false;
  latest = k;
  marked = false;
  settled = true;
}

-- ---- the rules

-- what was asked for is written
pub data Lines : State → State → Type 0 where
  none_asked : {st after : State} → st.asked ≡ NoBreak → after ≡ st → Lines st after
  line_there : {st after : State} → st.asked ≡ NewLine → ends_line st.back ≡ true → after ≡ st → Lines st after
  line_put : {st after : State} → st.asked ≡ NewLine → after ≡ on_new_line st → Lines st after
  blank_there : {st after : State} → st.asked ≡ BlankLine → ends_blank st.back ≡ true → after ≡ st → Lines st after
  second_put : {st after : State} → st.asked ≡ BlankLine → ends_line st.back ≡ true → after ≡ record st { back = Gap 10 ∷ st.back } → Lines st after
  both_put : {st after : State} → st.asked ≡ BlankLine → after ≡ on_new_line (on_new_line st) → Lines st after

-- how many blanks stand before a chunk: up to the margin, or two in all after a wide term
pub data Pads (st : State) (n : ℕ) : Type 0 where
  to_margin : n ≡ st.margin - st.column → Pads st n
  after_term : st.pending ≡ true → 28 ≤ st.column + (st.margin - st.column) → st.margin - st.column < 2 → n ≡ 2 → Pads st n

-- a chunk that is to be placed
pub record Piece : Type 0 where
  pub part : ℕ
  pub bytes : List ℕ
  pub weight : ℕ

-- where a chunk that is placed begins: on the page as it is, if nothing is
-- written; else after what was asked for, or on a new line
pub data Begins (width : ℕ) (st : State) (p : Piece) (base : State) : Type 0 where
  first : has_text st.back ≡ false → base ≡ st → Begins width st p base
  stays : has_text st.back ≡ true → Lines st base → sat (base.column + columns p.bytes) ≤ width → Begins width st p base
  wraps : has_text st.back ≡ true → (mid : State) → Lines st mid → width < sat (mid.column + columns p.bytes) → p.bytes ≢ codes " " → base ≡ wrapped mid
      → Begins width st p base

-- a Raw chunk of a text is placed, or dropped
pub data Places (width : ℕ) (st : State) (p : Piece) (after : State) : Type 0 where
  places : (base : State) (n : ℕ) → Begins width st p base → Pads base n → after ≡ put n p.part p.bytes p.weight base → Places width st p after
  drops : has_text st.back ≡ true → (mid : State) → Lines st mid → width < sat (mid.column + columns p.bytes)
      → p.bytes ≡ codes " " → after ≡ dropped p.part p.bytes p.weight (wrapped mid) → Places width st p after

-- a chunk is placed here, after its blanks
abbrev pub IsPut : Piece → State → State → Type 0
IsPut p st after = (n : ℕ) × Pads st n × (after ≡ put n p.part p.bytes p.weight st)

-- what comes next in a document: a Raw chunk, a break chunk, or a mark with the margin from there on
pub data Next : Type 0 where
  raw : Piece → Next
  break : ℕ → Chunk → Next
  mark : Event → ℕ → Next

-- the page grows by what comes next
pub data Grows (width : ℕ) (st : State) : Next → State → Type 0 where
  placing : {next : Next} {after : State} (p : Piece) → next ≡ raw p → Places width st p after → Grows width st next after
  breaking : {next : Next} {after : State} (k : ℕ) (chunk : Chunk) → next ≡ break k chunk → after ≡ broken k chunk st → Grows width st next after
  passing : {next : Next} {after : State} (event : Event) (margin : ℕ) → next ≡ mark event margin → after ≡ passed event margin st → Grows width st next after

-- ---- what the events of a document keep to

-- A chunk of a text: its margin is in force, parts come in order and not twice round a mark,
-- and an ordinary chunk has some bytes and weighs its columns.
pub record Fits (margin_of : ℕ → ℕ) (st : State) (p : Piece) : Type 0 where
  pub margin_is : st.margin ≡ margin_of p.part
  pub order : st.latest ≤ p.part
  pub moved : st.marked ≡ true → st.latest < p.part
  pub weighed : IsTrue (is_ordinary (Raw p.bytes p.weight)) → p.weight ≡ columns p.bytes
  pub filled : IsTrue (is_ordinary (Raw p.bytes p.weight)) → has_some p.bytes ≡ true

-- no mark that pushes no margin raises it
pub data Suits (margin_of : ℕ → ℕ) (st : State) : Next → Type 0 where
  raw_suits : {next : Next} (p : Piece) → next ≡ raw p → Fits margin_of st p → Suits margin_of st next
  paragraph_suits : {next : Next} (k : ℕ) → next ≡ break k Paragraph → st.latest ≤ k → (st.marked ≡ true → st.latest < k) → Suits margin_of st next
  line_break_suits : {next : Next} (k : ℕ) → next ≡ break k LineBreak → st.latest ≤ k → (st.marked ≡ true → st.latest < k) → Suits margin_of st next
  open_suits : {next : Next} (b : Block) (margin : ℕ) → next ≡ mark (Opens b) margin → (is_silent_block b ≡ true → margin ≤ st.margin) → margin ≤ 18446744073709551615 → Suits margin_of st next
  close_suits : {next : Next} (b : Block) (margin : ℕ) → next ≡ mark (Closes b) margin → margin ≤ st.margin → margin ≤ 18446744073709551615 → Suits margin_of st next

-- an empty line of code comes only after some text
abbrev pub IsClear : State → Next → Type 0
IsClear st (raw p) = is_empty_code (Shows p.part (Raw p.bytes p.weight)) ≡ true → has_text st.back ≡ true
IsClear st (break k chunk) = ⊤
IsClear st (mark event margin) = ⊤

-- each margin that comes is at most this
abbrev pub IsShallow : ℕ → Next → Type 0
IsShallow deepest (raw p) = ⊤
IsShallow deepest (break k chunk) = ⊤
IsShallow deepest (mark event level) = level ≤ deepest

-- before anything is written
abbrev pub blank_page : State
blank_page = record { back = []; column = 0; asked = NoBreak; pending = false; margin = 0; latest = 0; marked = false; settled = false }

-- the page after all that comes, piece by piece
pub data Written (width : ℕ) (margin_of : ℕ → ℕ) (clear : State → Next → Type 0) : List Next → State → Type 0 where
  nothing : {nexts : List Next} {st : State} → nexts ≡ [] → st ≡ blank_page → Written width margin_of clear nexts st
  more : {nexts : List Next} {st : State} (earlier : List Next) (before : State) (next : Next) → nexts ≡ earlier ++ next ∷ []
      → Written width margin_of clear earlier before → Suits margin_of before next → clear before next → Grows width before next st → Written width margin_of clear nexts st

-- ---- what may be read

-- a byte that may be added; a chunk of a text that is kept, or cut at its end
abbrev pub IsLegible : List Stretch → Type 0
IsLegible [] = ⊤
IsLegible (Gap b ∷ r) = ((b ≡ 32) ⊎ (b ≡ 10)) × IsLegible r
IsLegible (Placed e ∷ r) = (IsUtf8 e.bytes × IsLine e.bytes × ((e.shown ≡ e.bytes) ⊎ (e.shown ≡ trim_end e.bytes))) × IsLegible r
IsLegible (Passed event ∷ r) = IsLegible r

-- some blanks are put
abbrev pub spaced : ℕ → State → State
spaced n st = record st { back = padded n st.back; column = sat (st.column + n) }

-- a chunk of the text with this number
abbrev pub piece : ℕ → List ℕ → ℕ → Piece
piece k bytes weight = record { part = k; bytes = bytes; weight = weight }

-- a chunk of the text with this number, as what comes next
abbrev pub chunk_next : ℕ → Chunk → Next
chunk_next k (Raw bytes weight) = raw (piece k bytes weight)
chunk_next k Paragraph = break k Paragraph
chunk_next k LineBreak = break k LineBreak

-- the end of the page: what is still asked for is one newline
pub data Ends (st : State) (final : List Stretch) : Type 0 where
  as_is : final ≡ st.back → Ends st final
  with_newline : final ≡ Gap 10 ∷ st.back → Ends st final
