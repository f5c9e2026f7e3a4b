-- The exact page is a layout of its document, with the console's ink.
use Rattle.std.specs.Prelude.{◌++◌, ◌+◌, ◌<◌, ◌^◌, ◌∷◌, ◌≡◌, ◌≤◌}
use Rattle.bpaf_doc.proofs.lemmas.Console.Words.{enumerate_from, sym, subst, ap, arith, ◌∙◌, append_assoc, append-nil, reverse-reverse, length-drop, All-get_or, get_or_from_slice_get, slice_get_within, flat_map-append, common_steps, Style, Part, Text, Start, End, ink, part_bytes, HasUtf8Texts, IsText, console_ink, mark_bytes, numbered, shown_chunks, shown_part_ink, margin, greatest_margin, is_skipped, Level, Event, Shows, Opens, Closes, part_events, shown_events, IsLayout, Stretch, Gap, Passed, PageSoFar, console_page, and-false, and-true, ℕ, zero, suc, ⊤, Bool, true, false, List, [], length, take, drop, reverse, map, flat_map, All, refl, IsUtf8, slice_get, Some}
use Rattle.bpaf_doc.proofs.lemmas.Splitter.Pieces.{Pieces, none as no_pieces, piece as stands, pieces, IsGood}
use Rattle.bpaf_doc.specs.Splitter.Chunks.{Chunk, Raw, Paragraph, LineBreak, chunks_of, chunk_ink, Plain}
use Rattle.bpaf_doc.specs.Laws.{IsExactPageLayout}
use Rattle.bpaf_doc.specs.Console.Exact as page
use Rattle.bpaf_doc.proofs.lemmas.Splitter.Facts.{text_chunks}
use Rattle.bpaf_doc.proofs.lemmas.Splitter.Ink.{ink-nil, ink-append, gap_ink}
use Rattle.bpaf_doc.proofs.lemmas.Splitter.Spelling.{spells_in}
use Rattle.bpaf_doc.proofs.lemmas.Console.Ink.{ink-backquote}
use Rattle.bpaf_doc.proofs.lemmas.Console.Layout.State.{State, piece, Next, raw, break, mark, placing, breaking, passing, Fits, Suits, raw_suits, paragraph_suits, line_break_suits, open_suits, close_suits, Written, nothing, more, blank_page, broken, passed, chunk_next, IsLegible, IsShallow, Ends, as_is, with_newline}
use Rattle.bpaf_doc.proofs.lemmas.Console.Layout.Back.{by_test, EachPassed, NoInk, next_event}
use Rattle.bpaf_doc.proofs.lemmas.Console.Layout.Blank.{text_back, text_back_cons}
use Rattle.bpaf_doc.proofs.lemmas.Console.Layout.Split.{events_back}
use Rattle.bpaf_doc.proofs.lemmas.Console.Layout.Stretches.{text_utf8, trim_ink}
use Rattle.bpaf_doc.proofs.lemmas.Console.Layout.Turned.{reverse_cons}
use Rattle.bpaf_doc.proofs.lemmas.Console.Layout.Whole.{EachNext, layout_of_page, written_base, written_events}
use Rattle.bpaf_doc.proofs.lemmas.Console.Margins.{top, stack_at, shift_at, shift_at-shown, top-margin, margin-le, margin-le-greatest, margin-level, falls_after, stack_at-more}
use Rattle.bpaf_doc.proofs.lemmas.Console.Pairs.{pair_there, skipped_by}
use Rattle.bpaf_doc.proofs.lemmas.Console.Sheet.Grows.{Draws, raw_placed, RawTo}

-- ---- what is known of the chunks of a text

abbrev pub Each : (Chunk → Type 0) → List Chunk → Type 0
Each P [] = ⊤
Each P (x ∷ xs) = P x × Each P xs

good_chunks : {chunks : List Chunk} {text : List ℕ} → Pieces chunks text → Each IsGood chunks
good_chunks (no_pieces ec et) = subst (λ cs. Each IsGood cs) (sym ec) tt
good_chunks (stands gap there after rest chunk others ec et g h t good w s) = subst (λ cs. Each IsGood cs) (sym ec) (good, good_chunks s)

each_of_all : (P : Chunk → Type 0) (xs : List Chunk) → All P xs → Each P xs
each_of_all P [] h = tt
each_of_all P (x ∷ xs) h = (h 0 x (omega arith), each_of_all P xs (λ k d l. h (suc k) d (omega arith)))

pub text_good : (text : List ℕ) → Each IsGood (chunks_of text)
unfolding chunks_of
text_good text = good_chunks (pieces (spells_in Plain text))

each_taken : (P : Chunk → Type 0) (n : ℕ) (xs : List Chunk) → Each P xs → Each P (take n xs)
each_taken P (suc n) (x ∷ xs) h = (h.0, each_taken P n xs h.1)
each_taken P _ _ h = grind arith

-- ---- a text

abbrev pub Any : State → Next → Type 0
Any st next = ⊤

-- the document's texts may be written here: after parts before this one
pub record CanWrite (margin_of : ℕ → ℕ) (k : ℕ) (st : State) : Type 0 where
  pub margin_is : st.margin ≡ margin_of k
  pub order : st.latest ≤ k
  pub moved : st.marked ≡ true → st.latest < k

module _ (document : List Part) (width level : ℕ) where
  -- the page after some more of the document
  pub record Later (nexts : List Next) (s : PageSoFar) : Type 0 where
    pub st : State
    pub written : Written width (margin document) Any nexts st
    pub draws : Draws level s st

  abbrev pub AfterText : ℕ → List Next → PageSoFar → Type 0
  AfterText k nexts s = (l : Later nexts s) × CanWrite (margin document) k l.st

  raw_step : (k : ℕ) (bytes : List ℕ) (weight : ℕ) (nexts : List Next) (s : PageSoFar) → AfterText k nexts s → IsUtf8 bytes → IsGood (Raw bytes weight)
      → AfterText k (nexts ++ raw (piece k bytes weight) ∷ []) (page.raw_put width level bytes weight s)
  raw_step k bytes weight nexts s l u good =
      let r : RawTo level width (piece k bytes weight) l.0.st (page.raw_put width level bytes weight s) = raw_placed level width (piece k bytes weight) s l.0.st u good.0 l.0.draws in
      let fits : Fits (margin document) l.0.st (piece k bytes weight) = record { margin_is = l.1.margin_is; order = l.1.order; moved = l.1.moved; weighed = good.2; filled = good.3 } in
      let latest : (r.0.latest ≡ k) × (r.0.marked ≡ false) = grind arith in
      let is_last : r.0.latest ≡ k = latest.0 in (
        record {
          st = r.0;
          written = more nexts l.0.st (raw (piece k bytes weight)) refl l.0.written (raw_suits (piece k bytes weight) refl fits) tt (placing (piece k bytes weight) refl r.1);
          draws = r.2;
        },
        record {
          margin_is = sym r.2.margin ∙ l.0.draws.margin ∙ l.1.margin_is;
          order = omega arith;
          moved = λ t. absurd (let no : true ≡ false = sym t ∙ latest.1 in cc);
        },
      )

  break_step : (k : ℕ) (chunk : Chunk) (nexts : List Next) (s : PageSoFar) → (l : AfterText k nexts s) → Suits (margin document) l.0.st (break k chunk) → AfterText k (nexts ++ break k chunk ∷ []) (page.on_new_line s)
  break_step k chunk nexts s l suits = (
    record {
      st = broken k chunk l.0.st;
      written = more nexts l.0.st (break k chunk) refl l.0.written suits tt (breaking k chunk refl refl);
      draws =
          grind (arith, text_back_cons (Passed (Shows k chunk)) l.0.st.back, append-nil (text_back l.0.st.back), text_back_cons (Gap 10) (Passed (Shows k chunk) ∷ l.0.st.back), l.0.draws);
    },
    record { margin_is = l.1.margin_is; order = omega arith; moved = λ t. absurd cc },
  )

  longer : (nexts : List Next) (x : Next) (rest : List Next) (k : ℕ) (s : PageSoFar) → AfterText k ((nexts ++ x ∷ []) ++ rest) s → AfterText k (nexts ++ x ∷ rest) s
  longer nexts x rest k s l = subst (λ ns. AfterText k ns s) (append_assoc nexts (x ∷ []) rest) l

  text_steps : (k : ℕ) (chunks : List Chunk) (nexts : List Next) (s : PageSoFar) → AfterText k nexts s → Each IsText chunks → Each IsGood chunks
      → AfterText k (nexts ++ map (chunk_next k) chunks) (page.chunks_put width level chunks s)
  text_steps k [] nexts s l t g = subst (λ ns. AfterText k ns s) (sym (append-nil nexts)) l
  text_steps k (Raw bytes weight ∷ chunks) nexts s l t g =
      longer nexts (raw (piece k bytes weight)) (map (chunk_next k) chunks) k _ (text_steps k chunks _ _ (raw_step k bytes weight nexts s l t.0 g.0) t.1 g.1)
  text_steps k (LineBreak ∷ chunks) nexts s l t g =
      grind (arith, text_steps k chunks _ _ (break_step k LineBreak nexts s l (line_break_suits k refl l.1.order l.1.moved)) t.1 g.1, longer, break_step)
  text_steps k (Paragraph ∷ chunks) nexts s l t g =
      grind (arith, text_steps k chunks _ _ (break_step k Paragraph nexts s l (paragraph_suits k refl l.1.order l.1.moved)) t.1 g.1, longer, break_step)

-- ---- the parts

-- the events of some parts that begin at this place
abbrev pub events_from : Bool → List Part → ℕ → List Part → List Event
events_from full document k parts = flat_map (λ (j, part). part_events full document j part) (enumerate_from k parts)

map_append : (xs ys : List Next) → map next_event (xs ++ ys) ≡ map next_event xs ++ map next_event ys
map_append [] ys = refl
map_append (x ∷ xs) ys = ap (λ es. next_event x ∷ es) (map_append xs ys)

shows_chunks : (k : ℕ) (chunks : List Chunk) → map next_event (map (chunk_next k) chunks) ≡ map (λ chunk. Shows k chunk) chunks
shows_chunks k [] = refl
shows_chunks k (x ∷ xs) = ap (λ (e : Event). e ∷ map next_event (map (chunk_next k) xs)) (grind arith) ∙ ap (λ es. Shows k x ∷ es) (shows_chunks k xs)

shallow_append : (deepest : ℕ) (xs ys : List Next) → EachNext (IsShallow deepest) xs → EachNext (IsShallow deepest) ys → EachNext (IsShallow deepest) (xs ++ ys)
shallow_append deepest [] ys a b = b
shallow_append deepest (x ∷ xs) ys a b = (a.0, shallow_append deepest xs ys a.1 b)

shallow_chunks : (deepest k : ℕ) (chunks : List Chunk) → EachNext (IsShallow deepest) (map (chunk_next k) chunks)
shallow_chunks deepest k [] = tt
shallow_chunks deepest k (x ∷ chunks) = grind (arith, shallow_chunks deepest k chunks)

-- a part by its place
pub get_from_drop : {A : Type 0} (xs : List A) (k : ℕ) (x : A) (rest : List A) → drop k xs ≡ x ∷ rest → slice_get xs k ≡ Some x
get_from_drop (y ∷ ys) (suc k) x rest e = get_from_drop ys k x rest e
get_from_drop (y ∷ ys) zero x rest e = grind arith
get_from_drop [] (suc k) x rest e = grind arith
get_from_drop [] zero x rest e = grind arith

pub drop_next : {A : Type 0} (xs : List A) (k : ℕ) (x : A) (rest : List A) → drop k xs ≡ x ∷ rest → drop (k + 1) xs ≡ rest
drop_next (y ∷ ys) (suc k) x rest e = let next : suc k + 1 ≡ suc (k + 1) = omega arith in rw next (drop_next ys k x rest e)
drop_next (y ∷ ys) zero x rest e = grind arith
drop_next [] (suc k) x rest e = grind arith
drop_next [] zero x rest e = grind arith

module _ (full : Bool) (document : List Part) (width : ℕ) (few : length document < 2 ^ 59) (utf8 : (k : ℕ) (bytes : List ℕ) (style : Style) → slice_get document k ≡ Some (Text bytes style) → IsUtf8 bytes) where
  -- these parts are left, from this place on
  pub record Going (index : ℕ) (parts : List Part) (s : PageSoFar) : Type 0 where
    pub here : drop index document ≡ parts
    pub nexts : List Next
    pub later : Later document width (top (stack_at document index)) nexts s
    pub order : later.st.latest ≤ index
    pub moved : later.st.marked ≡ true → later.st.latest < index
    pub events : map next_event nexts ++ events_from full document index parts ≡ shown_events full document
    pub shallow : EachNext (IsShallow (greatest_margin document)) nexts

  module _ (index : ℕ) (part : Part) (rest : List Part) (s : PageSoFar) (g : Going index (part ∷ rest) s) where
    within : index < length document
    within = let n : length (drop index document) ≡ length (part ∷ rest) = ap length g.here in omega (arith, length-drop index document)

    -- the margin fits a usize
    fits : margin document index ≤ 18446744073709551615
    fits = omega (arith, margin-le document index, within, few)

    -- some chunks of this part are written, and no margin moves
    chunks_step : (added : List Next) (t : PageSoFar) → part_events full document index part ≡ map next_event added → shift_at document index part ≡ Level → EachNext (IsShallow (greatest_margin document)) added
        → AfterText document width (margin document index) index (g.nexts ++ added) t → Going (index + 1) rest t
    chunks_step added t e still shallow l = record {
      here = drop_next document index part rest g.here;
      nexts = g.nexts ++ added;
      later = record { st = l.0.st; written = l.0.written; draws = subst (λ n. Draws n t l.0.st) (sym (top-margin document index)) l.0.draws };
      order = let a : l.0.st.latest ≤ index = l.1.order in omega arith;
      moved = λ m. let a : l.0.st.latest ≤ index = l.1.order in omega arith;
      events = (grind (arith, map_append, append_assoc));
      shallow = shallow_append (greatest_margin document) g.nexts added g.shallow shallow;
    }

    -- before the chunks
    before_chunks : shift_at document index part ≡ Level → AfterText document width (margin document index) index g.nexts s
    before_chunks still =
        let same : margin document index ≡ top (stack_at document index) = margin-level document index part rest g.here still in (
          record { st = g.later.st; written = g.later.written; draws = subst (λ n. Draws n s g.later.st) (sym same) g.later.draws },
          record { margin_is = sym g.later.draws.margin ∙ sym same; order = g.order; moved = g.moved },
        )

    -- nothing is written of this part
    quiet_step : part_events full document index part ≡ [] → shift_at document index part ≡ Level → Going (index + 1) rest s
    quiet_step none still =
        chunks_step [] s none still tt (subst (λ ns. AfterText document width (margin document index) index ns s) (sym (append-nil g.nexts)) (before_chunks still))

    -- a mark is written
    mark_step : (event : Event) (t : PageSoFar) → part_events full document index part ≡ event ∷ [] → Draws (margin document index) t (passed event (margin document index) g.later.st)
        → Suits (margin document) g.later.st (mark event (margin document index)) → Going (index + 1) rest t
    mark_step event t one draws suits = record {
      here = drop_next document index part rest g.here;
      nexts = g.nexts ++ mark event (margin document index) ∷ [];
      later = record {
        st = passed event (margin document index) g.later.st;
        written = more g.nexts g.later.st (mark event (margin document index)) refl g.later.written suits tt (passing event (margin document index) refl refl);
        draws = subst (λ n. Draws n t (passed event (margin document index) g.later.st)) (sym (top-margin document index)) draws;
      };
      order = let a : g.later.st.latest ≤ index = g.order in omega arith;
      moved = λ m. let a : g.later.st.latest ≤ index = g.order in omega arith;
      events = (grind (arith, map_append, append_assoc));
      shallow = shallow_append (greatest_margin document) g.nexts (mark event (margin document index) ∷ []) g.shallow (margin-le-greatest document index within, tt);
    }

  part_step : (index : ℕ) (part : Part) (rest : List Part) (s : PageSoFar) → Going index (part ∷ rest) s → Going (index + 1) rest (page.part_put full width document index part s)
  part_step index (Text bytes style) rest s g =
      let chunks : List Chunk = shown_chunks full (take index document) bytes in
      let still : shift_at document index (Text bytes style) ≡ Level = grind arith in
      subst (λ n. Going (index + 1) rest (page.chunks_put width n chunks s)) (sym (omega (arith, fits index (Text bytes style) rest s g)))
      (chunks_step index (Text bytes style) rest s g (map (chunk_next index) chunks) (page.chunks_put width (margin document index) chunks s) (sym (shows_chunks index chunks)) still (shallow_chunks (greatest_margin document) index chunks)
      (text_steps document width (margin document index) index chunks g.nexts s (before_chunks index (Text bytes style) rest s g still)
      (grind (arith, each_taken, each_of_all IsText (chunks_of bytes) (text_chunks bytes (utf8 index bytes style (get_from_drop document index (Text bytes style) rest g.here))))) (grind (arith, each_taken, text_good bytes))))
  part_step index (Start b) rest s g =
      by_test (Going (index + 1) rest) (is_skipped document index) s (page.start_put b s)
      (λ e. quiet_step index (Start b) rest s g (rw e refl) (rw e refl))
      (λ e. mark_step index (Start b) rest s g (Opens b) (page.start_put b s) (rw e refl) (grind (arith, common_steps, by_test, text_back_cons, append-nil, g.later.draws))
      (open_suits b (margin document index) refl
      (λ h. let is : top (stack_at document index) ≡ g.later.st.margin = g.later.draws.margin in omega (arith, margin-level document index (Start b) rest g.here (shift_at-shown document index (Start b) e ∙ grind arith)))
      (fits index (Start b) rest s g)))
  part_step index (End b) rest s g =
      by_test (Going (index + 1) rest) (is_skipped document index) s (page.end_put b s)
      (λ e. quiet_step index (End b) rest s g (rw e refl) (rw e refl))
      (λ e. mark_step index (End b) rest s g (Closes b) (page.end_put b s) (rw e refl) (grind (arith, common_steps, by_test, text_back_cons, append-nil, and-false, and-true, g.later.draws))
      (close_suits b (margin document index) refl
      (let less : margin document index ≤ top (stack_at document index) = grind (arith, margin-level, top-margin, top, stack_at-more, falls_after, shift_at-shown, g.here) in
      let is : top (stack_at document index) ≡ g.later.st.margin = g.later.draws.margin in omega arith)
      (fits index (End b) rest s g)))

  -- all is done
  pub record Done (s : PageSoFar) : Type 0 where
    pub nexts : List Next
    pub level : ℕ
    pub later : Later document width level nexts s
    pub events : map next_event nexts ≡ shown_events full document
    pub shallow : EachNext (IsShallow (greatest_margin document)) nexts

  going_on : (parts : List Part) (index : ℕ) (s : PageSoFar) → Going index parts s → Done (page.parts_put full width document (enumerate_from index parts) s)
  going_on [] index s g = grind (arith, append-nil)
  going_on (part ∷ parts) index s g = going_on parts (index + 1) (page.part_put full width document index part s) (part_step index part parts s g)

  page_done : Done (page.parts_put full width document (numbered document) page.empty_page)
  page_done = going_on document 0 page.empty_page (record {
    here = refl;
    nexts = [];
    later = record {
      st = blank_page;
      written = nothing refl refl;
      draws = record { bytes = refl; column = refl; asked = refl; body = refl; margin = refl; legible = tt; fits = omega arith };
    };
    order = omega arith;
    moved = λ m. absurd cc;
    events = refl;
    shallow = tt;
  })

-- ---- the ink of a text by its stretches

abbrev event_ink : Event → List ℕ
event_ink (Shows k chunk) = chunk_ink chunk
event_ink (Opens b) = mark_bytes b
event_ink (Closes b) = mark_bytes b

ink_back : (r : List Stretch) → IsLegible r → EachPassed NoInk r → ink (text_back r) ≡ flat_map event_ink (reverse (events_back r))
ink_back [] legible none = ink-nil
ink_back (x ∷ r) legible none =
    grind (arith, ink_back r, text_back_cons, ink, gap_ink, text_utf8, ink-append, trim_ink, reverse_cons, flat_map-append, append-nil, ink-nil, ink-backquote)

-- ---- the ink of what is shown

chunks_ink : (k : ℕ) (chunks : List Chunk) → flat_map event_ink (map (λ chunk. Shows k chunk) chunks) ≡ flat_map chunk_ink chunks
chunks_ink k [] = refl
chunks_ink k (chunk ∷ chunks) = ap (λ more. chunk_ink chunk ++ more) (chunks_ink k chunks)

part_ink : (full : Bool) (document : List Part) (k : ℕ) (part : Part) → slice_get document k ≡ Some part → flat_map event_ink (part_events full document k part) ≡ shown_part_ink full (take k document) part
part_ink z0 document k z3 there = grind (arith, chunks_ink, skipped_by, pair_there, there)

parts_ink : (full : Bool) (document parts : List Part) (k : ℕ) → drop k document ≡ parts
    → flat_map event_ink (events_from full document k parts) ≡ flat_map (λ (k, part). shown_part_ink full (take k document) part) (enumerate_from k parts)
parts_ink full document [] k here = refl
parts_ink full document (part ∷ parts) k here =
    grind (arith, parts_ink full document parts (k + 1) (drop_next document k part parts here), flat_map-append, event_ink, part_ink, get_from_drop, drop_next)

-- ---- the page

pub text_is_utf8 : (document : List Part) → HasUtf8Texts document → (k : ℕ) (bytes : List ℕ) (style : Style) → slice_get document k ≡ Some (Text bytes style) → IsUtf8 bytes
text_is_utf8 document all k bytes style at =
    let part : Part = Text bytes style in
    subst (λ p. IsUtf8 (part_bytes p)) (get_or_from_slice_get document k part part at)
    (All-get_or (λ p. IsUtf8 (part_bytes p)) document k part (slice_get_within document k part at) all)

module _ (full : Bool) (width : ℕ) (document : List Part) (all : HasUtf8Texts document) (few : length document < 2 ^ 59) where
  abbrev page_at_end : PageSoFar
  page_at_end = page.parts_put full width document (numbered document) page.empty_page

  ended : Done full document width few (text_is_utf8 document all) page_at_end
  ended = page_done full document width few (text_is_utf8 document all)

  pub page_ink : ink (console_page full width document) ≡ console_ink full document
  page_ink =
      grind (arith, ended, text_utf8, ink-append, ink, gap_ink, append-nil, ink_back, written_base, written_events, reverse-reverse, parts_ink)

  -- the text of the page is that of its stretches, with a last newline where one is asked for
  pub page_layout : IsLayout document full width (console_page full width document)
  page_layout =
      by_test (λ text. ink text ≡ console_ink full document → IsLayout document full width text) (page.asks_line page_at_end.request) _ _
      (λ h. layout (Gap 10 ∷ ended.later.st.back) (with_newline refl) (ap (λ bs. bs ++ 10 ∷ []) ended.later.draws.bytes ∙ sym (text_back_cons (Gap 10) ended.later.st.back)))
      (λ h. layout ended.later.st.back (as_is refl) ended.later.draws.bytes) page_ink where
        layout : (final : List Stretch) {text : List ℕ} → Ends ended.later.st final → text ≡ text_back final → ink text ≡ console_ink full document → IsLayout document full width text
        layout final ends is same = grind (arith, layout_of_page, ended)

pub exact_page_is_layout : IsExactPageLayout
exact_page_is_layout full width document utf8 few = page_layout full width document utf8 few
