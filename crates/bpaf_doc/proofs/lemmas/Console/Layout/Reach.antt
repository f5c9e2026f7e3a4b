-- How much of a line is taken since a chunk, reckoned by some rule; and that the
-- line is broken only where the next chunk has no room.
use Rattle.std.specs.Prelude.{◌+◌, ◌<◌, ◌∷◌, ◌≡◌, ◌≤◌, ◌⊎◌}
use Rattle.bpaf_doc.proofs.lemmas.Console.Words.{IsTrue, list_all, sym, subst, ap, arith, ◌∙◌, ℕ, Bool, true, false, List, [], length, refl, and_parts, Block, Request, NoBreak, Chunk, Raw, Paragraph, LineBreak, columns, is_ordinary, Event, Shows, Opens, Closes, Stretch, Gap, Placed, Passed, Place, chunk_at, event_bytes, is_silent_block}
use Rattle.bpaf_doc.proofs.lemmas.Console.Layout.State.{State, Piece, Lines, Pads, Begins, first, stays, wraps, Next, raw, break, mark, Grows, padded, trimmed, sat, wrapped, put, passed, dropped, broken, asked_after, pending_after, Suits, IsShallow}
use Rattle.bpaf_doc.proofs.lemmas.Console.Layout.Back.{EachPlace, each_grows, place_of, fits_of, same_padded, by_mark, by_grows, Fills, column_back, column_padded, Agrees, IsStarting, agrees_lines, no_text_column}
use Rattle.bpaf_doc.proofs.lemmas.Console.Layout.Alone.{place_in}
use Rattle.bpaf_doc.proofs.lemmas.Console.Layout.Split.{events_back, after_lines, Cut, FirstOrLater, here, later, cut_cons, cut_gap, cut_passed, cut_padded, FromTrimmed, cut_trimmed, has_newline, After}

-- ---- rules

-- Which chunks are looked at; what may follow them, and whether chunks may; what an
-- event takes of the line, and what all since the chunk do.
pub record Rule : Type 0 where
  pub begins : Chunk → Bool
  pub follows : Event → Bool
  pub has_chunks : Bool
  pub takes : Event → ℕ
  pub taken : List Event → ℕ

-- what some events take, one by one
abbrev pub sum_of : (Event → ℕ) → List Event → ℕ
sum_of takes [] = 0
sum_of takes (x ∷ xs) = takes x + sum_of takes xs

-- the piece as a document event
abbrev pub shown : Piece → Event
shown p = Shows p.part (Raw p.bytes p.weight)

-- an ordinary chunk weighs its columns
abbrev pub IsWeighed : Piece → Type 0
IsWeighed p = IsTrue (is_ordinary (Raw p.bytes p.weight)) → p.weight ≡ columns p.bytes

-- what a mark does that may follow, where the margin goes from this level to the next
pub record IsQuiet (rule : Rule) (level next : ℕ) (event : Event) : Type 0 where
  pub asked : (a : Request) → asked_after event a ≡ a
  pub bytes : length (event_bytes event) ≤ rule.takes event
  pub pending : rule.has_chunks ≡ true → (p : Bool) → pending_after event p ≡ true → (p ≡ true) ⊎ (length (event_bytes event) + 2 ≤ rule.takes event)
  pub margin : rule.has_chunks ≡ true → (es : List Event) → (next ≤ level) ⊎ (next ≤ rule.taken (event ∷ es))

-- the rule takes account of all that moves the column or the margin, where no margin is deeper than this
pub record IsSound (width deepest : ℕ) (rule : Rule) : Type 0 where
  pub more : (event : Event) (es : List Event) → rule.takes event + rule.taken es ≤ rule.taken (event ∷ es)
  pub weighs : (p : Piece) → IsWeighed p → rule.begins (Raw p.bytes p.weight) ≡ true → p.weight ≤ rule.takes (shown p)
  pub chunk : (p : Piece) → IsWeighed p → rule.follows (shown p) ≡ true
      → (rule.has_chunks ≡ true) × (p.weight ≤ rule.takes (shown p)) × ((columns p.bytes ≤ rule.takes (shown p)) ⊎ (width < rule.takes (shown p)))
  pub opens : (b : Block) (level margin : ℕ) → rule.follows (Opens b) ≡ true → (is_silent_block b ≡ true → margin ≤ level) → margin ≤ deepest
      → IsQuiet rule level margin (Opens b)
  pub closes : (b : Block) (level margin : ℕ) → rule.follows (Closes b) ≡ true → margin ≤ level → IsQuiet rule level margin (Closes b)
  pub paragraph : (k : ℕ) → rule.follows (Shows k Paragraph) ≡ false
  pub line_break : (k : ℕ) → rule.follows (Shows k LineBreak) ≡ false

passes : (width end some most : ℕ) → (some ≤ most) ⊎ (width < most) → width < end + some → width < end + most
passes width end some most h over = grind arith

module _ (width : ℕ) (rule : Rule) where
  -- where all since e would end at most, if it stood in its line
  abbrev pub end_of : List Event → Place → List Stretch → ℕ
  end_of es e before = column_back before + rule.takes (Shows e.part (chunk_at e)) + rule.taken es

  -- what is known of the page there
  pub record InReach (end : ℕ) (st : State) : Type 0 where
    pub column : st.column ≤ end
    pub asked : st.asked ≡ NoBreak
    pub margin : rule.has_chunks ≡ true → st.margin ≤ end
    pub pending : rule.has_chunks ≡ true → st.pending ≡ true → st.column + 2 ≤ end

  pub record Known (st : State) (m : List Stretch) (e : Place) (before : List Stretch) : Type 0 where
    pub reach : InReach (end_of (events_back m) e before) st
    pub needed : has_newline m ≡ true → width < end_of (events_back m) e before

  -- the chunk is looked at, and all since may follow
  abbrev pub IsRun : List Stretch → Place → Type 0
  IsRun m e = (rule.begins (chunk_at e) ≡ true) × (list_all rule.follows (events_back m) ≡ true)

  abbrev pub IsRoomy : State → Type 0
  IsRoomy st = (m before : List Stretch) (e : Place) → Cut st.back m e before → IsRun m e → Known st m e before

  -- it is broken before this chunk only where there is no room
  abbrev pub HasNoRoom : List Stretch → Place → Type 0
  HasNoRoom r f = (m before : List Stretch) (e : Place) → Cut r m e before → IsRun m e → has_newline m ≡ true → width < end_of (events_back m) e before + columns f.bytes

  -- what holds of a page by the rule
  pub record BreaksBy (st : State) : Type 0 where
    pub roomy : IsRoomy st
    pub no_room : EachPlace HasNoRoom st.back

  run_on : (m others : List Stretch) (e : Place) → events_back others ≡ events_back m → IsRun m e → IsRun others e
  run_on m others e same run = (run.0, subst (λ es. list_all rule.follows es ≡ true) (sym same) run.1)

  known_lines : {st mid : State} → IsRoomy st → Lines st mid → (m before : List Stretch) (e : Place) → Cut mid.back m e before → IsRun m e
      → Known mid m e before
  known_lines {st} {mid} h l m before e there run = grind (arith, after_lines l m before e there, there)

  -- the page without its blank end
  known_trimmed : {st mid : State} → IsRoomy st → Lines st mid → (m before : List Stretch) (e : Place) → Cut (trimmed mid.back) m e before → IsRun m e
      → InReach (end_of (events_back m) e before) mid
  known_trimmed {st} {mid} h l m before e there run =
      let old : FromTrimmed mid.back m e before = cut_trimmed mid.back m e before there in
      let on : IsRun old.rest e = run_on m old.rest e old.events run in
      let same : end_of (events_back old.rest) old.place before ≡ end_of (events_back m) e before =
      ap (λ (x : Event). column_back before + rule.takes x + rule.taken (events_back old.rest)) old.same ∙ ap (λ es. end_of es e before) old.events in
      subst (λ (end : ℕ). InReach end mid) same (known_lines h l old.rest before old.place old.there (ap rule.begins (cc old.same) ∙ on.0, on.1)).reach

  -- what is known at the chunk that is placed next
  record Ready (p : Piece) (base : State) (m : List Stretch) (e : Place) (before : List Stretch) : Type 0 where
    reach : InReach (end_of (events_back m) e before) base
    needed : has_newline m ≡ true → width < end_of (events_back m) e before + columns p.bytes

  ready_begins : {st : State} (p : Piece) (base : State) → IsStarting st → IsRoomy st → Begins width st p base → (m before : List Stretch) (e : Place)
      → Cut base.back m e before → IsRun m e
      → Ready p base m e before
  ready_begins {st} p base start h (first t s) m before e there run = grind (arith, place_in)
  ready_begins p base start h (stays t l w) m before e there run = grind (arith, known_lines)
  ready_begins p base start h (wraps t mid l w b s) m before e there run =
      let gap : After (λ x. Gap 10 ∷ x) (trimmed mid.back) m e before = cut_gap 10 (trimmed mid.back) m e before (subst (λ (x : State). Cut x.back m e before) s there) in
      let reach : InReach (end_of (events_back m) e before) mid = grind (arith, known_trimmed, run_on) in
      record {
        reach = subst (InReach (end_of (events_back m) e before)) (sym s) (grind arith);
        needed = λ n. let column : mid.column ≤ end_of (events_back m) e before = reach.column in omega arith;
      }

  ready_padded : {st : State} (p : Piece) (base : State) (n : ℕ) → IsStarting st → IsRoomy st → Begins width st p base
      → (m before : List Stretch) (e : Place) → Cut (padded n base.back) m e before → IsRun m e
      → Ready p base m e before
  ready_padded p base n start h b m before e there run =
      let found : After (padded n) base.back m e before = cut_padded n base.back m e before there in
      let same : events_back found.rest ≡ events_back m = sym (ap events_back found.is ∙ same_padded events_back (λ x. refl) n found.rest) in
      let line : has_newline m ≡ has_newline found.rest = ap has_newline found.is ∙ same_padded has_newline (λ x. refl) n found.rest in
      let ready : Ready p base found.rest e before = ready_begins p base start h b found.rest before e found.there (run_on m found.rest e same run) in
      record {
        reach = subst (λ es. InReach (end_of es e before) base) same ready.reach;
        needed = λ t. subst (λ es. width < end_of es e before + columns p.bytes) same (ready.needed (sym line ∙ t));
      }

  no_room_grows : {st after : State} {next : Next} → IsStarting st → IsRoomy st → Grows width st next after → EachPlace HasNoRoom st.back
      → EachPlace HasNoRoom after.back
  no_room_grows {st} {after} {next} start h g all = each_grows HasNoRoom (λ r f i x. x) core g all where
    core : (p : Piece) (base : State) (n : ℕ) → next ≡ raw p → Begins width st p base → Pads base n → HasNoRoom (padded n base.back) (place_of p)
    core p base n e b d = λ m before g there run line. (ready_padded p base n start h b m before g there run).needed line

  module _ (deepest : ℕ) (sound : IsSound width deepest rule) where
    known_put : {st : State} (p : Piece) (base : State) (n : ℕ) → width < 1_000_000 → EachPlace Fills st.back → IsStarting st → Agrees st → IsWeighed p
        → Begins width st p base → Pads base n → IsRoomy st → IsRoomy (put n p.part p.bytes p.weight base)
    known_put p base n small f start agrees weighed b d h =
        λ m before e there run. at m before e run (cut_cons (Placed (place_of p)) (padded n base.back) m e before there) where
          at : (m before : List Stretch) (e : Place) → IsRun m e → FirstOrLater (Placed (place_of p)) (padded n base.back) m e before
              → Known (put n p.part p.bytes p.weight base) m e before
          at m before e run (here none is rest) = grind (arith, no_text_column, agrees_lines, column_padded)
          at m before e run (later rest is there) =
              let parts : (rule.follows (shown p) ≡ true) × IsRun rest e = grind (arith, and_parts) in
              let chunk : (rule.has_chunks ≡ true) × (p.weight ≤ rule.takes (shown p)) × ((columns p.bytes ≤ rule.takes (shown p)) ⊎ (width < rule.takes (shown p))) = sound.chunk p weighed parts.0 in
              let ready : Ready p base rest e before = ready_padded p base n start h b rest before e there parts.1 in
              let total : rule.taken (events_back m) ≡ rule.taken (shown p ∷ events_back rest) = ap rule.taken (ap events_back is) in
              let a : base.column + n ≤ end_of (events_back rest) e before = grind arith in
              record {
                reach = record {
                  column = omega arith;
                  asked = refl;
                  margin = λ c. let old : base.margin ≤ end_of (events_back rest) e before = ready.reach.margin c in omega arith;
                  pending = λ c t. absurd cc;
                };
                needed = λ t.
                    let over : width < end_of (events_back rest) e before + rule.takes (shown p) =
                    passes width (end_of (events_back rest) e before) (columns p.bytes) (rule.takes (shown p)) chunk.2 (ready.needed (sym (ap has_newline is) ∙ t)) in omega arith;
              }

    known_dropped : {st mid : State} (p : Piece) → IsWeighed p → Lines st mid → width < sat (mid.column + columns p.bytes) → IsRoomy st
        → IsRoomy (dropped p.part p.bytes p.weight (wrapped mid))
    known_dropped {mid = mid} p weighed l w h =
        λ m before e there run. at m before e run (cut_passed (shown p) (Gap 10 ∷ trimmed mid.back) m e before there) where
          at : (m before : List Stretch) (e : Place) → IsRun m e → After (λ x. Passed (shown p) ∷ x) (Gap 10 ∷ trimmed mid.back) m e before
              → Known (dropped p.part p.bytes p.weight (wrapped mid)) m e before
          at m before e run found =
              let gap : After (λ x. Gap 10 ∷ x) (trimmed mid.back) found.rest e before = cut_gap 10 (trimmed mid.back) found.rest e before found.there in
              let parts : (rule.follows (shown p) ≡ true) × IsRun gap.rest e = grind (arith, and_parts) in
              let reach : InReach (end_of (events_back gap.rest) e before) mid = known_trimmed h l gap.rest before e gap.there parts.1 in
              let total : rule.taken (events_back m) ≡ rule.taken (shown p ∷ events_back gap.rest) = ap rule.taken (ap events_back found.is ∙ ap (λ es. shown p ∷ es) (ap events_back gap.is)) in
              let column : mid.column ≤ end_of (events_back gap.rest) e before = reach.column in
              record {
                reach = record {
                  column = omega arith;
                  asked = reach.asked;
                  margin = λ c. let old : mid.margin ≤ end_of (events_back gap.rest) e before = reach.margin c in omega arith;
                  pending = λ c t. let two : mid.column + 2 ≤ end_of (events_back gap.rest) e before = reach.pending c t in omega arith;
                };
                needed = λ t.
                    let over : width < end_of (events_back gap.rest) e before + rule.takes (shown p) =
                    passes width (end_of (events_back gap.rest) e before) (columns p.bytes) (rule.takes (shown p)) (sound.chunk p weighed parts.0).2 (omega arith) in omega arith;
              }

    known_passed : (event : Event) (margin : ℕ) (st : State) → (rule.follows event ≡ true → IsQuiet rule st.margin margin event) → IsRoomy st
        → IsRoomy (passed event margin st)
    known_passed event margin st quiet h = grind (arith, cut_passed event st.back, passed event margin st, and_parts)

    known_broken : {margin_of : ℕ → ℕ} (st : State) (next : Next) (k : ℕ) (chunk : Chunk) → Suits margin_of st next → next ≡ break k chunk
        → IsRoomy (broken k chunk st)
    known_broken st next k chunk suits e = grind (arith, cut_gap 10 (Passed (Shows k chunk) ∷ st.back), cut_passed (Shows k chunk) st.back, and_parts)

    quiet_mark : {margin_of : ℕ → ℕ} (st : State) (next : Next) (event : Event) (margin : ℕ) → Suits margin_of st next → next ≡ mark event margin
        → margin ≤ deepest
        → rule.follows event ≡ true → IsQuiet rule st.margin margin event
    quiet_mark st next event margin suits e = by_mark (λ x m. m ≤ deepest → rule.follows x ≡ true → IsQuiet rule st.margin m x) suits e
        (λ b m l u deep f. sound.opens b st.margin m f l deep) (λ b m l u deep f. sound.closes b st.margin m f l)

    roomy_grows : {margin_of : ℕ → ℕ} {st after : State} {next : Next} → width < 1_000_000 → EachPlace Fills st.back → IsStarting st → Agrees st
        → Suits margin_of st next → IsShallow deepest next
        → Grows width st next after → IsRoomy st → IsRoomy after
    roomy_grows {st = st} {next = next} small f start agrees suits shallow g h = by_grows IsRoomy g
        (λ p base n e b d. known_put p base n small f start agrees (fits_of suits e).weighed b d h) (λ p mid e l w b. known_dropped p (fits_of suits e).weighed l w h)
        (λ k chunk e. known_broken st next k chunk suits e)
        (λ event margin e. known_passed event margin st (quiet_mark st next event margin suits e (subst (IsShallow deepest) e shallow)) h)

    pub breaks_grows : {margin_of : ℕ → ℕ} {st after : State} {next : Next} → width < 1_000_000 → EachPlace Fills st.back → IsStarting st → Agrees st
        → Suits margin_of st next → IsShallow deepest next
        → Grows width st next after → BreaksBy st → BreaksBy after
    breaks_grows small f start agrees suits shallow g h = record { roomy = roomy_grows small f start agrees suits shallow g h.roomy; no_room = no_room_grows start h.roomy g h.no_room }
