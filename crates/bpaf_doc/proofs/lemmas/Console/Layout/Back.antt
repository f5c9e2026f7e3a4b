-- Facts that hold of each place of a page, and what keeps them; the column and the text of a page as it grows.
use Rattle.std.specs.Prelude.{IsTrue, ◌≡◌, ℕ, zero, suc, ◌+◌, ◌<◌, ◌≤◌, ⊤, Bool, true, false, List, [], ◌∷◌, ◌++◌, codes, refl, if◌then◌else◌, not, ◌&&◌, ◌||◌, ◌==◌, length, filter, chars, ◌⊎◌}
use Rattle.bpaf_doc.proofs.lemmas.Console.Words.{arith, sym, subst, ◌∙◌, rules, inl, inr, Chunk, Paragraph, LineBreak, columns, is_inked, has_some, Raw, is_ordinary, code_weight, fence_weight, Block, Event, Shows, Opens, Closes, is_silent_block, Stretch, Gap, Placed, Passed, Place, chunk_at, event_bytes, stretch_columns, is_newline, is_inked_stretch, is_placed, is_written, is_not_whitespace, cases_lt, length-le-encodes, nat_tests, ink, list_any, shows_chunk}
use Rattle.bpaf_doc.proofs.lemmas.Console.Layout.State.{State, Piece, Lines, Pads, Begins, places, drops, Next, raw, break, mark, Grows, placing, breaking, passing, padded, trimmed, cut, Fits, Suits, on_new_line, sat, put, dropped, wrapped, broken, passed, has_text, ends_line, IsClear}
use Rattle.std.specs.Str.{trim_end, drop_trailing_whitespace, chars}
use Rattle.unicode_width.specs.Width.{str_width}

-- ---- facts that hold of each place of a page, and what keeps them

pub by_cases : (b : Bool) → (b ≡ true) ⊎ (b ≡ false)
by_cases s = grind arith

-- P of what a test chooses
pub by_test : {A : Type 0} (P : A → Type 0) (b : Bool) (x y : A) → (b ≡ true → P x) → (b ≡ false → P y) → P (if b then x else y)
by_test P s x y holds fails = grind arith

-- P of each place and what stands before it, newest first
abbrev pub EachPlace : (List Stretch → Place → Type 0) → List Stretch → Type 0
EachPlace P [] = ⊤
EachPlace P (Gap b ∷ r) = EachPlace P r
EachPlace P (Passed event ∷ r) = EachPlace P r
EachPlace P (Placed f ∷ r) = P r f × EachPlace P r

pub each_back : (P : List Stretch → Place → Type 0) (m r : List Stretch) → EachPlace P (m ++ r) → EachPlace P r
each_back P [] r h = h
each_back P (s ∷ m) r h = grind (arith, each_back P m r)

abbrev pub KeepsCut : (List Stretch → Place → Type 0) → Type 0
KeepsCut P = (r : List Stretch) (f : Place) → is_inked (chunk_at f) ≡ true → P r f → P r (cut f)

-- P of a page with one blank more is P of it with some more
pub by_padded : (P : List Stretch → Type 0) → ((r : List Stretch) → P r → P (Gap 32 ∷ r)) → (n : ℕ) (r : List Stretch) → P r → P (padded n r)
by_padded P more zero r h = h
by_padded P more (suc n) r h = more (padded n r) (by_padded P more n r h)

-- what a blank leaves as it is, some blanks do
pub same_padded : {X : Type 0} (f : List Stretch → X) → ((r : List Stretch) → f (Gap 32 ∷ r) ≡ f r) → (n : ℕ) (r : List Stretch) → f (padded n r) ≡ f r
same_padded f same n r = by_padded (λ t. f t ≡ f r) (λ t e. same t ∙ e) n r refl

-- P of the page and of the trimmed page, by the stretch that the page ends in
pub by_trimmed : (P : List Stretch → List Stretch → Type 0) → P [] [] → ((b : ℕ) (r t : List Stretch) → P r t → P (Gap b ∷ r) t)
    → ((e : Place) (r : List Stretch) → is_inked (chunk_at e) ≡ true → P (Placed e ∷ r) (Placed (cut e) ∷ r))
    → ((e : Place) (r t : List Stretch) → is_inked (chunk_at e) ≡ false → P r t → P (Placed e ∷ r) (Passed (Shows e.part (chunk_at e)) ∷ t))
    → ((event : Event) (r : List Stretch) → has_some (event_bytes event) ≡ true → P (Passed event ∷ r) (Passed event ∷ r))
    → ((event : Event) (r t : List Stretch) → has_some (event_bytes event) ≡ false → P r t → P (Passed event ∷ r) (Passed event ∷ t))
    → (r : List Stretch) → P r (trimmed r)
by_trimmed P none gap inked plain bytes bare [] = none
by_trimmed P none gap inked plain bytes bare (s ∷ r) = grind (arith, by_trimmed P none gap inked plain bytes bare r, by_test)

-- Q of the page on which all is written that was asked for
pub by_lines : (Q : State → Type 0) {st mid : State} → Lines st mid → Q st → Q (on_new_line st) → Q (record st { back = Gap 10 ∷ st.back }) → Q (on_new_line (on_new_line st)) → Q mid
by_lines Q s same line second both = grind arith

-- P of its stretches, where one newline more keeps it
pub lines_back : (P : List Stretch → Type 0) → ((r : List Stretch) → P r → P (Gap 10 ∷ r)) → {st mid : State} → Lines st mid → P st.back → P mid.back
lines_back P more {st} l h = by_lines (λ s. P s.back) l h (more st.back h) (more st.back h) (more (Gap 10 ∷ st.back) (more st.back h))

-- and P of those before a chunk, where a new line keeps it
pub begins_back : (P : List Stretch → Type 0) → ((r : List Stretch) → P r → P (Gap 10 ∷ r)) → ((r : List Stretch) → P r → P (Gap 10 ∷ trimmed r))
    → {width : ℕ} {st : State} {p : Piece} {base : State} → Begins width st p base → P st.back → P base.back
begins_back P more wrap z h = grind (arith, lines_back)

pub each_trimmed : (P : List Stretch → Place → Type 0) → KeepsCut P → (r : List Stretch) → EachPlace P r → EachPlace P (trimmed r)
each_trimmed P keeps = by_trimmed (λ r t. EachPlace P r → EachPlace P t) (λ h. h) (λ b r t ih h. ih h) (λ e r i h. (keeps r e i h.0, h.1)) (λ e r t i ih h. ih h.1) (λ event r i h. h) (λ event r t i ih h. ih h)

pub each_begins : (P : List Stretch → Place → Type 0) → KeepsCut P → {width : ℕ} {st : State} {p : Piece} {base : State} → Begins width st p base
    → EachPlace P st.back → EachPlace P base.back
each_begins P keeps b h = begins_back (EachPlace P) (λ r x. x) (each_trimmed P keeps) b h

-- Q of the page after what comes next: a chunk is placed or dropped, a line is broken, or a mark is passed
pub by_grows : {width : ℕ} {st after : State} {next : Next} (Q : State → Type 0) → Grows width st next after
    → ((p : Piece) (base : State) (n : ℕ) → next ≡ raw p → Begins width st p base → Pads base n → Q (put n p.part p.bytes p.weight base))
    → ((p : Piece) (mid : State) → next ≡ raw p → Lines st mid → width < sat (mid.column + columns p.bytes) → p.bytes ≡ codes " " → Q (dropped p.part p.bytes p.weight (wrapped mid)))
    → ((k : ℕ) (chunk : Chunk) → next ≡ break k chunk → Q (broken k chunk st))
    → ((event : Event) (margin : ℕ) → next ≡ mark event margin → Q (passed event margin st)) → Q after
by_grows Q (placing p e (places base n b d a)) if_put if_dropped if_broken if_passed = subst Q (sym a) (if_put p base n e b d)
by_grows Q (placing p e (drops t mid l w b a)) if_put if_dropped if_broken if_passed = subst Q (sym a) (if_dropped p mid e l w b)
by_grows Q (breaking k chunk e a) if_put if_dropped if_broken if_passed = subst Q (sym a) (if_broken k chunk e)
by_grows Q (passing event margin e a) if_put if_dropped if_broken if_passed = subst Q (sym a) (if_passed event margin e)

-- the place that a piece gets
abbrev pub place_of : Piece → Place
place_of p = record { part = p.part; bytes = p.bytes; weight = p.weight; shown = p.bytes }

-- what holds of a piece where it is placed holds of each place as the page grows
pub each_grows : (P : List Stretch → Place → Type 0) → KeepsCut P → {width : ℕ} {st after : State} {next : Next}
    → ((p : Piece) (base : State) (n : ℕ) → next ≡ raw p → Begins width st p base → Pads base n → P (padded n base.back) (place_of p))
    → Grows width st next after → EachPlace P st.back → EachPlace P after.back
each_grows P keeps core g h = by_grows (λ s. EachPlace P s.back) g
    (λ p base n e b d. (core p base n e b d, by_padded (EachPlace P) (λ x y. y) n base.back (each_begins P keeps b h)))
    (λ p mid e l w b. each_trimmed P keeps mid.back (lines_back (EachPlace P) (λ r x. x) l h)) (λ k chunk e. h) (λ event margin e. h)

-- what suits a chunk that is placed
pub fits_of : {margin_of : ℕ → ℕ} {st : State} {next : Next} {p : Piece} → Suits margin_of st next → next ≡ raw p → Fits margin_of st p
fits_of h1 h2 = grind arith

-- Q of a mark that comes next, where it opens a block and where it closes one
pub by_mark : {margin_of : ℕ → ℕ} {st : State} {next : Next} {event : Event} {margin : ℕ} (Q : Event → ℕ → Type 0) → Suits margin_of st next
    → next ≡ mark event margin
    → ((b : Block) (m : ℕ) → (is_silent_block b ≡ true → m ≤ st.margin) → m ≤ 18446744073709551615 → Q (Opens b) m)
    → ((b : Block) (m : ℕ) → m ≤ st.margin → m ≤ 18446744073709551615 → Q (Closes b) m) → Q event margin
by_mark Q h1 h2 h3 h4 = grind arith

-- Q of a break that comes next, at a Paragraph and at a LineBreak
pub by_break : {margin_of : ℕ → ℕ} {st : State} {next : Next} {k : ℕ} {chunk : Chunk} (Q : Chunk → ℕ → Type 0) → Suits margin_of st next → next ≡ break k chunk
    → ((j : ℕ) → st.latest ≤ j → (st.marked ≡ true → st.latest < j) → Q Paragraph j)
    → ((j : ℕ) → st.latest ≤ j → (st.marked ≡ true → st.latest < j) → Q LineBreak j) → Q chunk k
by_break Q h1 h2 h3 h4 = grind arith

-- ---- a chunk with ink keeps some bytes when its blank end is cut

pub whole_trim : (cs : List ℕ) → has_some (filter is_not_whitespace cs) ≡ true → 0 < length (drop_trailing_whitespace cs)
whole_trim [] h = absurd cc
whole_trim (c ∷ cs) h = grind (arith, nat_tests, whole_trim cs)

some_of_length : (xs : List ℕ) → 0 < length xs → has_some xs ≡ true
some_of_length xs h = grind arith

pub inked_trim : (bytes : List ℕ) → has_some (ink bytes) ≡ true → has_some (trim_end bytes) ≡ true
unfolding trim_end
inked_trim bytes h = search (rules, whole_trim, some_of_length, length-le-encodes)

pub inked_some : (bytes : List ℕ) → has_some (ink bytes) ≡ true → has_some bytes ≡ true
unfolding chars
inked_some bytes h = grind arith

-- ---- what is shown of a chunk is empty only where the chunk is

abbrev pub Fills : List Stretch → Place → Type 0
Fills r f = has_some f.shown ≡ has_some f.bytes

pub fills_cut : KeepsCut Fills
fills_cut r f i h = inked_trim f.bytes i ∙ sym (inked_some f.bytes i)

pub fills_grows : {width : ℕ} {st after : State} {next : Next} → Grows width st next after → EachPlace Fills st.back → EachPlace Fills after.back
fills_grows g h = each_grows Fills fills_cut (λ p base n e b d. refl) g h

-- ---- the column in the last line

abbrev pub column_back : List Stretch → ℕ
column_back [] = 0
column_back (x ∷ r) = if is_newline x then 0 else (stretch_columns x + column_back r)

-- one of the stretches of the last line
abbrev pub any_in_line : (Stretch → Bool) → List Stretch → Bool
any_in_line p [] = false
any_in_line p (x ∷ r) = if is_newline x then false else (p x || any_in_line p r)

pub column_padded : (n : ℕ) (r : List Stretch) → column_back (padded n r) ≡ n + column_back r
column_padded zero r = omega arith
column_padded (suc n) r = let ih : column_back (padded n r) ≡ n + column_back r = column_padded n r in omega arith

no_columns : columns [] ≡ 0
unfolding chars str_width
no_columns = refl

pub no_bytes : (xs : List ℕ) → has_some xs ≡ false → length xs ≡ 0
no_bytes xs h = grind arith

-- a page that ends in a newline is at column 0
pub ends_line_column : (r : List Stretch) → EachPlace Fills r → ends_line r ≡ true → column_back r ≡ 0
ends_line_column [] f h = refl
ends_line_column (x ∷ r) f h = grind (arith, ends_line_column r, no_columns, no_bytes)

-- a page without text is at column 0
pub no_text_column : (r : List Stretch) → EachPlace Fills r → has_text r ≡ false → column_back r ≡ 0
no_text_column [] f h = refl
no_text_column (x ∷ r) f h = grind (arith, no_text_column r, no_columns, no_bytes)

-- ---- the column that is kept

-- the column that is kept is the page's, or no chunk fits after it
abbrev pub Agrees : State → Type 0
Agrees st = (st.column ≡ column_back st.back) ⊎ (1_000_000 ≤ st.column)

pub agrees_lines : {st mid : State} → EachPlace Fills st.back → Lines st mid → Agrees st → Agrees mid
agrees_lines f e h = grind (arith, ends_line_column)

pub heavy : (weight : ℕ) → (not (weight == code_weight) && not (weight == fence_weight)) ≡ false → 1_000_000 ≤ weight
heavy weight o = grind (arith, nat_tests)

pub sat_agrees : (a b : ℕ) → a ≡ b → (sat a ≡ b) ⊎ (1_000_000 ≤ sat a)
sat_agrees a b e = elim (cases_lt a 18446744073709551616) [ inl l ↦ inl (omega arith) | inr l ↦ inr (omega arith) ]

pub agrees_put : (n : ℕ) (p : Piece) (base : State) → (IsTrue (is_ordinary (Raw p.bytes p.weight)) → p.weight ≡ columns p.bytes) → Agrees base → Agrees (put n p.part p.bytes p.weight base)
agrees_put n p base weighed h = grind (arith, sat_agrees, column_padded, heavy)

pub agrees_grows : {width : ℕ} {margin_of : ℕ → ℕ} {st after : State} {next : Next} → Suits margin_of st next → EachPlace Fills st.back
    → Grows width st next after → Agrees st → Agrees after
agrees_grows {st = st} suits f g h = by_grows Agrees g (λ p base n e b d. agrees_put n p base (fits_of suits e).weighed (grind (arith, agrees_lines))) (λ p mid e l w b. inl refl) (λ k chunk e. inl refl)
    (λ event margin e. elim h [ inl c ↦ sat_agrees (st.column + length (event_bytes event)) (length (event_bytes event) + column_back st.back) (omega arith) | inr c ↦ inr (omega arith) ])

-- ---- what has no place has no ink

-- Q of each event that has no place
abbrev pub EachPassed : (Event → Type 0) → List Stretch → Type 0
EachPassed Q [] = ⊤
EachPassed Q (Gap b ∷ r) = EachPassed Q r
EachPassed Q (Placed f ∷ r) = EachPassed Q r
EachPassed Q (Passed event ∷ r) = Q event × EachPassed Q r

abbrev pub NoInk : Event → Type 0
NoInk event = shows_chunk is_inked event ≡ false

pub no_ink_trimmed : (r : List Stretch) → EachPassed NoInk r → EachPassed NoInk (trimmed r)
no_ink_trimmed = by_trimmed (λ r t. EachPassed NoInk r → EachPassed NoInk t) (λ h. h) (λ b r t ih h. ih h) (λ e r i h. h) (λ e r t i ih h. (i, ih h)) (λ event r i h. h) (λ event r t i ih h. (h.0, ih h.1))

pub blank_ink : (k weight : ℕ) → shows_chunk is_inked (Shows k (Raw (codes " ") weight)) ≡ false
unfolding chars
blank_ink k weight = refl

pub no_ink_grows : {width : ℕ} {margin_of : ℕ → ℕ} {st after : State} {next : Next} → Suits margin_of st next
    → Grows width st next after → EachPassed NoInk st.back → EachPassed NoInk after.back
no_ink_grows suits g h =
    by_grows (λ s. EachPassed NoInk s.back) g (λ p base n e b d. by_padded (EachPassed NoInk) (λ x y. y) n base.back (begins_back (EachPassed NoInk) (λ r x. x) no_ink_trimmed b h))
    (λ p mid e l w b. ((rw b (blank_ink p.part p.weight)), no_ink_trimmed mid.back (lines_back (EachPassed NoInk) (λ r x. x) l h)))
    (λ k chunk e. (by_break (λ c j. shows_chunk is_inked (Shows j c) ≡ false) suits e (λ j l m. refl) (λ j l m. refl), h))
    (λ event margin e. (by_mark (λ x m. shows_chunk is_inked x ≡ false) suits e (λ b m l u. refl) (λ b m l u. refl), h))

pub ink_text : (r : List Stretch) → EachPlace Fills r → EachPassed NoInk r → list_any is_inked_stretch r ≡ true → has_text r ≡ true
ink_text [] f q h = absurd cc
ink_text (x ∷ r) f q h = grind (arith, ink_text r, inked_some)

-- ---- nothing is written

abbrev pub has_place : List Stretch → Bool
has_place r = list_any is_placed r

-- before the first byte no chunk is placed, and the column is 0
abbrev pub IsStarting : State → Type 0
IsStarting st = has_text st.back ≡ false → (st.column ≡ 0) × (has_place st.back ≡ false)

pub or_false_left : (a b : Bool) → (a || b) ≡ false → a ≡ false
or_false_left a b h = grind arith

pub or_false_right : (a b : Bool) → (a || b) ≡ false → b ≡ false
or_false_right a b h = grind arith

pub or_true_right : (a b : Bool) → b ≡ true → (a || b) ≡ true
or_true_right a b h = grind arith

starting_put : {width : ℕ} {margin_of : ℕ → ℕ} (st : State) (p : Piece) (base : State) (n : ℕ)
    → Fits margin_of st p → IsClear st (raw p) → Begins width st p base → has_text (put n p.part p.bytes p.weight base).back ≡ true
starting_put st p base n fits clear h = grind (arith, fits.filled, clear, or_true_right, by_padded, lines_back, has_text, true)

pub starting_grows : {width : ℕ} {margin_of : ℕ → ℕ} {st after : State} {next : Next}
    → Suits margin_of st next → IsClear st next → Grows width st next after → IsStarting st → IsStarting after
starting_grows {st = st} suits clear g h = by_grows IsStarting g
    (λ p base n e b d none. let some : has_text (put n p.part p.bytes p.weight base).back ≡ true = starting_put st p base n (fits_of suits e) (subst (λ (x : Next). IsClear st x) e clear) b in absurd cc)
    (λ p mid e l w b none. absurd cc) (λ k chunk e none. absurd cc)
    (λ event margin e none.
    let before : (st.column ≡ 0) × (has_place st.back ≡ false) = h (or_false_right (has_some (event_bytes event)) (has_text st.back) none) in
    (omega (arith, no_bytes (event_bytes event) (or_false_left (has_some (event_bytes event)) (has_text st.back) none)), before.1))

-- ---- what is written stays

pub text_stays : {width : ℕ} {st after : State} {next : Next} → Grows width st next after → has_text st.back ≡ true → has_text after.back ≡ true
text_stays g h = by_grows (λ s. has_text s.back ≡ true) g
    (λ p base n e b d. or_true_right (has_some p.bytes) (has_text (padded n base.back)) (by_padded (λ x. has_text x ≡ true) (λ x y. refl) n base.back (begins_back (λ r. has_text r ≡ true) (λ r x. refl) (λ r x. refl) b h)))
    (λ p mid e l w b. refl) (λ k chunk e. refl) (λ event margin e. or_true_right (has_some (event_bytes event)) _ h)

-- what comes next, as an event
abbrev pub next_event : Next → Event
next_event (raw p) = Shows p.part (Raw p.bytes p.weight)
next_event (break k chunk) = Shows k chunk
next_event (mark event level) = event

-- what puts a byte on the page leaves some text
pub text_written : {width : ℕ} {margin_of : ℕ → ℕ} {st after : State} {next : Next} → Suits margin_of st next → Grows width st next after → is_written (next_event next) ≡ true → has_text after.back ≡ true
text_written {st = st} suits g h = grind (arith, by_grows, by_mark)

-- ---- where a chunk begins

-- and the margin is still the one in force, and what was asked for after a term still holds
pub lines_margin : {st mid : State} → Lines st mid → (mid.margin ≡ st.margin) × (mid.pending ≡ st.pending)
lines_margin {st} l = by_lines (λ s. (s.margin ≡ st.margin) × (s.pending ≡ st.pending)) l (refl, refl) (refl, refl) (refl, refl) (refl, refl)

pub begins_margin : {width : ℕ} {st : State} {p : Piece} {base : State} → Begins width st p base → (base.margin ≡ st.margin) × (base.pending ≡ st.pending)
begins_margin h = grind (arith, lines_margin)
