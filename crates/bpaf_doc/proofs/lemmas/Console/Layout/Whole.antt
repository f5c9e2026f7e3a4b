-- A page that grows by the rules is a layout of its document.
use Rattle.std.specs.Prelude.{if◌then◌else◌, ◌++◌, ◌+◌, ◌<◌, ◌==◌, ◌∷◌, ◌≡◌, ◌≢◌, ◌≤◌, ◌⊎◌}
use Rattle.bpaf_doc.proofs.lemmas.Console.Words.{common_steps, list_any, list_all, after_last, rules, sym, subst, ap, arith, inl, inr, ◌∙◌, append_assoc, reverse-append, reverse-reverse, append-nil, All-append, All-cons, All-nil, sum_by-cons, list_any-append, nat_tests, not-true, or_parts, not-false, eqb-true, and_parts, Part, ink, columns, is_inked, has_some, starts, console_ink, margin, greatest_margin, Event, Shows, Stretch, Gap, Placed, Passed, Place, AreApart, chunk_at, event_bytes, event_columns, stretch_columns, text_of, events_of, shown_events, is_newline, is_placed, holds_line, leads_to_place, is_inked_stretch, is_empty_code, is_written, is_ref, asks_newline, asks_blank_line, is_light, is_light_mark, opens_body, column, padding, line_before, stretch_lines, MayStand, BreaksWhereAsked, KeepsBlanks, IsKept, BeginsClear, IsFirstInLine, events_since_ink, is_raw_or_ref, FollowsBlank, KeepsMargin, WrapsOnlyIfNeeded, IsBounded, FitsWidth, PadsToMargin, StandsAlone, room_of, BreaksForRoom, HasBlankLine, widest, IsLayout, ℕ, suc, max, ⊤, Bool, true, false, not, List, [], take, reverse, map, fold, sum_by, All, codes, refl, IsTrue, shows_chunk, is_raw}
use Rattle.bpaf_doc.proofs.lemmas.Console.Margins.{more_than}
use Rattle.bpaf_doc.proofs.lemmas.Console.Layout.State.{State, has_text, IsShallow, Next, Grows, Suits, IsClear, blank_page, Written, nothing, more, Ends, as_is, with_newline, broken}
use Rattle.bpaf_doc.proofs.lemmas.Console.Layout.Back.{each_back, by_cases, EachPlace, by_grows, Fills, fills_grows, Agrees, agrees_grows, column_back, EachPassed, NoInk, no_ink_grows, IsStarting, starting_grows, next_event, text_stays, text_written, begins_margin, lines_margin, by_mark}
use Rattle.bpaf_doc.proofs.lemmas.Console.Layout.Margin.{AtMargin, at_margin_grows}
use Rattle.bpaf_doc.proofs.lemmas.Console.Layout.Bound.{EachFront, Within, IsBare, WritesNone, IsNarrow, bare_grows, bound, within_grows}
use Rattle.bpaf_doc.proofs.lemmas.Console.Layout.Pads.{FitsBefore, fits_width_grows, holds_back, IsLed, Leads, led_grows, leads_at, HasNoPads, IsPending, pending_grows, PadsOnly, pads_only_grows, pads_back, body_back}
use Rattle.bpaf_doc.proofs.lemmas.Console.Layout.Reach.{Rule, sum_of, IsRun, HasNoRoom, BreaksBy, IsSound, breaks_grows}
use Rattle.bpaf_doc.proofs.lemmas.Console.Layout.Room.{ComesInOrder, in_order_grows, IsAfterAll, after_all_grows, part_later, is_chunk, allowance, is_idle, idle_all, idle, idle_sound}
use Rattle.bpaf_doc.proofs.lemmas.Console.Layout.Alone.{IsHeavy, heavy_grows, AloneBefore, alone_grows}
use Rattle.bpaf_doc.proofs.lemmas.Console.Layout.Split.{events_back, events_grows, Cut, has_newline, inked_line, inked_since}
use Rattle.bpaf_doc.proofs.lemmas.Console.Layout.Blank.{IsAskedBlank, asked_blank_grows, IsFreshAtZero, fresh_grows, HasBlankBefore, blank_before_grows, text_back, text_back_cons, IsAskedLine, asked_line_grows, IsFreeOfDebt, free_of_debt_grows, owes_line}
use Rattle.bpaf_doc.proofs.lemmas.Console.Layout.Kept.{InOrder, order_grows, IsSettled, settled_grows, IsUnsettled, unsettled_grows, IsSmall, IsKeptSince, kept_since_grows, KeepsBefore, keeps_before_grows, AllKept}
use Rattle.bpaf_doc.proofs.lemmas.Console.Layout.Needed.{light, light_sound, light_marks}
use Rattle.bpaf_doc.proofs.lemmas.Console.Layout.AtMargin.{IsLast, last_grows, IsAtStart, start_grows, AfterBlank, IsExact, exact_grows, is_quiet}
use Rattle.bpaf_doc.proofs.lemmas.Console.Layout.Cuts.{MayEnd, IsWhole, whole_grows, may_end_line}
use Rattle.bpaf_doc.proofs.lemmas.Console.Layout.Turned.{reverse_cons, any_turned, all_turned, sum_turned, events_turned, events_between, column_turned, line_turned, padding_turned, body_turned, quiet_turned, lines_bounded, turned_at}

-- ---- the events of a page

map_snoc : (xs : List Next) (x : Next) → map next_event (xs ++ x ∷ []) ≡ map next_event xs ++ next_event x ∷ []
map_snoc [] x = refl
map_snoc (y ∷ xs) x = ap (λ es. next_event y ∷ es) (map_snoc xs x)

module _ {width : ℕ} {margin_of : ℕ → ℕ} {clear : State → Next → Type 0} where
  pub written_events : {nexts : List Next} {st : State} → Written width margin_of clear nexts st → events_back st.back ≡ reverse (map next_event nexts)
  written_events (nothing e s) = ap (λ (x : State). events_back x.back) s ∙ sym (ap (λ ns. reverse (map next_event ns)) e)
  written_events (more earlier before next e w suits c g) = grind (arith, written_events w, events_grows, map_snoc, reverse-append)

-- ---- what always holds

pub record Base (width : ℕ) (st : State) : Type 0 where
  pub fills : EachPlace Fills st.back
  pub no_ink : EachPassed NoInk st.back
  pub agrees : Agrees st
  pub whole : IsWhole st
  pub order : InOrder st
  pub small : IsSmall st
  pub settled : IsSettled st
  pub unsettled : IsUnsettled st
  pub since : IsKeptSince st
  pub asked_line : IsAskedLine st
  pub asked_blank : IsAskedBlank st
  pub fresh : IsFreshAtZero st
  pub pads : HasNoPads st
  pub pending : IsPending st
  pub led : IsLed st
  pub last : IsLast st
  pub start : IsAtStart st
  pub debt : EachPlace IsFreeOfDebt st.back
  pub blank : EachPlace (HasBlankBefore width) st.back
  pub keeps : EachPlace KeepsBefore st.back

nothing_cut : {A : Type 0} (m before : List Stretch) (e : Place) → Cut [] m e before → A
nothing_cut [] before e h = absurd cc
nothing_cut (x ∷ m) before e h = absurd cc

base_blank : (width : ℕ) → Base width blank_page
base_blank width =
    let agrees : Agrees blank_page = inl refl in
    let unsettled : IsUnsettled blank_page = λ s. inl refl in
    let since : IsKeptSince blank_page = λ m before e h. nothing_cut m before e h.0 in
    let asked_line : IsAskedLine blank_page = λ o. absurd cc in
    let asked_blank : IsAskedBlank blank_page = λ o. absurd cc in
    let last : IsLast blank_page = λ m before e h i n. nothing_cut m before e h in
    search rules

base_grows : {width : ℕ} {margin_of : ℕ → ℕ} {st after : State} {next : Next} → Suits margin_of st next → Grows width st next after → Base width st → Base width after
base_grows {width} suits g b = record {
  fills = fills_grows g b.fills;
  no_ink = no_ink_grows suits g b.no_ink;
  agrees = agrees_grows suits b.fills g b.agrees;
  whole = whole_grows b.fills g b.whole;
  order = order_grows suits g b.order;
  small = grind (arith, by_grows, begins_margin, lines_margin, by_mark, b.small);
  settled = settled_grows b.small g b.settled;
  unsettled = unsettled_grows g b.unsettled;
  since = kept_since_grows suits b.settled b.unsettled b.order g b.since;
  asked_line = asked_line_grows b.fills b.no_ink g b.asked_line;
  asked_blank = asked_blank_grows suits g b.asked_blank;
  fresh = fresh_grows g b.fresh;
  pads = by_grows HasNoPads g (λ p base n e b d. refl) (λ p mid e l w b. refl) (λ k chunk e. refl) (λ event margin e. omega arith);
  pending = pending_grows g b.pending;
  led = led_grows g b.led;
  last = last_grows g b.last;
  start = start_grows b.fills b.no_ink b.last suits g b.start;
  debt = free_of_debt_grows b.fills b.no_ink b.asked_line g b.debt;
  blank = blank_before_grows width b.fills b.no_ink b.asked_blank b.fresh g b.blank;
  keeps = keeps_before_grows suits b.settled b.unsettled b.order b.since g b.keeps;
}

-- ---- if no empty line of code comes first

pub record Clearly (width deepest : ℕ) (margin_of : ℕ → ℕ) (st : State) : Type 0 where
  pub starting : IsStarting st
  pub at_margin : EachPlace (AtMargin margin_of) st.back
  pub exact : EachPlace (IsExact margin_of) st.back
  pub fits : EachPlace (FitsBefore width) st.back
  pub pads_only : EachPlace (PadsOnly margin_of) st.back
  pub heavy : IsHeavy st
  pub alone : EachPlace AloneBefore st.back
  pub room : ComesInOrder st × EachPlace IsAfterAll st.back × BreaksBy width light st × BreaksBy width light_marks st × BreaksBy width (idle deepest) st

breaks_blank : (width : ℕ) (rule : Rule) → BreaksBy width rule blank_page
breaks_blank width rule = record { roomy = λ m before e h run. nothing_cut m before e h; no_room = tt }

clearly_blank : (width deepest : ℕ) (margin_of : ℕ → ℕ) → Clearly width deepest margin_of blank_page
clearly_blank width deepest margin_of = let heavy : IsHeavy blank_page = λ m before e h w n. nothing_cut m before e h in search (rules, breaks_blank)

clearly_grows : {width deepest : ℕ} {margin_of : ℕ → ℕ} {st after : State} {next : Next} → width < 1_000_000 → Suits margin_of st next → IsClear st next → IsShallow deepest next
    → Grows width st next after → Base width st → Clearly width deepest margin_of st → Clearly width deepest margin_of after
clearly_grows {width} {deepest} {margin_of} {st} {after} small suits clear shallow g b c =
    let step : (rule : Rule) → IsSound width deepest rule → BreaksBy width rule st → BreaksBy width rule after = λ rule sound. breaks_grows width rule deepest sound small b.fills c.starting b.agrees suits shallow g in
    let room : ComesInOrder after × EachPlace IsAfterAll after.back × BreaksBy width light after × BreaksBy width light_marks after × BreaksBy width (idle deepest) after =
    (in_order_grows suits g c.room.0, after_all_grows suits c.room.0 g c.room.1, step light (light_sound width deepest) c.room.2, step light_marks (grind (arith, and_parts)) c.room.3, step (idle deepest) (idle_sound width deepest small) c.room.4) in
    grind (arith, starting_grows, at_margin_grows, exact_grows, fits_width_grows, pads_only_grows, heavy_grows, alone_grows)

front_more : (x : Event) (xs : List Event) (k : ℕ) → take (1 + k) (x ∷ xs) ≡ x ∷ take k xs
front_more x xs k = let s : 1 + k ≡ suc k = omega arith in rw s refl

clear_snoc : (xs : List Event) (x : Event) → BeginsClear (xs ++ x ∷ []) → BeginsClear xs × (is_empty_code x ≡ true → list_any is_written xs ≡ true)
clear_snoc [] x h = grind arith
clear_snoc (y ∷ xs) x h = grind (arith, clear_snoc xs x, front_more, by_cases)

clear_next : (before : State) (next : Next) → (is_empty_code (next_event next) ≡ true → has_text before.back ≡ true) → IsClear before next
clear_next before next h = grind arith

abbrev pub EachNext : (Next → Type 0) → List Next → Type 0
EachNext Q [] = ⊤
EachNext Q (x ∷ xs) = Q x × EachNext Q xs

each_snoc : (Q : Next → Type 0) (xs : List Next) (x : Next) → EachNext Q (xs ++ x ∷ []) → EachNext Q xs × Q x
each_snoc Q [] x h = (tt, h.0)
each_snoc Q (y ∷ xs) x h = let rest : EachNext Q xs × Q x = each_snoc Q xs x h.1 in ((h.0, rest.0), rest.1)

module _ {width : ℕ} {margin_of : ℕ → ℕ} {clear : State → Next → Type 0} where
  pub written_base : {nexts : List Next} {st : State} → Written width margin_of clear nexts st → Base width st
  written_base (nothing e s) = subst (Base width) (sym s) (base_blank width)
  written_base (more earlier before next e w suits c g) = base_grows suits g (written_base w)

  -- a page has text once something was written
  written_text : {nexts : List Next} {st : State} → Written width margin_of clear nexts st → list_any is_written (map next_event nexts) ≡ true → has_text st.back ≡ true
  written_text (nothing e s) h = let no : false ≡ true = subst (λ ns. list_any is_written (map next_event ns) ≡ true) e h in absurd cc
  written_text {nexts} {st} (more earlier before next e w suits c g) h = grind (arith, written_text w, map_snoc, list_any-append, text_stays, text_written)

  written_clearly : {nexts : List Next} {st : State} (deepest : ℕ) → width < 1_000_000 → Written width margin_of clear nexts st → BeginsClear (map next_event nexts)
      → EachNext (IsShallow deepest) nexts → Clearly width deepest margin_of st
  written_clearly deepest small (nothing e s) h shallow = subst (Clearly width deepest margin_of) (sym s) (clearly_blank width deepest margin_of)
  written_clearly deepest small (more earlier before next e w suits c g) h shallow =
      let parts : EachNext (IsShallow deepest) earlier × IsShallow deepest next = each_snoc (IsShallow deepest) earlier next (subst (λ ns. EachNext (IsShallow deepest) ns) e shallow) in
      let both : BeginsClear (map next_event earlier) × (is_empty_code (next_event next) ≡ true → list_any is_written (map next_event earlier) ≡ true) =
      clear_snoc (map next_event earlier) (next_event next) (subst BeginsClear (ap (λ ns. map next_event ns) e ∙ map_snoc earlier next) h) in
      clearly_grows small suits (clear_next before next (λ t. written_text w (both.1 t))) parts.1 g (written_base w) (written_clearly deepest small w both.0 parts.0)

-- ---- the bound

abbrev pub IsSlim : ℕ → ℕ → Next → Type 0
IsSlim deepest most next = IsShallow deepest next × IsNarrow most next × WritesNone next

shallow_grows : {width deepest : ℕ} {st after : State} {next : Next} → IsShallow deepest next → Grows width st next after → st.margin ≤ deepest → after.margin ≤ deepest
shallow_grows {deepest = deepest} shallow g h = grind (arith, by_grows, begins_margin, lines_margin)

record Slim (width deepest most : ℕ) (st : State) : Type 0 where
  bare : EachPassed IsBare st.back
  margin : st.margin ≤ deepest
  lines : EachFront (Within (bound width deepest most)) st.back

module _ {width : ℕ} {margin_of : ℕ → ℕ} {clear : State → Next → Type 0} where
  written_slim : {nexts : List Next} {st : State} (deepest most : ℕ) → width < 1_000_000 → Written width margin_of clear nexts st → EachNext (IsSlim deepest most) nexts → Slim width deepest most st
  written_slim deepest most small (nothing e s) h = subst (Slim width deepest most) (sym s) (record { bare = tt; margin = omega arith; lines = omega arith })
  written_slim deepest most small (more earlier before next e w suits c g) h =
      let parts : EachNext (IsSlim deepest most) earlier × IsSlim deepest most next = each_snoc (IsSlim deepest most) earlier next (subst (λ ns. EachNext (IsSlim deepest most) ns) e h) in
      let ih : Slim width deepest most before = written_slim deepest most small w parts.0 in
      record {
        bare = bare_grows parts.1.2 g ih.bare;
        margin = shallow_grows parts.1.0 g ih.margin;
        lines = within_grows width deepest most small (written_base w).fills ih.bare (written_base w).agrees ih.margin parts.1.2 parts.1.1 g ih.lines;
      }

ends_events : {st : State} {final : List Stretch} → Ends st final → events_back final ≡ events_back st.back
ends_events h = grind arith

-- ---- what may stand

-- what is known of the text after a stretch
record KnownEnd (m : List Stretch) (x : Stretch) (r : List Stretch) (rest : List ℕ) : Type 0 where
  line : Bool
  there : MayEnd line (x ∷ r)
  after : line ≡ true → starts (text_back m ++ rest) (codes "\n") ≡ true

known_end : (m : List Stretch) (line : Bool) (x : Stretch) (r : List Stretch) (rest : List ℕ) → (line ≡ true → starts rest (codes "\n") ≡ true) → MayEnd line (m ++ x ∷ r) → KnownEnd m x r rest
known_end [] line x r rest a h = record { line = line; there = h; after = a }
known_end (Gap b ∷ m) line x r rest a h = grind (arith, known_end m (b == 10) x r (b ∷ rest), text_back_cons, append_assoc, eqb-true)
known_end (Placed e ∷ m) line x r rest a h =
    grind (arith, known_end m (if has_some e.shown then false else line) x r (e.shown ++ rest), common_steps, text_back_cons)
known_end (Passed event ∷ m) line x r rest a h =
    let found : KnownEnd m x r (event_bytes event ++ rest) = known_end m (if has_some (event_bytes event) then false else line) x r (event_bytes event ++ rest) (further (event_bytes event)) h in
    record { line = found.line; there = found.there; after = λ t. subst (λ ys. starts ys (codes "\n") ≡ true) (sym (ap (λ ys. ys ++ rest) (text_back_cons (Passed event) m) ∙ append_assoc (text_back m) (event_bytes event) rest)) (found.after t) } where
      further : (xs : List ℕ) → (if has_some xs then false else line) ≡ true → starts (xs ++ rest) (codes "\n") ≡ true
      further xs h1 = grind arith

passed_back : (Q : Event → Type 0) (m r : List Stretch) → EachPassed Q (m ++ r) → EachPassed Q r
passed_back Q [] r h = h
passed_back Q (s ∷ m) r h = grind (arith, passed_back Q m r)

may_stand : (m r : List Stretch) (x : Stretch) → MayEnd false (m ++ x ∷ r) → EachPassed NoInk (m ++ x ∷ r) → MayStand x (reverse m)
may_stand m r x h q = grind (arith, append-nil, passed_back, (known_end m false x r [] (λ t. absurd cc) h))

-- ---- the laws

all_kept : (may_add : Type 0) (m : List Stretch) → AllKept may_add m → All (IsKept may_add) (reverse m)
all_kept may_add [] h = All-nil (IsKept may_add)
all_kept may_add (x ∷ m) h = grind (arith, common_steps, all_kept may_add m, reverse_cons, All-append, All-cons, All-nil)

-- a newline stands between an inked place and a place that owes none
debt_paid : (m before : List Stretch) (e : Place) → EachPlace IsFreeOfDebt (m ++ Placed e ∷ before) → owes_line (m ++ Placed e ∷ before) ≡ false → is_inked (chunk_at e) ≡ true
    → list_any asks_newline (events_back m) ≡ true → has_newline m ≡ true
debt_paid [] before e f o i a = absurd cc
debt_paid (x ∷ m) before e f o i a = grind (arith, debt_paid m, inked_since)

sum_is : (takes : Event → ℕ) (es : List Event) → sum_of takes es ≡ sum_by takes es
sum_is takes [] = refl
sum_is takes (x ∷ es) = ap (λ (n : ℕ). takes x + n) (sum_is takes es) ∙ sym (sum_by-cons takes x es)

module _ (width : ℕ) (document : List Part) (st : State) (final : List Stretch) (ends : Ends st final) (base : Base width st) where
  abbrev stretches : List Stretch
  stretches = reverse final

  -- the page newest first, cut at two places
  apart_at : (before between after : List Stretch) (e f : Place) → stretches ≡ before ++ Placed e ∷ (between ++ Placed f ∷ after)
      → final ≡ reverse after ++ Placed f ∷ (reverse between ++ Placed e ∷ reverse before)
  apart_at before between after e f s = sym (reverse-reverse final) ∙ ap (λ ys. reverse ys) s ∙ (grind (arith, reverse-append, reverse_cons, append_assoc))

  law_at : (P : List Stretch → Place → Type 0) → EachPlace P st.back → (before between after : List Stretch) (e f : Place) → stretches ≡ before ++ Placed e ∷ (between ++ Placed f ∷ after)
      → P (reverse between ++ Placed e ∷ reverse before) f
  law_at P h before between after e f s = grind (arith, each_back P (reverse after) (Placed f ∷ (reverse between ++ Placed e ∷ reverse before)), apart_at before between after e f s)

  one_at : (P : List Stretch → Place → Type 0) → EachPlace P st.back → (before after : List Stretch) (f : Place) → stretches ≡ before ++ Placed f ∷ after → P (reverse before) f
  one_at P h before after f s = (each_back P (reverse after) (Placed f ∷ reverse before) (subst (λ ys. EachPlace P ys) (turned_at final before after (Placed f) s) (grind arith))).0

  events_any : (p : Event → Bool) (between : List Stretch) → list_any p (events_back (reverse between)) ≡ list_any p (events_of between)
  events_any p between = ap (λ es. list_any p es) (events_between between) ∙ any_turned p (events_of between)

  events_all : (p : Event → Bool) (between : List Stretch) → list_all p (events_back (reverse between)) ≡ list_all p (events_of between)
  events_all p between = ap (λ es. list_all p es) (events_between between) ∙ all_turned p (events_of between)

  asked_law : BreaksWhereAsked width stretches
  asked_law = record {
    newline = λ before between e f h asks.
        let whole : EachPlace IsFreeOfDebt final = grind arith in
        let split : EachPlace IsFreeOfDebt (reverse h.after ++ Placed f ∷ (reverse between ++ Placed e ∷ reverse before)) = subst (λ ys. EachPlace IsFreeOfDebt ys) (apart_at before between h.after e f h.order) whole in
        sym (any_turned is_newline between) ∙ debt_paid (reverse between) (reverse before) e
        (each_back IsFreeOfDebt (reverse h.after) (Placed f ∷ (reverse between ++ Placed e ∷ reverse before)) split).1
        (law_at IsFreeOfDebt base.debt before between h.after e f h.order) h.first_inked (events_any asks_newline between ∙ asks);
    blank_line = λ before between e f h asks none fits.
        let line : HasBlankLine (text_back (reverse between)) = law_at (HasBlankBefore width) base.blank before between h.after e f h.order (reverse between) (reverse before) e refl h.first_inked
        (events_any (shows_chunk is_raw) between ∙ not-true (list_any (shows_chunk is_raw) (events_of between)) none) (events_any asks_blank_line between ∙ asks) fits in
        subst (λ ys. HasBlankLine (text_of ys)) (reverse-reverse between) line;
  }

  kept_law : KeepsBlanks stretches
  kept_law = λ before between e f h plain bare.
      let found : (e.shown ≡ e.bytes) × AllKept (e.part ≢ f.part) (reverse between) = law_at KeepsBefore base.keeps before between h.after e f h.order (reverse between) (reverse before) e
      (refl, h.first_inked, any_turned is_inked_stretch between ∙ not-true (list_any is_inked_stretch between) plain, any_turned is_newline between ∙ not-true (list_any is_newline between) bare) in
      (found.0, subst (λ ys. All (IsKept (e.part ≢ f.part)) ys) (reverse-reverse between) (all_kept (e.part ≢ f.part) (reverse between) found.1))

  stand_law : (before after : List Stretch) (x : Stretch) → stretches ≡ before ++ x ∷ after → MayStand x after
  stand_law before after x s =
      let split : final ≡ reverse after ++ x ∷ reverse before = turned_at final before after x s in
      subst (λ ys. MayStand x ys) (reverse-reverse after)
      (may_stand (reverse after) (reverse before) x (subst (λ ys. MayEnd false ys) split (grind (
        arith,
        base,
        may_end_line,
      ))) (subst (λ ys. EachPassed NoInk ys) split (grind arith)))

  module _ (clearly : Clearly width (greatest_margin document) (margin document) st) where
    no_ink_front : (before after : List Stretch) (f : Place) → stretches ≡ before ++ Placed f ∷ after → EachPassed NoInk (reverse before)
    no_ink_front before after f s = passed_back NoInk (reverse after) (Placed f ∷ reverse before) (subst (λ ys. EachPassed NoInk ys) (turned_at final before after (Placed f) s) (grind arith))

    column_is : (before : List Stretch) → column before ≡ column_back (reverse before)
    column_is before = ap column (sym (reverse-reverse before)) ∙ column_turned (reverse before)

    margin_law : KeepsMargin document stretches
    margin_law = record {
      at_least = λ before after f s i. subst (λ (n : ℕ). margin document f.part ≤ n) (sym (column_is before)) (one_at (AtMargin (margin document)) clearly.at_margin before after f s);
      exact = λ before after f s i line kind. column_is before ∙ one_at (IsExact (margin document)) clearly.exact before after f s (clear_line before line) (kind_of before after f s kind);
    } where
      clear_line : (before : List Stretch) → IsFirstInLine before → inked_line (reverse before) ≡ false
      clear_line before h = sym (line_turned is_inked_stretch (reverse before)) ∙ ap (λ ys. list_any is_inked_stretch (line_before ys)) (reverse-reverse before) ∙ not-true (list_any is_inked_stretch (line_before before)) h

      kind_of : (before after : List Stretch) (f : Place) → stretches ≡ before ++ Placed f ∷ after → IsTrue (not (list_any is_raw_or_ref (events_since_ink before))) ⊎ FollowsBlank before f
          → (is_quiet (reverse before) ≡ true) ⊎ AfterBlank (reverse before) f.part
      kind_of before after f s (inl h) =
          inl (not-false (is_quiet (reverse before)) (sym (quiet_turned (reverse before) (no_ink_front before after f s)) ∙ ap (λ ys. list_any is_raw_or_ref (events_since_ink ys)) (reverse-reverse before) ∙ not-true (list_any is_raw_or_ref (events_since_ink before)) h))
      kind_of before after f s (inr h) = grind (arith, reverse-append, reverse_cons, append_assoc, events_between)

    sums_turned : (takes : Event → ℕ) (between : List Stretch) → sum_of takes (events_back (reverse between)) ≡ sum_by takes (events_of between)
    sums_turned takes between = sum_is takes (events_back (reverse between)) ∙ ap (λ es. sum_by takes es) (events_between between) ∙ sum_turned takes (events_of between)

    -- where the line is broken, what the rule reckons is more than the width
    over_width : (rule : Rule) → BreaksBy width rule st → (before between : List Stretch) (e f : Place) → AreApart stretches before e between f → IsRun width rule (reverse between) e
        → IsTrue (list_any is_newline between) → width < column before + rule.takes (Shows e.part (chunk_at e)) + rule.taken (events_back (reverse between)) + columns f.bytes
    over_width rule broken before between e f h run line = grind (arith, law_at (HasNoRoom width rule) broken.no_room before between h.after e f h.order (reverse between) (reverse before) e refl run, any_turned is_newline between, column_is before)

    needed_law : WrapsOnlyIfNeeded width stretches
    needed_law = λ before between e f h ordinary second kind line.
        let inked : is_inked (chunk_at e) ≡ true = h.first_inked in
        let sums : sum_of event_columns (events_back (reverse between)) ≡ sum_by event_columns (events_of between) = sums_turned event_columns between in
        elim kind [
          | inl l ↦ omega (arith, over_width light clearly.room.2 before between e f h ((rw (ordinary, inked) refl), events_all is_light between ∙ l) line)
          | inr l ↦ let over : width < column before + columns e.bytes + sum_of event_columns (events_back (reverse between)) + columns f.bytes =
              over_width light_marks clearly.room.3 before between e f h ((rw (ordinary, inked) refl), events_all is_light_mark between ∙ l) line in omega arith
        ]

    padding_is : (before : List Stretch) → padding before ≡ pads_back (reverse before)
    padding_is before = ap padding (sym (reverse-reverse before)) ∙ padding_turned (reverse before)

    fits_law : FitsWidth width stretches
    fits_law = λ before after f s holds.
        let held : holds_back (reverse before) ≡ true = sym (line_turned holds_line (reverse before)) ∙ ap (λ ys. list_any holds_line (line_before ys)) (reverse-reverse before) ∙ holds in
        omega (arith, padding_is before, column_is before, one_at (FitsBefore width) clearly.fits before after f s held)

    padded_law : PadsToMargin document stretches
    padded_law = record {
      up_to_margin = λ before after f s some. at before (one_at (PadsOnly (margin document)) clearly.pads_only before after f s (subst (λ (n : ℕ). 0 < n) (padding_is before) some));
      before_place = λ before after s.
          let split : final ≡ reverse after ++ Gap 32 ∷ reverse before = turned_at final before after (Gap 32) s in
          let leads : leads_to_place (reverse (reverse after) ++ []) ≡ true = leads_at false (reverse after) (reverse before) [] (subst (λ ys. Leads false ys) split (grind (arith, base))) (λ t. absurd cc) in
          subst (λ ys. leads_to_place ys ≡ true) (append-nil (reverse (reverse after)) ∙ reverse-reverse after) leads;
    } where
      at : (before : List Stretch) {m : ℕ} → (column_back (reverse before) ≡ m) ⊎ ((pads_back (reverse before) ≡ 2) × (body_back (reverse before) ≡ true))
          → (column before ≡ m) ⊎ ((padding before ≡ 2) × IsTrue (list_any opens_body (events_of (after_last is_placed before))))
      at before (inl h) = inl (column_is before ∙ h)
      at before (inr h) =
          inr (padding_is before ∙ h.0, ap (λ ys. list_any opens_body (events_of (after_last is_placed ys))) (sym (reverse-reverse before)) ∙ body_turned (reverse before) ∙ h.1)

    alone_law : StandsAlone stretches
    alone_law = λ before between after e f s whole. sym (any_turned is_newline between) ∙ law_at AloneBefore clearly.alone before between after e f s (reverse between) (reverse before) e refl whole

    room_law : BreaksForRoom document width stretches
    room_law = λ before between e f h plain quiet line.
        let idles : list_all is_idle (events_back (reverse between)) ≡ true =
        idle_all (reverse between) (any_turned is_inked_stretch between ∙ not-true (list_any is_inked_stretch between) plain)
        (events_any asks_newline between ∙ not-true (list_any asks_newline (events_of between)) quiet) in
        let over : width < column before + e.weight + (sum_of room_of (events_back (reverse between)) + allowance (greatest_margin document) (events_back (reverse between))) + columns f.bytes =
        over_width (idle (greatest_margin document)) clearly.room.4 before between e f h (h.first_inked, idles) line in
        let sums : sum_of room_of (events_back (reverse between)) ≡ sum_by room_of (events_of between) = sums_turned room_of between in
        let later : IsAfterAll (reverse between ++ Placed e ∷ reverse before) f = law_at IsAfterAll clearly.room.1 before between h.after e f h.order in
        let most : allowance (greatest_margin document) (events_back (reverse between)) ≤ (if e.part == f.part then 0 else greatest_margin document) =
        allowed (reverse between) (reverse before) e f (by_cases (list_all is_chunk (events_back (reverse between)))) later in
        omega arith where
          allowed : (m before : List Stretch) (e f : Place) → (list_all is_chunk (events_back m) ≡ true) ⊎ (list_all is_chunk (events_back m) ≡ false) → IsAfterAll (m ++ Placed e ∷ before) f
              → allowance (greatest_margin document) (events_back m) ≤ (if e.part == f.part then 0 else greatest_margin document)
          allowed m before e f (inl t) later = rw t (omega arith)
          allowed m before e f (inr t) later = grind (arith, part_later, nat_tests)

-- ---- the whole

fold_more : (xs : List ℕ) (a b : ℕ) → a ≤ b → fold max a xs ≤ fold max b xs
fold_more [] a b l = l
fold_more (x ∷ xs) a b l = fold_more xs (max a x) (max b x) (omega arith)

-- each chunk that comes is at most as wide as the widest, and no mark is one of a term reference
slim_each : (deepest most : ℕ) (nexts : List Next) → EachNext (IsShallow deepest) nexts → widest (map next_event nexts) ≤ most → list_any is_ref (map next_event nexts) ≡ false
    → EachNext (IsSlim deepest most) nexts
slim_each deepest most [] a b c = tt
slim_each deepest most (x ∷ xs) a b c = grind (arith, slim_each deepest most xs, more_than, fold_more, or_parts)

pub layout_of_page : {clear : State → Next → Type 0} (document : List Part) (full : Bool) (width : ℕ) (nexts : List Next) (st : State) (final : List Stretch)
    → Written width (margin document) clear nexts st → map next_event nexts ≡ shown_events full document → EachNext (IsShallow (greatest_margin document)) nexts
    → Ends st final → ink (text_of (reverse final)) ≡ console_ink full document → IsLayout document full width (text_of (reverse final))
layout_of_page document full width nexts st final w events shallow ends same = record {
  same_ink = same;
  stretches = reverse final;
  placing = record {
    whole_text = refl;
    all_events = events_turned final ∙ ap (λ es. reverse es) (ends_events ends ∙ written_events w) ∙ reverse-reverse (map next_event nexts) ∙ events;
    each_stretch = λ before after x s. stand_law width document st final ends base before after x s;
  };
  asked = asked_law width document st final ends base;
  kept = kept_law width document st final ends base;
  lines = λ small clear. record {
    margin = margin_law width document st final ends base (clearly small clear);
    needed = needed_law width document st final ends base (clearly small clear);
    fits = fits_law width document st final ends base (clearly small clear);
    padded = padded_law width document st final ends base (clearly small clear);
    room = room_law width document st final ends base (clearly small clear);
    alone = alone_law width document st final ends base (clearly small clear);
  };
  bound = λ small refs. bounded small refs;
} where
  base : Base width st
  base = written_base w

  clearly : width < 1_000_000 → BeginsClear (shown_events full document) → Clearly width (greatest_margin document) (margin document) st
  clearly small clear = written_clearly (greatest_margin document) small w (subst BeginsClear (sym events) clear) shallow

  bounded : width < 1_000_000 → IsTrue (not (list_any is_ref (shown_events full document))) → IsBounded document width (reverse final)
  bounded small refs =
      let none : list_any is_ref (map next_event nexts) ≡ false = ap (λ es. list_any is_ref es) events ∙ not-true (list_any is_ref (shown_events full document)) refs in
      let slim : Slim width (greatest_margin document) (widest (map next_event nexts)) st =
      written_slim (greatest_margin document) (widest (map next_event nexts)) small w
      (slim_each (greatest_margin document) (widest (map next_event nexts)) nexts shallow (omega arith) none) in
      let same_widest : widest (events_of (reverse final)) ≡ widest (map next_event nexts) =
      ap widest (events_turned final ∙ ap (λ es. reverse es) (ends_events ends ∙ written_events w) ∙ reverse-reverse (map next_event nexts)) in
      subst (λ (n : ℕ). All (λ line. sum_by stretch_columns line ≤ greatest_margin document + 2 + max width n) (stretch_lines (reverse final))) (sym same_widest)
      (lines_bounded (bound width (greatest_margin document) (widest (map next_event nexts))) final (ends_lines (bound width (greatest_margin document) (widest (map next_event nexts))) ends slim.lines)) where
        ends_lines : (limit : ℕ) → Ends st final → EachFront (Within limit) st.back → EachFront (Within limit) final
        ends_lines limit (as_is e) h = subst (λ r. EachFront (Within limit) r) (sym e) h
        ends_lines limit (with_newline e) h = subst (λ r. EachFront (Within limit) r) (sym e) (omega arith, h)
