-- A page cut before one of its places.
use Rattle.std.specs.Prelude.{◌++◌, ◌∷◌, ◌≡◌}
use Rattle.bpaf_doc.proofs.lemmas.Console.Words.{list_any, sym, ap, ◌∙◌, arith, ℕ, zero, suc, Bool, true, false, List, [], refl, or_parts, is_inked, has_some, Event, Shows, Stretch, Gap, Placed, Passed, Place, chunk_at, event_bytes, is_newline, is_inked_stretch}
use Rattle.bpaf_doc.proofs.lemmas.Console.Layout.Back.{any_in_line, next_event, lines_back, begins_back, by_trimmed, same_padded}
use Rattle.bpaf_doc.proofs.lemmas.Console.Layout.State.{State, Piece, Lines, Begins, places, drops, Next, Grows, placing, breaking, passing, padded, trimmed, cut}

-- ---- the events, newest first

abbrev pub events_back : List Stretch → List Event
events_back [] = []
events_back (Gap b ∷ r) = events_back r
events_back (Placed e ∷ r) = Shows e.part (chunk_at e) ∷ events_back r
events_back (Passed event ∷ r) = event ∷ events_back r

pub events_trimmed : (r : List Stretch) → events_back (trimmed r) ≡ events_back r
events_trimmed = by_trimmed (λ r t. events_back t ≡ events_back r) refl (λ b r t ih. ih) (λ e r i. refl) (λ e r t i ih. ap (λ es. Shows e.part (chunk_at e) ∷ es) ih)
    (λ event r i. refl) (λ event r t i ih. ap (λ es. event ∷ es) ih)

-- ---- the events as a page grows

events_lines : {st mid : State} → Lines st mid → events_back mid.back ≡ events_back st.back
events_lines {st} l = lines_back (λ r. events_back r ≡ events_back st.back) (λ r x. x) l refl

pub events_begins : {width : ℕ} {st : State} {p : Piece} {base : State} → Begins width st p base → events_back base.back ≡ events_back st.back
events_begins {st = st} b = begins_back (λ r. events_back r ≡ events_back st.back) (λ r x. x) (λ r x. events_trimmed r ∙ x) b refl

pub events_grows : {width : ℕ} {st after : State} {next : Next} → Grows width st next after → events_back after.back ≡ next_event next ∷ events_back st.back
events_grows {st = st} (placing p e (places base n b d a)) = grind (arith, same_padded events_back, events_begins b)
events_grows {st = st} (placing p e (drops t mid l w b a)) = grind (arith, events_trimmed, events_lines)
events_grows {st = st} (breaking k chunk e a) = ap (λ (s : State). events_back s.back) a ∙ ap (λ (x : Next). next_event x ∷ events_back st.back) (sym e)
events_grows {st = st} (passing event level e a) = ap (λ (s : State). events_back s.back) a ∙ ap (λ (x : Next). next_event x ∷ events_back st.back) (sym e)

-- ---- cuts

-- the page is what came before e, then e, then m, newest first
abbrev pub Cut : List Stretch → List Stretch → Place → List Stretch → Type 0
Cut r m e before = r ≡ m ++ Placed e ∷ before

pub data FirstOrLater (x : Stretch) (r m : List Stretch) (e : Place) (before : List Stretch) : Type 0 where
  here : m ≡ [] → x ≡ Placed e → r ≡ before → FirstOrLater x r m e before
  later : (rest : List Stretch) → m ≡ x ∷ rest → Cut r rest e before → FirstOrLater x r m e before

pub cut_cons : (x : Stretch) (r m : List Stretch) (e : Place) (before : List Stretch) → Cut (x ∷ r) m e before → FirstOrLater x r m e before
cut_cons x r [] e before h = let a : x ≡ Placed e = cc in let b : r ≡ before = cc in here refl a b
cut_cons x r (y ∷ m) e before h = let same : x ≡ y = cc in let c : Cut r m e before = cc in later m (ap (λ z. z ∷ m) (sym same)) c

-- what stands before a place, without what stands in front of the page
pub record After (front : List Stretch → List Stretch) (r m : List Stretch) (e : Place) (before : List Stretch) : Type 0 where
  pub rest : List Stretch
  pub is : m ≡ front rest
  pub there : Cut r rest e before

pub cut_gap : (b : ℕ) (r m : List Stretch) (e : Place) (before : List Stretch) → Cut (Gap b ∷ r) m e before → After (λ x. Gap b ∷ x) r m e before
cut_gap b r m e before h = grind (arith, cut_cons)

pub cut_passed : (event : Event) (r m : List Stretch) (e : Place) (before : List Stretch) → Cut (Passed event ∷ r) m e before → After (λ x. Passed event ∷ x) r m e before
cut_passed event r m e before h = grind (arith, cut_cons)

pub cut_padded : (n : ℕ) (r m : List Stretch) (e : Place) (before : List Stretch) → Cut (padded n r) m e before → After (padded n) r m e before
cut_padded zero r m e before h = record { rest = m; is = refl; there = h }
cut_padded (suc n) r m e before h = grind (arith, cut_padded n r (cut_gap 32 (padded n r) m e before h).rest e before, cut_gap, padded)

-- a cut of the trimmed page comes from one of the page, with the same chunk and the same events
pub record FromTrimmed (r m : List Stretch) (e : Place) (before : List Stretch) : Type 0 where
  pub rest : List Stretch
  pub place : Place
  pub there : Cut r rest place before
  pub same : Shows place.part (chunk_at place) ≡ Shows e.part (chunk_at e)
  pub events : events_back rest ≡ events_back m

same_cut : (r m : List Stretch) (e : Place) (before : List Stretch) → Cut r m e before → FromTrimmed r m e before
same_cut r m e before h = record { rest = m; place = e; there = h; same = refl; events = refl }

past : (x : Stretch) (y : Stretch) (r m : List Stretch) (e : Place) (before : List Stretch)
    → ((rest others : List Stretch) → events_back rest ≡ events_back others → events_back (x ∷ rest) ≡ events_back (y ∷ others))
    → (rest : List Stretch) → m ≡ y ∷ rest → FromTrimmed r rest e before → FromTrimmed (x ∷ r) m e before
past x y r m e before both rest is f =
    record { rest = x ∷ f.rest; place = f.place; there = ap (λ z. x ∷ z) f.there; same = f.same; events = both f.rest rest f.events ∙ ap events_back (sym is) }

-- each cut of t comes from one of r
abbrev ComesFrom : List Stretch → List Stretch → Type 0
ComesFrom r t = (m : List Stretch) (e : Place) (before : List Stretch) → Cut t m e before → FromTrimmed r m e before

pub cut_trimmed : (r m : List Stretch) (e : Place) (before : List Stretch) → Cut (trimmed r) m e before → FromTrimmed r m e before
cut_trimmed r = by_trimmed ComesFrom (same_cut []) gap inked plain (λ event r i. same_cut (Passed event ∷ r)) bare r where
  gap : (b : ℕ) (r t : List Stretch) → ComesFrom r t → ComesFrom (Gap b ∷ r) t
  gap b r t ih m e before h = let f : FromTrimmed r m e before = ih m e before h in
      record { rest = Gap b ∷ f.rest; place = f.place; there = ap (λ z. Gap b ∷ z) f.there; same = f.same; events = f.events }

  inked : (g : Place) (r : List Stretch) → is_inked (chunk_at g) ≡ true → ComesFrom (Placed g ∷ r) (Placed (cut g) ∷ r)
  inked g r i m e before h = each (cut_cons (Placed (cut g)) r m e before h) where
    each : FirstOrLater (Placed (cut g)) r m e before → FromTrimmed (Placed g ∷ r) m e before
    each (here a x b) =
        let is : cut g ≡ e = cc in
        record { rest = []; place = g; there = ap (λ z. Placed g ∷ z) b; same = ap (λ (p : Place). Shows p.part (chunk_at p)) is; events = ap events_back (sym a) }
    each (later rest a b) = past (Placed g) (Placed (cut g)) r m e before (λ x y s. ap (λ z. Shows g.part (chunk_at g) ∷ z) s) rest a (same_cut r rest e before b)

  passes : (x : Stretch) (event : Event) (r t : List Stretch) → ((rest others : List Stretch) → events_back rest ≡ events_back others → events_back (x ∷ rest) ≡ event ∷ events_back others)
      → ComesFrom r t → ComesFrom (x ∷ r) (Passed event ∷ t)
  passes x event r t both ih m e before h =
      let next : After (λ x. Passed event ∷ x) t m e before = cut_passed event t m e before h in past x (Passed event) r m e before both next.rest next.is (ih next.rest e before next.there)

  plain : (g : Place) (r t : List Stretch) → is_inked (chunk_at g) ≡ false → ComesFrom r t → ComesFrom (Placed g ∷ r) (Passed (Shows g.part (chunk_at g)) ∷ t)
  plain g r t i = passes (Placed g) (Shows g.part (chunk_at g)) r t (λ x y s. ap (λ z. Shows g.part (chunk_at g) ∷ z) s)

  bare : (event : Event) (r t : List Stretch) → has_some (event_bytes event) ≡ false → ComesFrom r t → ComesFrom (Passed event ∷ r) (Passed event ∷ t)
  bare event r t i = passes (Passed event) event r t (λ x y s. ap (λ z. event ∷ z) s)

-- ---- what was asked for

-- a cut after what was asked for is one of the page before, at the same events
pub record Earlier (r m : List Stretch) (e : Place) (before : List Stretch) : Type 0 where
  pub rest : List Stretch
  pub there : Cut r rest e before
  pub events : events_back rest ≡ events_back m

pub after_lines : {st mid : State} → Lines st mid → (m before : List Stretch) (e : Place) → Cut mid.back m e before → Earlier st.back m e before
after_lines {st} l = lines_back (λ r. (m before : List Stretch) (e : Place) → Cut r m e before → Earlier st.back m e before)
    (λ r h m before e there.
    let found : After (λ x. Gap 10 ∷ x) r m e before = cut_gap 10 r m e before there in
    let earlier : Earlier st.back found.rest e before = h found.rest before e found.there in
    record { rest = earlier.rest; there = earlier.there; events = earlier.events ∙ sym (ap events_back found.is) })
    l (λ m before e there. record { rest = m; there = there; events = refl })

-- ---- a newline since a place

abbrev pub has_newline : List Stretch → Bool
has_newline r = list_any is_newline r

abbrev pub inked_line : List Stretch → Bool
inked_line r = any_in_line is_inked_stretch r

-- without a newline since an inked place, its line has ink
pub inked_since : (m : List Stretch) (e : Place) (before : List Stretch) → is_inked (chunk_at e) ≡ true → has_newline m ≡ false → inked_line (m ++ Placed e ∷ before) ≡ true
inked_since [] e before i n = rw i refl
inked_since (x ∷ m) e before i n = grind (arith, inked_since m e before i, or_parts)

-- a place with ink is ink
pub ink_at : (m : List Stretch) (e : Place) (before : List Stretch) → is_inked (chunk_at e) ≡ true → list_any is_inked_stretch (m ++ Placed e ∷ before) ≡ true
ink_at [] e before i = rw i refl
ink_at (x ∷ m) e before i = grind (arith, ink_at m e before i)
