-- Between neighbouring inked chunks of one line nothing is cut or left out, and within one text nothing is added.
use Rattle.std.specs.Prelude.{◌<◌, ◌||◌, ◌∷◌, ◌≡◌, ◌≢◌, ◌≤◌, ◌⊎◌}
use Rattle.bpaf_doc.proofs.lemmas.Console.Words.{ℕ, zero, suc, ⊤, true, false, List, [], refl, list_any, sym, subst, arith, inl, inr, Raw, is_inked, Shows, Stretch, Gap, Placed, Passed, Place, chunk_at, is_inked_stretch, shows_chunk, is_raw}
use Rattle.bpaf_doc.proofs.lemmas.Console.Layout.State.{State, Piece, Lines, Pads, Begins, first, stays, wraps, places, drops, Next, raw, Grows, placing, breaking, passing, padded, trimmed, put, Suits}
use Rattle.bpaf_doc.proofs.lemmas.Console.Layout.Back.{each_back, by_cases, EachPlace, each_grows, each_begins, each_trimmed, place_of, fits_of, by_lines, by_padded, same_padded, by_mark, by_break, by_grows, or_false_right, begins_margin, blank_ink, lines_back}
use Rattle.bpaf_doc.proofs.lemmas.Console.Layout.Split.{Cut, FirstOrLater, here, later, cut_cons, cut_gap, cut_passed, cut_padded, has_newline, inked_line, inked_since, After}

-- ---- parts come in order

abbrev pub NotAfter : ℕ → List Stretch → Place → Type 0
NotAfter latest r f = f.part ≤ latest

each_later : (a b : ℕ) → a ≤ b → (r : List Stretch) → EachPlace (NotAfter a) r → EachPlace (NotAfter b) r
each_later a b l [] h = h
each_later a b l (x ∷ r) h = grind (arith, each_later a b l r)

abbrev pub InOrder : State → Type 0
InOrder st = EachPlace (NotAfter st.latest) st.back

pub order_grows : {width : ℕ} {margin_of : ℕ → ℕ} {st after : State} {next : Next} → Suits margin_of st next → Grows width st next after → InOrder st → InOrder after
order_grows {st = st} {next = next} suits g h = by_grows InOrder g
    (λ p base n e b d. (omega arith, by_padded (EachPlace (NotAfter p.part)) (λ x y. y) n base.back (each_begins (NotAfter p.part) (λ r f i x. x) b (each_later st.latest p.part (fits_of suits e).order st.back h))))
    (λ p mid e l w b. each_trimmed (NotAfter p.part) (λ r f i x. x) mid.back (lines_back (EachPlace (NotAfter p.part)) (λ r x. x) l (each_later st.latest p.part (fits_of suits e).order st.back h)))
    (λ k chunk e. each_later st.latest k (by_break (λ c j. st.latest ≤ j) suits e (λ j l m. l) (λ j l m. l)) st.back h) (λ event margin e. h)

-- ---- where a chunk was placed last, its margin is reached

abbrev pub IsSettled : State → Type 0
IsSettled st = st.settled ≡ true → (st.margin ≤ st.column) × (st.pending ≡ false)

-- else its line has no ink yet, or a mark came since
abbrev pub IsUnsettled : State → Type 0
IsUnsettled st = st.settled ≡ false → (inked_line st.back ≡ false) ⊎ (st.marked ≡ true)

abbrev pub IsSmall : State → Type 0
IsSmall st = st.margin ≤ 18446744073709551615

pub settled_grows : {width : ℕ} {st after : State} {next : Next} → IsSmall st → Grows width st next after → IsSettled st → IsSettled after
settled_grows small g h = grind (arith, by_grows, begins_margin)

pub unsettled_grows : {width : ℕ} {st after : State} {next : Next} → Grows width st next after → IsUnsettled st → IsUnsettled after
unsettled_grows g h = by_grows IsUnsettled g (λ p base n e b d o. absurd cc)
    (λ p mid e l w b o. let plain : shows_chunk is_inked (Shows p.part (Raw p.bytes p.weight)) ≡ false = rw b (blank_ink p.part p.weight) in inl (rw plain refl))
    (λ k chunk e o. inl refl) (λ event margin e o. inr refl)

-- ---- what stands since the last inked chunk of the line

-- kept whole; a byte outside the places only where it may be added
abbrev pub AllKept : Type 0 → List Stretch → Type 0
AllKept may_add [] = ⊤
AllKept may_add (Gap b ∷ m) = may_add × AllKept may_add m
AllKept may_add (Placed e ∷ m) = (e.shown ≡ e.bytes) × AllKept may_add m
AllKept may_add (Passed event ∷ m) = (shows_chunk is_raw event ≡ false) × AllKept may_add m

kept_weaker : {A B : Type 0} → (A → B) → (m : List Stretch) → AllKept A m → AllKept B m
kept_weaker f [] h = h
kept_weaker f (x ∷ m) h = grind (arith, kept_weaker f m)

kept_padded : {A : Type 0} (n : ℕ) (m : List Stretch) → A → AllKept A m → AllKept A (padded n m)
kept_padded zero m a h = h
kept_padded (suc n) m a h = (a, kept_padded n m a h)

-- neighbouring inked chunks of one line: e, then nothing inked and no newline
abbrev pub IsNeighbour : List Stretch → List Stretch → Place → List Stretch → Type 0
IsNeighbour r m e before = Cut r m e before × (is_inked (chunk_at e) ≡ true) × (list_any is_inked_stretch m ≡ false) × (has_newline m ≡ false)

abbrev pub IsKeptSince : State → Type 0
IsKeptSince st = (m before : List Stretch) (e : Place) → IsNeighbour st.back m e before → (e.shown ≡ e.bytes) × AllKept (e.part < st.latest) m

-- blanks that are put stand between neighbours
neighbour_padded : (n : ℕ) (r m : List Stretch) (e : Place) (before : List Stretch) → (there : IsNeighbour (padded n r) m e before) → IsNeighbour r (cut_padded n r m e before there.0).rest e before
neighbour_padded n r m e before there = grind (arith, cut_padded n r m e before there.0, same_padded (list_any is_inked_stretch), same_padded has_newline)

kept_same : (st : State) (k n : ℕ) → IsSettled st → IsUnsettled st → InOrder st → IsKeptSince st → st.latest ≤ k → (st.marked ≡ true → st.latest < k) → Pads st n
    → (m before : List Stretch) (e : Place) → IsNeighbour (padded n st.back) m e before → (e.shown ≡ e.bytes) × AllKept (e.part < k) m
kept_same st k n settled unsettled order h o moved d m before e there =
    at (by_cases st.settled) where
      found : After (padded n) st.back m e before
      found = cut_padded n st.back m e before there.0

      near : IsNeighbour st.back found.rest e before
      near = neighbour_padded n st.back m e before there

      since : (e.shown ≡ e.bytes) × AllKept (e.part < st.latest) found.rest
      since = h found.rest before e near

      wider : AllKept (e.part < k) found.rest
      wider = kept_weaker (λ (l : e.part < st.latest). omega arith) found.rest since.1

      strict : (inked_line st.back ≡ false) ⊎ (st.marked ≡ true) → e.part < k
      strict h1 = grind (arith, found, inked_since, near, each_back)

      at : (st.settled ≡ true) ⊎ (st.settled ≡ false) → (e.shown ≡ e.bytes) × AllKept (e.part < k) m
      at (inl s) = grind (arith, found, since, wider)
      at (inr s) = (since.0, subst (λ x. AllKept (e.part < k) x) (sym found.is) (kept_padded n found.rest (strict (unsettled s)) wider))

-- no neighbour stands before a newline
no_neighbour : (r m : List Stretch) (e : Place) (before : List Stretch) → IsNeighbour (Gap 10 ∷ r) m e before → ⊥
no_neighbour r m e before there = grind (arith, cut_gap 10 r m e before there.0)

no_neighbour_padded : (n : ℕ) (r m : List Stretch) (e : Place) (before : List Stretch) → IsNeighbour (padded n (Gap 10 ∷ r)) m e before → ⊥
no_neighbour_padded n r m e before there = grind (arith, no_neighbour r, cut_padded n (Gap 10 ∷ r) m e before there.0, neighbour_padded n (Gap 10 ∷ r) m e before there)

record Ready (st : State) (k : ℕ) : Type 0 where
  settled : IsSettled st
  unsettled : IsUnsettled st
  order : InOrder st
  since : IsKeptSince st
  later_part : st.latest ≤ k
  moved : st.marked ≡ true → st.latest < k

kept_lines : {st mid : State} (k n : ℕ) → Ready st k → Lines st mid → Pads mid n
    → (m before : List Stretch) (e : Place) → IsNeighbour (padded n mid.back) m e before → (e.shown ≡ e.bytes) × AllKept (e.part < k) m
kept_lines {st} {mid} k n y l = by_lines (λ s. Pads s n → (m before : List Stretch) (e : Place) → IsNeighbour (padded n s.back) m e before → (e.shown ≡ e.bytes) × AllKept (e.part < k) m) l
    (kept_same st k n y.settled y.unsettled y.order y.since y.later_part y.moved) (λ d m before e there. absurd (no_neighbour_padded n st.back m e before there))
    (λ d m before e there. absurd (no_neighbour_padded n st.back m e before there)) (λ d m before e there. absurd (no_neighbour_padded n (Gap 10 ∷ st.back) m e before there))

kept_begins : {width : ℕ} {st : State} {p : Piece} {base : State} (n : ℕ) → Ready st p.part → Begins width st p base → Pads base n
    → (m before : List Stretch) (e : Place) → IsNeighbour (padded n base.back) m e before → (e.shown ≡ e.bytes) × AllKept (e.part < p.part) m
kept_begins {st = st} {p = p} n y (first t s) d m before e there = grind (arith, kept_same st p.part n y.settled y.unsettled y.order y.since y.later_part y.moved)
kept_begins {p = p} n y (stays t l w) d m before e there = kept_lines p.part n y l d m before e there
kept_begins n y (wraps t mid l w b s) d m before e there = absurd (no_neighbour_padded n (trimmed mid.back) m e before (subst (λ (x : State). IsNeighbour (padded n x.back) m e before) s there))

ready : {margin_of : ℕ → ℕ} {st : State} {next : Next} {p : Piece} → Suits margin_of st next → next ≡ raw p → IsSettled st → IsUnsettled st → InOrder st → IsKeptSince st → Ready st p.part
ready suits e a b c d = record { settled = a; unsettled = b; order = c; since = d; later_part = (fits_of suits e).order; moved = (fits_of suits e).moved }

kept_put : {width : ℕ} {st : State} (p : Piece) (base : State) (n : ℕ) → Ready st p.part → Begins width st p base → Pads base n → IsKeptSince (put n p.part p.bytes p.weight base)
kept_put p base n y b d = λ m before e there. at m before e there (cut_cons (Placed (place_of p)) (padded n base.back) m e before there.0) where
  at : (m before : List Stretch) (e : Place) → IsNeighbour (Placed (place_of p) ∷ padded n base.back) m e before → FirstOrLater (Placed (place_of p)) (padded n base.back) m e before
      → (e.shown ≡ e.bytes) × AllKept (e.part < p.part) m
  at m before e there (here none is rest) = grind arith
  at m before e there (later rest is cut_there) =
      let plain : (is_inked_stretch (Placed (place_of p)) || list_any is_inked_stretch rest) ≡ false = subst (λ x. list_any is_inked_stretch x ≡ false) is there.2 in
      let found : (e.shown ≡ e.bytes) × AllKept (e.part < p.part) rest = kept_begins n y b d rest before e
      (cut_there, there.1, or_false_right (is_inked_stretch (Placed (place_of p))) (list_any is_inked_stretch rest) plain, (subst (λ x. has_newline x ≡ false) is there.3)) in
      (found.0, subst (λ x. AllKept (e.part < p.part) x) (sym is) (refl, found.1))

pub kept_since_grows : {width : ℕ} {margin_of : ℕ → ℕ} {st after : State} {next : Next} → Suits margin_of st next → IsSettled st → IsUnsettled st → InOrder st
    → Grows width st next after → IsKeptSince st → IsKeptSince after
kept_since_grows suits s u o (placing p e (places base n b d a)) h = subst IsKeptSince (sym a) (kept_put p base n (ready suits e s u o h) b d)
kept_since_grows suits s u o (placing p e (drops t mid l w b a)) h = subst IsKeptSince (sym a) (λ m before f there. absurd (none m before f there)) where
  none : (m before : List Stretch) (f : Place) → IsNeighbour (Passed (Shows p.part (Raw p.bytes p.weight)) ∷ Gap 10 ∷ trimmed mid.back) m f before → ⊥
  none m before f there =
      let found : After (λ x. Passed (Shows p.part (Raw p.bytes p.weight)) ∷ x) (Gap 10 ∷ trimmed mid.back) m f before = cut_passed _ (Gap 10 ∷ trimmed mid.back) m f before there.0 in
      let plain : (is_inked_stretch (Passed (Shows p.part (Raw p.bytes p.weight))) || list_any is_inked_stretch found.rest) ≡ false = subst (λ x. list_any is_inked_stretch x ≡ false) found.is there.2 in
      no_neighbour (trimmed mid.back) found.rest f before
      (found.there, there.1, or_false_right (is_inked_stretch (Passed (Shows p.part (Raw p.bytes p.weight)))) (list_any is_inked_stretch found.rest) plain, subst (λ x. has_newline x ≡ false) found.is there.3)
kept_since_grows {st = st} suits s u o (breaking k chunk e a) h =
    subst IsKeptSince (sym a) (λ m before f there. absurd (no_neighbour (Passed (Shows k chunk) ∷ st.back) m f before there))
kept_since_grows {st = st} suits s u o (passing event margin e a) h =
    subst IsKeptSince (sym a) (grind (arith, cut_passed event st.back, or_false_right, (by_mark (λ x m. shows_chunk is_raw x ≡ false) suits e (λ b m l v. refl) (λ b m l v. refl))))

-- ---- the law

abbrev pub KeepsBefore : List Stretch → Place → Type 0
KeepsBefore r f = (m before : List Stretch) (e : Place) → IsNeighbour r m e before → (e.shown ≡ e.bytes) × AllKept (e.part ≢ f.part) m

pub keeps_before_grows : {width : ℕ} {margin_of : ℕ → ℕ} {st after : State} {next : Next} → Suits margin_of st next → IsSettled st → IsUnsettled st → InOrder st → IsKeptSince st
    → Grows width st next after → EachPlace KeepsBefore st.back → EachPlace KeepsBefore after.back
keeps_before_grows {width} {margin_of} {st} {after} {next} suits s u o h g all = each_grows KeepsBefore (λ r p i x. x) core g all where
  core : (p : Piece) (base : State) (n : ℕ) → next ≡ raw p → Begins width st p base → Pads base n → KeepsBefore (padded n base.back) (place_of p)
  core p base n is b d = λ m before e there.
      let found : (e.shown ≡ e.bytes) × AllKept (e.part < p.part) m = kept_begins n (ready suits is s u o h) b d m before e there in
      (found.0, kept_weaker (λ (l : e.part < p.part). apart e.part p.part l) m found.1) where
        apart : (a b : ℕ) → a < b → a ≢ b
        apart a b l = λ same. absurd (omega arith)
