-- The first inked chunk of a line stands at its margin, where only marks or one blank stand before it.
use Rattle.std.specs.Prelude.{◌&&◌, ◌+◌, ◌<◌, ◌∷◌, ◌≡◌, ◌⊎◌}
use Rattle.bpaf_doc.proofs.lemmas.Console.Words.{sym, subst, ap, arith, inl, inr, ◌∙◌, ℕ, Bool, true, false, not, List, [], codes, refl, Chunk, Raw, is_inked, Event, Shows, Stretch, Gap, Placed, Passed, Place, chunk_at, is_raw_or_ref, NoBreak}
use Rattle.bpaf_doc.proofs.lemmas.Console.Layout.State.{State, Piece, Lines, Pads, Begins, first, stays, wraps, places, drops, Next, raw, mark, Grows, placing, breaking, passing, padded, put, Suits}
use Rattle.bpaf_doc.proofs.lemmas.Console.Layout.Back.{by_cases, EachPlace, each_grows, place_of, fits_of, by_lines, same_padded, by_mark, Fills, column_back, column_padded, Agrees, EachPassed, NoInk, ink_text, IsStarting, begins_margin, or_false_right, agrees_lines, no_text_column}
use Rattle.bpaf_doc.proofs.lemmas.Console.Layout.Pads.{pads_back, HasNoPads, pads_begins}
use Rattle.bpaf_doc.proofs.lemmas.Console.Layout.Split.{events_back, Cut, FirstOrLater, here, later, cut_cons, cut_gap, cut_passed, cut_padded, has_newline, inked_line, inked_since, ink_at, after_lines, After}

-- ---- only marks since the last ink

-- no chunk and no TermRef mark stands since the last inked chunk, or since the start
abbrev pub is_quiet : List Stretch → Bool
is_quiet [] = true
is_quiet (Gap b ∷ r) = is_quiet r
is_quiet (Placed e ∷ r) = is_inked (chunk_at e)
is_quiet (Passed event ∷ r) = not (is_raw_or_ref event) && is_quiet r

quiet_column : (r : List Stretch) → is_quiet r ≡ true → inked_line r ≡ false → pads_back r ≡ 0 → column_back r ≡ 0
quiet_column [] q i p = refl
quiet_column (x ∷ r) q i p = grind (arith, quiet_column r, or_false_right)

-- ---- one blank since the last ink

-- nothing stands after an inked chunk that no event follows
abbrev pub IsLast : State → Type 0
IsLast st = (m before : List Stretch) (e : Place) → Cut st.back m e before → is_inked (chunk_at e) ≡ true → events_back m ≡ [] → (m ≡ []) × (st.asked ≡ NoBreak)

pub last_grows : {width : ℕ} {st after : State} {next : Next} → Grows width st next after → IsLast st → IsLast after
last_grows e h = grind (arith, cut_cons, cut_passed, cut_gap)

-- after one blank and a newline the column is 0
abbrev pub IsAtStart : State → Type 0
IsAtStart st = (m before : List Stretch) (e : Place) (k : ℕ) → Cut st.back m e before → is_inked (chunk_at e) ≡ true → events_back m ≡ Shows k (Raw (codes " ") 1) ∷ []
    → has_newline m ≡ true → column_back st.back ≡ 0

-- after what was asked for, directly after an inked chunk, nothing was written
last_lines : {st mid : State} → IsLast st → Lines st mid → (m before : List Stretch) (e : Place) → Cut mid.back m e before → is_inked (chunk_at e) ≡ true → events_back m ≡ [] → m ≡ []
last_lines {st} {mid} h l m before e there i none = grind (arith, after_lines l m before e there, there)

start_put : {width : ℕ} {st : State} (p : Piece) (base : State) (n : ℕ) → EachPlace Fills st.back → EachPassed NoInk st.back → IsLast st → Begins width st p base
    → IsAtStart (put n p.part p.bytes p.weight base)
start_put {width} {st} p base n f q h b = λ m before e k there i blank line. at m before e k i blank line (cut_cons (Placed (place_of p)) (padded n base.back) m e before there) where
  at : (m before : List Stretch) (e : Place) (k : ℕ) → is_inked (chunk_at e) ≡ true → events_back m ≡ Shows k (Raw (codes " ") 1) ∷ [] → has_newline m ≡ true
      → FirstOrLater (Placed (place_of p)) (padded n base.back) m e before → column_back (put n p.part p.bytes p.weight base).back ≡ 0
  at m before e k i blank line (here is x r) = let no : [] ≡ Shows k (Raw (codes " ") 1) ∷ [] = sym (ap events_back is) ∙ blank in absurd cc
  at m before e k i blank line (later rest is there) =
      let none : events_back rest ≡ [] = cc in
      let found : After (padded n) base.back rest e before = cut_padded n base.back rest e before there in
      let none_found : events_back found.rest ≡ [] = sym (ap events_back found.is ∙ same_padded events_back (λ x. refl) n found.rest) ∙ none in
      let bytes : p.bytes ≡ codes " " = cc in
      let same_line : has_newline m ≡ has_newline found.rest = ap has_newline is ∙ ap has_newline found.is ∙ same_padded has_newline (λ x. refl) n found.rest in
      let some : has_newline found.rest ≡ true = sym same_line ∙ line in
      absurd (begins found.rest some none_found found.there bytes b) where
        begins : (rest : List Stretch) → has_newline rest ≡ true → events_back rest ≡ [] → Cut base.back rest e before → p.bytes ≡ codes " " → Begins width st p base → ⊥
        begins rest some none there bytes (first t s) = grind (arith, ink_at, ink_text)
        begins rest some none there bytes z = grind (arith, last_lines)

not_shown : {margin_of : ℕ → ℕ} (st : State) (next : Next) (event : Event) (margin k : ℕ) (chunk : Chunk) → Suits margin_of st next → next ≡ mark event margin → event ≡ Shows k chunk → ⊥
not_shown st next event margin k chunk suits e = by_mark (λ x m. x ≡ Shows k chunk → ⊥) suits e (λ b m l u h. cc) (λ b m l u h. cc)

pub start_grows : {width : ℕ} {margin_of : ℕ → ℕ} {st after : State} {next : Next} → EachPlace Fills st.back → EachPassed NoInk st.back → IsLast st → Suits margin_of st next
    → Grows width st next after → IsAtStart st → IsAtStart after
start_grows f q l suits (placing p e (places base n b d a)) h = subst IsAtStart (sym a) (start_put p base n f q l b)
start_grows f q l suits (placing p e (drops t mid y w b a)) h = subst IsAtStart (sym a) (λ m before g k there i blank line. refl)
start_grows f q l suits (breaking k chunk e a) h = subst IsAtStart (sym a) (λ m before g j there i blank line. refl)
start_grows {st = st} {next = next} f q l suits (passing event margin e a) h = subst IsAtStart (sym a) (λ m before g k there i blank line.
    absurd (not_shown st next event margin k (Raw (codes " ") 1) suits e (cc (sym (ap events_back (cut_passed event st.back m g before there).is) ∙ blank))))

-- ---- the law

-- an inked chunk, and since then one blank of the same text
pub record AfterBlank (r : List Stretch) (part : ℕ) : Type 0 where
  pub rest : List Stretch
  pub before : List Stretch
  pub place : Place
  pub there : Cut r rest place before
  pub inked : is_inked (chunk_at place) ≡ true
  pub blank : events_back rest ≡ Shows part (Raw (codes " ") 1) ∷ []

module _ (margin_of : ℕ → ℕ) where
  abbrev pub IsExact : List Stretch → Place → Type 0
  IsExact r f = inked_line r ≡ false → (is_quiet r ≡ true) ⊎ AfterBlank r f.part → column_back r ≡ margin_of f.part

  pub exact_grows : {width : ℕ} {st after : State} {next : Next} → width < 1_000_000 → EachPlace Fills st.back → EachPassed NoInk st.back → IsStarting st → Agrees st → HasNoPads st → IsAtStart st
      → Suits margin_of st next → Grows width st next after → EachPlace IsExact st.back → EachPlace IsExact after.back
  exact_grows {width} {st} {after} {next} small f q start agrees none h suits g all = each_grows IsExact (λ r p i x. x) core g all where
    core : (p : Piece) (base : State) (n : ℕ) → next ≡ raw p → Begins width st p base → Pads base n → IsExact (padded n base.back) (place_of p)
    core p base n is b d = λ line kind.
        let back_zero : column_back base.back ≡ 0 = zero_at (sym (same_padded inked_line (λ x. refl) n base.back) ∙ line) kind in
        let column : base.column ≡ 0 = grind (arith, no_text_column, agrees_lines) ∙ back_zero in
        let in_force : base.margin ≡ margin_of p.part = (begins_margin b).0 ∙ (fits_of suits is).margin_is in
        let pads : n ≡ margin_of p.part = grind arith in
        let total : column_back (padded n base.back) ≡ n + column_back base.back = column_padded n base.back in
        omega arith where
          after_blank : inked_line base.back ≡ false → (found : AfterBlank (padded n base.back) p.part) → After (padded n) base.back found.rest found.place found.before → Begins width st p base → column_back base.back ≡ 0
          after_blank clear found cut_there (first t s) = grind (arith, ink_at, ink_text)
          after_blank clear found cut_there (stays t l w) = at (by_cases (has_newline cut_there.rest)) where
            blank : events_back cut_there.rest ≡ Shows p.part (Raw (codes " ") 1) ∷ []
            blank = sym (ap events_back cut_there.is ∙ same_padded events_back (λ x. refl) n cut_there.rest) ∙ found.blank

            at : (has_newline cut_there.rest ≡ true) ⊎ (has_newline cut_there.rest ≡ false) → column_back base.back ≡ 0
            at h1 = grind (arith, by_lines, blank, inked_since)
          after_blank clear found cut_there (wraps t mid l w x s) = ap (λ (y : State). column_back y.back) s

          zero_at : inked_line base.back ≡ false → (is_quiet (padded n base.back) ≡ true) ⊎ AfterBlank (padded n base.back) p.part → column_back base.back ≡ 0
          zero_at clear (inl y) = quiet_column base.back (sym (same_padded is_quiet (λ x. refl) n base.back) ∙ y) clear (pads_begins b none)
          zero_at clear (inr y) = after_blank clear y (cut_padded n base.back y.rest y.place y.before y.there) b
