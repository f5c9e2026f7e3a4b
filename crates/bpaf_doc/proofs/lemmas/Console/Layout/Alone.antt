-- After a code or fence line a newline comes before the next place.
use Rattle.std.specs.Prelude.{◌++◌, ◌<◌, ◌∷◌, ◌≡◌, ◌≤◌, ◌⊎◌}
use Rattle.bpaf_doc.proofs.lemmas.Console.Words.{sym, subst, ap, arith, inl, inr, ◌∙◌, ℕ, true, false, List, [], refl, nat_tests, is_whole_line, Shows, Stretch, Gap, Placed, Passed, Place, chunk_at, is_placed}
use Rattle.bpaf_doc.proofs.lemmas.Console.Layout.State.{State, Piece, Lines, Begins, first, stays, wraps, places, drops, Next, Grows, placing, breaking, passing, padded, trimmed}
use Rattle.bpaf_doc.proofs.lemmas.Console.Layout.Back.{by_cases, EachPlace, each_grows, place_of, by_lines, same_padded, IsStarting, has_place, or_true_right}
use Rattle.bpaf_doc.proofs.lemmas.Console.Layout.Split.{Cut, cut_cons, cut_gap, cut_passed, cut_padded, has_newline, After}

-- ---- helpers

-- a page cut at a place has a place
pub place_in : (m before : List Stretch) (e : Place) → has_place (m ++ Placed e ∷ before) ≡ true
place_in [] before e = refl
place_in (x ∷ m) before e = or_true_right (is_placed x) (has_place (m ++ Placed e ∷ before)) (place_in m before e)

-- what was asked for left the page as it was, or put a newline at its end
pub data SameOrLine (st mid : State) : Type 0 where
  same_page : mid ≡ st → SameOrLine st mid
  new_line : (rest : List Stretch) → mid.back ≡ Gap 10 ∷ rest → SameOrLine st mid

pub lines_same_or_line : {st mid : State} → Lines st mid → SameOrLine st mid
lines_same_or_line {st} l = by_lines (SameOrLine st) l (same_page refl) (new_line st.back refl) (new_line st.back refl) (new_line (Gap 10 ∷ st.back) refl)

-- a newline at the end stands after each place
pub line_since : (r rest m before : List Stretch) (e : Place) → r ≡ Gap 10 ∷ rest → Cut r m e before → has_newline m ≡ true
line_since r rest m before e is there = grind (arith, cut_gap 10 rest m e before)

-- ---- the column after a code line

-- after a code or fence line the column is at least its weight
abbrev pub IsHeavy : State → Type 0
IsHeavy st = (m before : List Stretch) (e : Place) → Cut st.back m e before → is_whole_line (chunk_at e) ≡ true → has_newline m ≡ false → 1_000_000 ≤ st.column

abbrev pub AloneBefore : List Stretch → Place → Type 0
AloneBefore r f = (m before : List Stretch) (e : Place) → Cut r m e before → is_whole_line (chunk_at e) ≡ true → has_newline m ≡ true

pub alone_begins : {width : ℕ} {st : State} (p : Piece) (base : State) → width < 1_000_000 → IsStarting st → IsHeavy st → Begins width st p base → AloneBefore base.back (place_of p)
alone_begins {st = st} p base small start h (first t s) = grind (arith, place_in)
alone_begins {width} {st} p base small start h (stays t l w) = λ m before e there whole. at m before e there whole (lines_same_or_line l) (by_cases (has_newline m)) where
  at : (m before : List Stretch) (e : Place) → Cut base.back m e before → is_whole_line (chunk_at e) ≡ true → SameOrLine st base → (has_newline m ≡ true) ⊎ (has_newline m ≡ false) → has_newline m ≡ true
  at m before e there whole kind (inl n) = n
  at m before e there whole (new_line rest is) (inr n) = line_since base.back rest m before e is there
  at m before e there whole (same_page s) (inr n) = grind arith
alone_begins p base small start h (wraps t mid l w b s) = λ m before e there whole. line_since base.back (trimmed mid.back) m before e (ap (λ (x : State). x.back) s) there

pub alone_padded : (n : ℕ) (r : List Stretch) (f : Place) → AloneBefore r f → AloneBefore (padded n r) f
alone_padded n r f h = grind (arith, cut_padded n r, same_padded has_newline)

pub heavy_grows : {width : ℕ} {st after : State} {next : Next} → width < 1_000_000 → IsStarting st → Grows width st next after → IsHeavy st → IsHeavy after
heavy_grows small start (placing p e (places base n b d a)) h =
    subst IsHeavy (sym a) (grind (arith, cut_cons, nat_tests, alone_padded n base.back (place_of p) (alone_begins p base small start h b)))
heavy_grows small start (placing p e (drops t mid l w b a)) h = subst IsHeavy (sym a) (λ m before g there whole none.
    let found : After (λ x. Passed _ ∷ x) (Gap 10 ∷ trimmed mid.back) m g before = cut_passed _ (Gap 10 ∷ trimmed mid.back) m g before there in
    let line : has_newline m ≡ true = ap has_newline found.is ∙ line_since (Gap 10 ∷ trimmed mid.back) (trimmed mid.back) found.rest before g refl found.there in absurd cc)
heavy_grows {st = st} small start (breaking k chunk e a) h = subst IsHeavy (sym a) (λ m before g there whole none.
    let line : has_newline m ≡ true = line_since (Gap 10 ∷ Passed (Shows k chunk) ∷ st.back) (Passed (Shows k chunk) ∷ st.back) m before g refl there in absurd cc)
heavy_grows {st = st} small start (passing event margin e a) h = grind (arith, cut_passed event st.back)

pub alone_grows : {width : ℕ} {st after : State} {next : Next} → width < 1_000_000 → IsStarting st → IsHeavy st → Grows width st next after → EachPlace AloneBefore st.back → EachPlace AloneBefore after.back
alone_grows small start h g all = each_grows AloneBefore (λ r f i x. x) (λ p base n e b d. alone_padded n base.back (place_of p) (alone_begins p base small start h b)) g all
