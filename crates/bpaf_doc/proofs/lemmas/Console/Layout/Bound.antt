-- No line of a page passes the bound.
use Rattle.std.specs.Prelude.{◌+◌, ◌<◌, ◌∷◌, ◌≡◌, ◌≤◌}
use Rattle.bpaf_doc.proofs.lemmas.Console.Words.{ℕ, zero, suc, max, ⊤, true, false, List, [], length, refl, sym, subst, arith, ◌∙◌, cases_lt, columns, has_some, Event, Stretch, event_bytes}
use Rattle.bpaf_doc.proofs.lemmas.Console.Layout.State.{State, Piece, Lines, Pads, Begins, Next, raw, break, mark, Grows, padded, trimmed}
use Rattle.bpaf_doc.proofs.lemmas.Console.Layout.Back.{EachPlace, lines_back, begins_back, by_trimmed, by_padded, by_grows, Fills, column_back, column_padded, no_text_column, Agrees, agrees_lines, no_bytes, EachPassed, lines_margin}

-- Q of what stands up to each stretch
abbrev pub EachFront : (List Stretch → Type 0) → List Stretch → Type 0
EachFront Q [] = Q []
EachFront Q (x ∷ r) = Q (x ∷ r) × EachFront Q r

pub whole_front : (Q : List Stretch → Type 0) (r : List Stretch) → EachFront Q r → Q r
whole_front Q [] h = h
whole_front Q (x ∷ r) h = h.0

abbrev pub Within : ℕ → List Stretch → Type 0
Within bound r = column_back r ≤ bound

abbrev pub IsBare : Event → Type 0
IsBare event = has_some (event_bytes event) ≡ false

within_padded : (bound n : ℕ) (r : List Stretch) → n + column_back r ≤ bound → EachFront (Within bound) r → EachFront (Within bound) (padded n r)
within_padded bound zero r l h = h
within_padded bound (suc n) r l h = grind (arith, within_padded bound n r, column_padded)

within_trimmed : (bound : ℕ) (r : List Stretch) → EachPassed IsBare r → EachFront (Within bound) r → EachFront (Within bound) (trimmed r)
within_trimmed bound = by_trimmed (λ r t. EachPassed IsBare r → EachFront (Within bound) r → EachFront (Within bound) t) (λ q h. h) (λ b r t ih q h. ih q h.1) (λ e r i q h. h)
    (λ e r t i ih q h. let front : column_back t ≤ bound = whole_front (Within bound) t (ih q h.1) in (omega arith, ih q h.1))
    (λ event r i q h. let no : true ≡ false = sym i ∙ q.0 in absurd cc)
    (λ event r t i ih q h.
    let front : column_back t ≤ bound = whole_front (Within bound) t (ih q.1 h.1) in
    let none : length (event_bytes event) ≡ 0 = no_bytes (event_bytes event) i in (omega arith, ih q.1 h.1))

within_lines : (bound : ℕ) {st mid : State} → Lines st mid → EachFront (Within bound) st.back → EachFront (Within bound) mid.back
within_lines bound l h = lines_back (EachFront (Within bound)) (λ r x. (omega arith, x)) l h

pub bare_lines : {st mid : State} → Lines st mid → EachPassed IsBare st.back → EachPassed IsBare mid.back
bare_lines l h = lines_back (EachPassed IsBare) (λ r x. x) l h

pub bare_trimmed : (r : List Stretch) → EachPassed IsBare r → EachPassed IsBare (trimmed r)
bare_trimmed = by_trimmed (λ r t. EachPassed IsBare r → EachPassed IsBare t) (λ h. h) (λ b r t ih h. ih h) (λ e r i h. h) (λ e r t i ih h. (refl, ih h)) (λ event r i h. h) (λ event r t i ih h. (h.0, ih h.1))

-- what comes writes no backquote
abbrev pub WritesNone : Next → Type 0
WritesNone (raw p) = ⊤
WritesNone (break k chunk) = ⊤
WritesNone (mark event margin) = IsBare event

pub bare_grows : {width : ℕ} {st after : State} {next : Next} → WritesNone next → Grows width st next after → EachPassed IsBare st.back → EachPassed IsBare after.back
bare_grows writes g h = grind (arith, by_grows, by_padded (EachPassed IsBare), begins_back, bare_trimmed, bare_lines)

-- the columns of a chunk that comes are at most these
abbrev pub IsNarrow : ℕ → Next → Type 0
IsNarrow most (raw p) = columns p.bytes ≤ most
IsNarrow most (break k chunk) = ⊤
IsNarrow most (mark event margin) = ⊤

module _ (width deepest most : ℕ) where
  abbrev pub bound : ℕ
  bound = deepest + 2 + max width most

  within_put : {st : State} (p : Piece) (base : State) (n : ℕ) → width < 1_000_000 → EachPlace Fills st.back → Agrees st → st.margin ≤ deepest → columns p.bytes ≤ most
      → Begins width st p base → Pads base n → columns p.bytes + (n + column_back base.back) ≤ bound
  within_put p base n small f h m c e d = grind (arith, no_text_column, agrees_lines, lines_margin, cases_lt)

  pub within_grows : {st after : State} {next : Next} → width < 1_000_000 → EachPlace Fills st.back → EachPassed IsBare st.back → Agrees st → st.margin ≤ deepest
      → WritesNone next → IsNarrow most next → Grows width st next after → EachFront (Within bound) st.back → EachFront (Within bound) after.back
  within_grows {st} small f q agrees m writes narrow g h =
      let front : column_back st.back ≤ bound = whole_front (Within bound) st.back h in
      by_grows (λ s. EachFront (Within bound) s.back) g
      (λ p base n e b d.
      let line : columns p.bytes + (n + column_back base.back) ≤ bound = within_put p base n small f agrees m (subst (λ (x : Next). IsNarrow most x) e narrow) b d in
      let pads : column_back (padded n base.back) ≡ n + column_back base.back = column_padded n base.back in (
        omega arith,
        within_padded bound n base.back (omega arith) (grind (arith, within_lines, within_trimmed, bare_lines)),
      ))
      (λ p mid e l w b. (omega arith, (omega arith, within_trimmed bound mid.back (bare_lines l q) (within_lines bound l h)))) (λ k chunk e. (omega arith, (omega arith, h)))
      (λ event margin e. let none : length (event_bytes event) ≡ 0 = no_bytes (event_bytes event) (subst WritesNone e writes) in (omega arith, h))
