-- Chunks fit the width, and blanks are added only up to the margin or after a wide term, and before a place.
use Rattle.std.specs.Prelude.{if◌then◌else◌, ◌&&◌, ◌++◌, ◌+◌, ◌<◌, ◌==◌, ◌||◌, ◌∷◌, ◌≡◌, ◌≤◌, ◌⊎◌}
use Rattle.bpaf_doc.proofs.lemmas.Console.Words.{ℕ, zero, suc, ⊤, Bool, true, false, List, [], reverse, refl, rules, ap, arith, inl, inr, ◌∙◌, append_assoc, reverse-append, columns, Event, Stretch, Gap, Placed, Passed, Place, is_newline, is_placed, is_gap, holds_line, leads_to_place, opens_body}
use Rattle.bpaf_doc.proofs.lemmas.Console.Layout.State.{State, Piece, Lines, Pads, Begins, first, stays, wraps, Next, raw, Grows, padded, trimmed, has_text, Suits}
use Rattle.bpaf_doc.proofs.lemmas.Console.Layout.Back.{by_cases, EachPlace, KeepsCut, each_grows, place_of, fits_of, by_lines, lines_back, begins_back, by_trimmed, by_padded, same_padded, by_grows, Fills, column_back, column_padded, Agrees, any_in_line, IsStarting, has_place, begins_margin, or_true_right, or_false_left, or_false_right, agrees_lines, no_text_column}

-- ---- added blanks

-- the blanks in the last line since the last chunk
abbrev pub pads_back : List Stretch → ℕ
pads_back [] = 0
pads_back (x ∷ r) = if is_newline x then 0 else (if is_placed x then 0 else ((if is_gap x then 1 else 0) + pads_back r))

-- an ItemBody started since the last chunk
abbrev pub body_back : List Stretch → Bool
body_back [] = false
body_back (Gap b ∷ r) = body_back r
body_back (Placed e ∷ r) = false
body_back (Passed event ∷ r) = opens_body event || body_back r

abbrev pub HasNoPads : State → Type 0
HasNoPads st = pads_back st.back ≡ 0

pub pads_padded : (n : ℕ) (r : List Stretch) → pads_back (padded n r) ≡ n + pads_back r
pads_padded zero r = omega arith
pads_padded (suc n) r = let ih : pads_back (padded n r) ≡ n + pads_back r = pads_padded n r in omega arith

pub pads_begins : {width : ℕ} {st : State} {p : Piece} {base : State} → Begins width st p base → HasNoPads st → HasNoPads base
pads_begins b h = begins_back (λ r. pads_back r ≡ 0) (λ r x. refl) (λ r x. refl) b h

-- ---- chunks that fit

-- a place or a backquote stands in the last line
abbrev pub holds_back : List Stretch → Bool
holds_back r = any_in_line holds_line r

-- on a page without text and without places stands nothing
no_text_holds : (r : List Stretch) → has_text r ≡ false → has_place r ≡ false → holds_back r ≡ false
no_text_holds [] t p = refl
no_text_holds (x ∷ r) t p = grind (arith, no_text_holds r, or_false_left, or_false_right)

module _ (width : ℕ) where
  -- after a place or a backquote, a chunk fits, except for the blanks before it
  abbrev pub FitsBefore : List Stretch → Place → Type 0
  FitsBefore r f = holds_back r ≡ true → column_back r + columns f.bytes ≤ width + pads_back r

  pub fits_place : {st : State} (p : Piece) (base : State) (n : ℕ) → width < 1_000_000 → EachPlace Fills st.back → IsStarting st → Agrees st → HasNoPads st
      → Begins width st p base → FitsBefore (padded n base.back) (place_of p)
  fits_place {st} p base n small f start h none (first t e) = grind (arith, no_text_holds st.back t (start t).1, same_padded holds_back)
  fits_place {st} p base n small f start h none (stays t l w) = grind (arith, no_text_column, agrees_lines, column_padded, pads_padded)
  fits_place p base n small f start h none (wraps t mid l w b e) = grind (arith, same_padded holds_back)

  pub fits_width_grows : {st after : State} {next : Next} → width < 1_000_000 → EachPlace Fills st.back → IsStarting st → Agrees st → HasNoPads st
      → Grows width st next after → EachPlace FitsBefore st.back → EachPlace FitsBefore after.back
  fits_width_grows {st} {after} {next} small f start agrees none g h = search (rules, each_grows, fits_place)

-- ---- added blanks stand before a place

-- Each blank leads to a place, where what stands after these stretches does, or does not.
abbrev pub Leads : Bool → List Stretch → Type 0
Leads place [] = ⊤
Leads place (Gap b ∷ r) = ((b == 32) ≡ true → place ≡ true) × Leads ((b == 32) && place) r
Leads place (Placed e ∷ r) = Leads true r
Leads place (Passed event ∷ r) = Leads false r

pub leads_more : (r : List Stretch) → Leads false r → Leads true r
leads_more (Gap b ∷ r) h = grind arith
leads_more _ h = h

pub leads_trimmed : (r : List Stretch) (place : Bool) → Leads place r → Leads false (trimmed r)
leads_trimmed = by_trimmed (λ r t. (place : Bool) → Leads place r → Leads false t) (λ place h. h) (λ b r t ih place h. ih ((b == 32) && place) h.1) (λ e r i place h. h)
    (λ e r t i ih place h. ih true h) (λ event r i place h. h) (λ event r t i ih place h. ih false h)

abbrev pub IsLed : State → Type 0
IsLed st = Leads false st.back

pub leads_newline : (r : List Stretch) → Leads false r → Leads false (Gap 10 ∷ r)
leads_newline r h = (λ t. absurd cc, h)

pub led_lines : {st mid : State} → Lines st mid → IsLed st → IsLed mid
led_lines l h = lines_back (Leads false) leads_newline l h

pub led_grows : {width : ℕ} {st after : State} {next : Next} → Grows width st next after → IsLed st → IsLed after
led_grows {st = st} g h =
    grind (arith, by_grows IsLed g, by_padded (Leads true), leads_more, begins_back, leads_newline, leads_trimmed, led_lines)

-- a blank of the page leads to a place
pub leads_at : (place : Bool) (m r rest : List Stretch) → Leads place (m ++ Gap 32 ∷ r) → (place ≡ true → leads_to_place rest ≡ true) → leads_to_place (reverse m ++ rest) ≡ true
leads_at place [] r rest h k = k (h.0 refl)
leads_at place (x ∷ m) r rest h k =
    ap (λ xs. leads_to_place (xs ++ rest)) (reverse-append (x ∷ []) m) ∙ ap leads_to_place (append_assoc (reverse m) (x ∷ []) rest) ∙ at x h (λ flag. leads_at flag m r (x ∷ rest)) where
      at : (x : Stretch) → Leads place (x ∷ (m ++ Gap 32 ∷ r)) → ((flag : Bool) → Leads flag (m ++ Gap 32 ∷ r) → (flag ≡ true → leads_to_place (x ∷ rest) ≡ true) → leads_to_place (reverse m ++ x ∷ rest) ≡ true)
          → leads_to_place (reverse m ++ x ∷ rest) ≡ true
      at x h1 h2 = grind arith

-- two blanks are pending only after the start of an ItemBody
abbrev pub IsPending : State → Type 0
IsPending st = st.pending ≡ true → body_back st.back ≡ true

body_trimmed : (r : List Stretch) → body_back r ≡ true → body_back (trimmed r) ≡ true
body_trimmed = by_trimmed (λ r t. body_back r ≡ true → body_back t ≡ true) (λ h. h) (λ b r t ih h. ih h) (λ e r i h. absurd cc) (λ e r t i ih h. absurd cc) (λ event r i h. h)
    (λ event r t i ih h. at event r t (by_cases (opens_body event)) h ih) where
      at : (event : Event) (r t : List Stretch) → (opens_body event ≡ true) ⊎ (opens_body event ≡ false) → body_back (Passed event ∷ r) ≡ true
          → (body_back r ≡ true → body_back t ≡ true) → body_back (Passed event ∷ t) ≡ true
      at event r t (inl o) h ih = rw o refl
      at event r t (inr o) h ih = let rest : body_back r ≡ true = rw o at h in or_true_right (opens_body event) (body_back t) (ih rest)

pending_lines : {st mid : State} → Lines st mid → IsPending st → IsPending mid
pending_lines l h = by_lines IsPending l h h h h

pub pending_grows : {width : ℕ} {st after : State} {next : Next} → Grows width st next after → IsPending st → IsPending after
pending_grows g h = by_grows IsPending g (λ p base n e b d t. absurd cc) (λ p mid e l w b t. body_trimmed mid.back (pending_lines l h t)) (λ k chunk e t. h t) (λ event margin e t. grind (arith, h))

module _ (margin_of : ℕ → ℕ) where
  -- blanks before a chunk end at the margin, or are two after the start of an ItemBody
  abbrev pub PadsOnly : List Stretch → Place → Type 0
  PadsOnly r f = 0 < pads_back r → (column_back r ≡ margin_of f.part) ⊎ ((pads_back r ≡ 2) × (body_back r ≡ true))

  pads_only_cut : KeepsCut PadsOnly
  pads_only_cut r f i h = h

  pub pads_only : (n : ℕ) (base : State) (m : ℕ) → base.margin ≡ m → base.column ≡ column_back base.back → HasNoPads base → IsPending base → Pads base n
      → 0 < pads_back (padded n base.back) → (column_back (padded n base.back) ≡ m) ⊎ ((pads_back (padded n base.back) ≡ 2) × (body_back (padded n base.back) ≡ true))
  pads_only n base m a c none pending h some = grind (arith, column_padded, pads_padded, by_padded)

  pub pads_only_grows : {width : ℕ} {st after : State} {next : Next} → width < 1_000_000 → EachPlace Fills st.back → IsStarting st → Agrees st → Suits margin_of st next
      → HasNoPads st → IsPending st → Grows width st next after → EachPlace PadsOnly st.back → EachPlace PadsOnly after.back
  pads_only_grows {width} {st} {after} {next} small f start agrees suits none pending g h = each_grows PadsOnly pads_only_cut core g h where
    core : (p : Piece) (base : State) (n : ℕ) → next ≡ raw p → Begins width st p base → Pads base n → PadsOnly (padded n base.back) (place_of p)
    core p base n e b d =
        let in_force : base.margin ≡ margin_of p.part = (begins_margin b).0 ∙ (fits_of suits e).margin_is in
        pads_only n base (margin_of p.part) in_force (grind (arith, no_text_column, agrees_lines)) (pads_begins b none) (grind (arith, pending_lines, body_trimmed)) d
