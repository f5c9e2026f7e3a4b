-- Each step of the exact page is a step of the console's rules.
use Rattle.std.specs.Prelude.{◌&&◌, ◌++◌, ◌+◌, ◌-◌, ◌<◌, ◌∷◌, ◌≡◌, ◌≤◌, ◌⊎◌}
use Rattle.bpaf_doc.proofs.lemmas.Console.Words.{ends_with, bytes_eq, append-nil, same_from_push, replicate_next, common_steps, cases_lt, and_parts, not-true, not-false, nat_tests, Decides-eqb, IsLine, columns, has_some, Stretch, Gap, Placed, PageSoFar, Request, NoBreak, NewLine, BlankLine, sym, subst, ap, arith, inl, inr, ◌∙◌, append_assoc, ℕ, zero, suc, true, false, not, List, [], length, take, replicate, refl, IsUtf8, nat_eq, nat_le}
use Rattle.std.proofs.lemmas.Slice.Eq.{ends_is, bytes_eq-Decides}
use Rattle.bpaf_doc.specs.Console.Exact as page
use Rattle.bpaf_doc.proofs.lemmas.Console.Layout.State.{State, Piece, Lines, none_asked, line_there, line_put, blank_there, second_put, both_put, Begins, first, stays, wraps, Places, places, drops, Pads, to_margin, IsPut, sat, padded, put, wrapped, dropped, spaced, on_new_line, has_text, ends_line, ends_blank, IsLegible}
use Rattle.bpaf_doc.proofs.lemmas.Console.Layout.Back.{by_cases, by_test, by_padded}
use Rattle.bpaf_doc.proofs.lemmas.Console.Layout.Blank.{some_none, text_back, text_back_cons}
use Rattle.bpaf_doc.proofs.lemmas.Console.Layout.Stretches.{no_text, some_text, text_ends_line, text_ends_blank, trim_text, legible_trimmed}

-- ---- the exact page looks as it grew by the rules

text_padded : (n : ℕ) (r : List Stretch) → text_back (padded n r) ≡ text_back r ++ replicate n 32
text_padded zero r = sym (append-nil (text_back r))
text_padded (suc n) r =
    text_back_cons (Gap 32) (padded n r) ∙ ap (λ (t : List ℕ). t ++ 32 ∷ []) (text_padded n r) ∙ append_assoc (text_back r) (replicate n 32) (32 ∷ [])
    ∙ ap (λ t. text_back r ++ t) (let s : n + 1 ≡ suc n = omega arith in sym (replicate_next n 32) ∙ ap (λ (k : ℕ). replicate k 32) s)

padded_more : (a b : ℕ) (r : List Stretch) → padded a (padded b r) ≡ padded (a + b) r
padded_more zero b r = let e : 0 + b ≡ b = omega arith in ap (λ (n : ℕ). padded n r) (sym e)
padded_more (suc a) b r = let e : suc a + b ≡ suc (a + b) = omega arith in ap (λ xs. Gap 32 ∷ xs) (padded_more a b r) ∙ ap (λ (n : ℕ). padded n r) (sym e)

ends_front : (needle text : List ℕ) → ends_with nat_eq text needle ≡ true → (front : List ℕ) × (text ≡ front ++ needle)
ends_front needle text h = (take (length text - length needle) text, (ends_is Decides-eqb text needle (ends_with nat_eq text needle) refl).0 h)

-- a text that ends in two newlines after one more ended in one before
one_before : (text : List ℕ) → ends_with nat_eq (text ++ 10 ∷ []) (10 ∷ 10 ∷ []) ≡ true → ends_with nat_eq text (10 ∷ []) ≡ true
one_before text h = grind (arith, common_steps, ends_is, Decides-eqb, same_from_push text, append_assoc)

-- with this margin in force
module _ (level : ℕ) where
  pub record Draws (s : PageSoFar) (st : State) : Type 0 where
    pub bytes : s.text ≡ text_back st.back
    pub column : s.column ≡ st.column
    pub asked : s.request ≡ st.asked
    pub body : s.is_pending ≡ st.pending
    pub margin : level ≡ st.margin
    pub legible : IsLegible st.back
    pub fits : s.column ≤ 18446744073709551615

  draws_second : (s : PageSoFar) (st : State) → Draws s st → Draws (record s { text = s.text ++ 10 ∷ [] }) (record st { back = Gap 10 ∷ st.back })
  draws_second s st d = grind (arith, text_back_cons)

  draws_spaced : (n : ℕ) (s : PageSoFar) (st : State) → Draws s st → Draws (page.with_blanks n s) (spaced n st)
  draws_spaced n s st d = record {
    bytes = ap (λ bs. bs ++ replicate n 32) d.bytes ∙ sym (text_padded n st.back);
    column = ap (λ (k : ℕ). sat (k + n)) d.column;
    asked = d.asked;
    body = d.body;
    margin = d.margin;
    legible = by_padded IsLegible (λ x y. (inl refl, y)) n st.back d.legible;
    fits = omega arith;
  }

  draws_wrapped : (s : PageSoFar) (st : State) → Draws s st → Draws (page.wrapped s) (wrapped st)
  draws_wrapped s st d = grind (arith, trim_text, text_back_cons, legible_trimmed)

  -- ---- what is asked for

  draws_line : (s : PageSoFar) (st : State) → Draws s st → ends_with nat_eq s.text (10 ∷ []) ≡ true → ends_line st.back ≡ true
  draws_line s st d h = text_ends_line st.back (ends_front (10 ∷ []) s.text h).0 d.legible (sym d.bytes ∙ (ends_front (10 ∷ []) s.text h).1)

  draws_blank : (s : PageSoFar) (st : State) → Draws s st → ends_with nat_eq s.text (10 ∷ 10 ∷ []) ≡ true → ends_blank st.back ≡ true
  draws_blank s st d h =
      let found : (front : List ℕ) × (s.text ≡ front ++ 10 ∷ 10 ∷ []) = ends_front (10 ∷ 10 ∷ []) s.text h in
      text_ends_blank st.back found.0 d.legible (sym d.bytes ∙ found.1 ∙ sym (append_assoc found.0 (10 ∷ []) (10 ∷ [])))

  abbrev pub LinesTo : State → PageSoFar → Type 0
  LinesTo st t = (mid : State) × Lines st mid × Draws t mid

  lines_put : (s : PageSoFar) (st : State) → Draws s st → LinesTo st (page.request_met s)
  lines_put s st d = at s.request d where
    at : (a : Request) → Draws (record s { request = a }) st → LinesTo st (page.request_met (record s { request = a }))
    at NoBreak d = (st, none_asked (sym d.asked) refl, d)
    at NewLine d =
        by_test (λ x. LinesTo st (page.blank_line_put x)) (not (ends_with nat_eq s.text (10 ∷ []))) _ _
        (λ h. (on_new_line st, line_put (sym d.asked) refl, grind (arith, text_back_cons)))
        (λ h. (st, line_there (sym d.asked) (draws_line (record s { request = NewLine }) st d (not-false (ends_with nat_eq s.text (10 ∷ [])) h)) refl, d))
    at BlankLine d =
        by_test (λ x. LinesTo st (page.blank_line_put x)) (not (ends_with nat_eq s.text (10 ∷ []))) _ _
        (λ h. by_test (LinesTo st) (not (ends_with nat_eq (s.text ++ 10 ∷ []) (10 ∷ 10 ∷ []))) _ _
        (λ k. (on_new_line (on_new_line st), both_put (sym d.asked) refl, draws_second (page.on_new_line (record s { request = BlankLine })) (on_new_line st) (grind (arith, text_back_cons))))
        (λ k. absurd (let one : ends_with nat_eq s.text (10 ∷ []) ≡ true = one_before s.text (not-false (ends_with nat_eq (s.text ++ 10 ∷ []) (10 ∷ 10 ∷ [])) k) in let no : true ≡ false = sym one ∙ not-true (ends_with nat_eq s.text (10 ∷ [])) h in cc)))
        (λ h. by_test (LinesTo st) (not (ends_with nat_eq s.text (10 ∷ 10 ∷ []))) _ _
        (λ k. (record st { back = Gap 10 ∷ st.back }, second_put (sym d.asked) (draws_line (record s { request = BlankLine }) st d (not-false (ends_with nat_eq s.text (10 ∷ [])) h)) refl, draws_second (record s { request = BlankLine }) st d))
        (λ k. (st, blank_there (sym d.asked) (draws_blank (record s { request = BlankLine }) st d (not-false (ends_with nat_eq s.text (10 ∷ 10 ∷ [])) k)) refl, d)))

  -- ---- a chunk

  abbrev pub SpacesTo : State → PageSoFar → Type 0
  SpacesTo st t = (n : ℕ) × Pads st n × Draws t (spaced n st)

  spaces_put : (s : PageSoFar) (st : State) → Draws s st → SpacesTo st (page.indented level s)
  spaces_put s st d = at (level - s.column) refl where
    pads : (m : ℕ) → m ≡ st.margin - st.column → (s.is_pending && nat_le 28 (sat (s.column + m))) ≡ true → (m < 2) ⊎ (2 ≤ m) → Pads st (2 - m + m)
    pads m h1 h2 h3 = grind (arith, nat_tests, and_parts, to_margin)

    at : (m : ℕ) → m ≡ level - s.column → SpacesTo st (page.body_parted m (page.with_blanks m s))
    at m missing =
        by_test (SpacesTo st) (s.is_pending && nat_le 28 (sat (s.column + m))) _ _
        (λ h. (
          2 - m + m,
          pads m (omega arith) h (cases_lt m 2),
          subst (Draws (page.with_blanks (2 - m) (page.with_blanks m s))) (grind (arith, padded_more))
              (draws_spaced (2 - m) (page.with_blanks m s) (spaced m st) (draws_spaced m s st d)),
        ))
        (λ h. (m, to_margin (omega arith), draws_spaced m s st d))

  abbrev pub PlacedTo : Piece → State → PageSoFar → Type 0
  PlacedTo p st t = (after : State) × IsPut p st after × Draws t after

  put_placed : (p : Piece) (s : PageSoFar) (st : State) → IsUtf8 p.bytes → IsLine p.bytes → Draws s st → PlacedTo p st (page.placed level p.bytes p.weight s)
  put_placed p s st u l d =
      let spaces : SpacesTo st (page.indented level s) = spaces_put s st d in
      let column : sat (sat (st.column + spaces.0) + p.weight) ≡ sat (st.column + spaces.0 + p.weight) = omega arith in (
        put spaces.0 p.part p.bytes p.weight st,
        (spaces.0, spaces.1, refl),
        record {
          bytes = ap (λ bs. bs ++ p.bytes) spaces.2.bytes ∙ sym (text_back_cons (Placed (record { part = p.part; bytes = p.bytes; weight = p.weight; shown = p.bytes })) (padded spaces.0 st.back));
          column = ap (λ (k : ℕ). sat (k + p.weight)) spaces.2.column ∙ column;
          asked = refl;
          body = refl;
          margin = spaces.2.margin;
          legible = ((u, l, inl refl), spaces.2.legible);
          fits = omega arith;
        },
      )

  draws_dropped : (p : Piece) (s : PageSoFar) (st : State) → Draws s st → Draws s (dropped p.part p.bytes p.weight st)
  draws_dropped p s st d = grind (arith, text_back_cons, append-nil)

  abbrev pub RawTo : ℕ → Piece → State → PageSoFar → Type 0
  RawTo width p st t = (after : State) × Places width st p after × Draws t after

  pub raw_placed : (width : ℕ) (p : Piece) (s : PageSoFar) (st : State) → IsUtf8 p.bytes → IsLine p.bytes → Draws s st → RawTo width p st (page.raw_put width level p.bytes p.weight s)
  raw_placed width p s st u l d =
      by_test (RawTo width p st) (has_some s.text) _ _
      (λ h. by_test (RawTo width p st) (page.has_no_room width (columns p.bytes) (page.request_met s)) _ _
      (λ k. by_test (RawTo width p st) (bytes_eq p.bytes (32 ∷ [])) _ _
      (λ b. (dropped p.part p.bytes p.weight (wrapped lines.0), drops (some h) lines.0 lines.1 (over k) ((bytes_eq-Decides p.bytes (32 ∷ [])).0 b) refl, draws_dropped p (page.wrapped (page.request_met s)) (wrapped lines.0) turned))
      (λ b. from (page.wrapped (page.request_met s)) (wrapped lines.0) turned (wraps (some h) lines.0 lines.1 (over k) (λ e. let no : true ≡ false = sym ((bytes_eq-Decides p.bytes (32 ∷ [])).1 e) ∙ b in cc) refl)))
      (λ k. from (page.request_met s) lines.0 lines.2 (stays (some h) lines.1 (grind (arith, nat_tests)))))
      (λ h. from s st d (first (elim (by_cases (has_text st.back)) [ inl t ↦ absurd (some_text st.back t (sym d.bytes ∙ some_none s.text h)) | inr t ↦ t ]) refl)) where
        some : has_some s.text ≡ true → has_text st.back ≡ true
        some h = elim (by_cases (has_text st.back)) [ inl t ↦ t | inr t ↦ absurd (cc (sym h ∙ ap has_some (d.bytes ∙ no_text st.back t))) ]

        lines : LinesTo st (page.request_met s)
        lines = lines_put s st d

        over : page.has_no_room width (columns p.bytes) (page.request_met s) ≡ true → width < sat (lines.0.column + columns p.bytes)
        over k = grind (arith, nat_tests)

        turned : Draws (page.wrapped (page.request_met s)) (wrapped lines.0)
        turned = draws_wrapped (page.request_met s) lines.0 lines.2

        -- where it is placed
        from : (t : PageSoFar) (base : State) → Draws t base → Begins width st p base → RawTo width p st (page.placed level p.bytes p.weight t)
        from t base drawn begins =
            let placed : PlacedTo p base (page.placed level p.bytes p.weight t) = put_placed p t base u l drawn in (placed.0, places base placed.1.0 begins placed.1.1 placed.1.2, placed.2)
