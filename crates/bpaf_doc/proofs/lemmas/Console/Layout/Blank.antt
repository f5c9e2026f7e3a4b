-- A blank line stands where one is asked for.
use Rattle.std.specs.Prelude.{if◌then◌else◌, ◌&&◌, ◌++◌, ◌==◌, ◌||◌, ◌∷◌, ◌≡◌, ◌≤◌}
use Rattle.bpaf_doc.proofs.lemmas.Console.Words.{list_any, sym, subst, ap, arith, ◌∙◌, append_assoc, ℕ, zero, suc, Bool, true, false, List, [], reverse, codes, refl, reverse-append, append-nil, flat_map-append, common_steps, and_parts, eqb-true, or_cases, columns, is_inked, has_some, Event, Stretch, Gap, Placed, Passed, Place, chunk_at, event_bytes, stretch_bytes, asks_blank_line, text_of, HasBlankLine, is_inked_stretch, asks_newline, BlankLine, shows_chunk, is_raw}
use Rattle.bpaf_doc.proofs.lemmas.Console.Layout.State.{State, Piece, Lines, Pads, Begins, first, stays, wraps, Next, raw, Grows, padded, trimmed, ends_line, ends_blank, passed, Suits, is_nothing}
use Rattle.bpaf_doc.proofs.lemmas.Console.Layout.Back.{each_back, by_cases, EachPlace, each_grows, place_of, lines_back, by_trimmed, same_padded, by_break, by_grows, Fills, inked_some, no_bytes, EachPassed, NoInk, ink_text, or_true_right, or_false_left, or_false_right, each_begins, fills_cut}
use Rattle.bpaf_doc.proofs.lemmas.Console.Layout.Split.{events_back, Cut, cut_padded, ink_at, inked_line, After}

-- ---- a newline

-- a newline is asked for since an inked chunk in the last line
abbrev pub owes_line : List Stretch → Bool
owes_line [] = false
owes_line (Gap b ∷ r) = if b == 10 then false else owes_line r
owes_line (Placed e ∷ r) = if is_inked (chunk_at e) then false else owes_line r
owes_line (Passed event ∷ r) = (asks_newline event && inked_line r) || owes_line r

abbrev pub IsAskedLine : State → Type 0
IsAskedLine st = owes_line st.back ≡ true → is_nothing st.asked ≡ false

-- a page that ends in a newline owes none, and has no ink in its last line
record NothingOwed (r : List Stretch) : Type 0 where
  owes : owes_line r ≡ false
  line : inked_line r ≡ false

ends_line_owes : (r : List Stretch) → EachPlace Fills r → EachPassed NoInk r → ends_line r ≡ true → NothingOwed r
ends_line_owes [] f q h = record { owes = refl; line = refl }
ends_line_owes (x ∷ r) f q h = grind (arith, ends_line_owes r, by_cases, inked_some)

-- what ends in two newlines ends in one
pub blank_line_ends : (r : List Stretch) → ends_blank r ≡ true → ends_line r ≡ true
blank_line_ends [] h = h
blank_line_ends (x ∷ r) h = grind (arith, blank_line_ends r)

inked_line_ink : (r : List Stretch) → inked_line r ≡ true → list_any is_inked_stretch r ≡ true
inked_line_ink [] h = h
inked_line_ink (x ∷ r) h = grind (arith, inked_line_ink r)

owes_ink : (r : List Stretch) → owes_line r ≡ true → list_any is_inked_stretch r ≡ true
owes_ink [] h = absurd cc
owes_ink (x ∷ r) h = grind (arith, owes_ink r, inked_line_ink)

pub owes_begins : {width : ℕ} {st : State} {p : Piece} {base : State} → EachPlace Fills st.back → EachPassed NoInk st.back → IsAskedLine st → Begins width st p base → owes_line base.back ≡ false
owes_begins f q h e = grind (arith, ink_text, owes_ink, by_cases, ends_line_owes, blank_line_ends)

asked_line_passed : (event : Event) (margin : ℕ) (st : State) → IsAskedLine st → IsAskedLine (passed event margin st)
asked_line_passed event margin st h = grind (arith, h)

pub asked_line_grows : {width : ℕ} {st after : State} {next : Next} → EachPlace Fills st.back → EachPassed NoInk st.back
    → Grows width st next after → IsAskedLine st → IsAskedLine after
asked_line_grows {st = st} f q g h = by_grows IsAskedLine g
    (λ p base n e b d o. let none : owes_line (padded n base.back) ≡ false = same_padded owes_line (λ x. refl) n base.back ∙ owes_begins f q h b in absurd (grind arith))
    (λ p mid e l w b o. absurd cc) (λ k chunk e o. absurd cc) (λ event margin e. asked_line_passed event margin st h)

-- no newline is owed where an inked chunk stands
abbrev pub IsFreeOfDebt : List Stretch → Place → Type 0
IsFreeOfDebt r f = owes_line r ≡ false

pub free_of_debt_grows : {width : ℕ} {st after : State} {next : Next} → EachPlace Fills st.back → EachPassed NoInk st.back → IsAskedLine st
    → Grows width st next after → EachPlace IsFreeOfDebt st.back → EachPlace IsFreeOfDebt after.back
free_of_debt_grows f q h g e =
    each_grows IsFreeOfDebt (λ r p i x. x) (λ p base n is b d. same_padded owes_line (λ x. refl) n base.back ∙ owes_begins f q h b) g e

-- ---- a new line is asked for

-- the last Raw chunk is inked
abbrev pub last_raw_inked : List Stretch → Bool
last_raw_inked [] = false
last_raw_inked (Gap b ∷ r) = last_raw_inked r
last_raw_inked (Placed e ∷ r) = is_inked (chunk_at e)
last_raw_inked (Passed event ∷ r) = if shows_chunk is_raw event then false else last_raw_inked r

-- a blank line is asked for since it
abbrev pub owes_blank : List Stretch → Bool
owes_blank [] = false
owes_blank (Gap b ∷ r) = owes_blank r
owes_blank (Placed e ∷ r) = false
owes_blank (Passed event ∷ r) = if shows_chunk is_raw event then false else ((asks_blank_line event && last_raw_inked r) || owes_blank r)

abbrev pub IsAskedBlank : State → Type 0
IsAskedBlank st = owes_blank st.back ≡ true → st.asked ≡ BlankLine

-- the text ends in a newline, and no chunk stands after it
abbrev pub is_fresh : List Stretch → Bool
is_fresh [] = false
is_fresh (Gap b ∷ r) = b == 10
is_fresh (Placed e ∷ r) = false
is_fresh (Passed event ∷ r) = if has_some (event_bytes event) then false else is_fresh r

abbrev pub IsFreshAtZero : State → Type 0
IsFreshAtZero st = is_fresh st.back ≡ true → st.column ≡ 0

pub fresh_grows : {width : ℕ} {st after : State} {next : Next} → Grows width st next after → IsFreshAtZero st → IsFreshAtZero after
fresh_grows {st = st} g h = grind (arith, by_grows, no_bytes)

last_fresh : (r : List Stretch) → EachPlace Fills r → last_raw_inked r ≡ true → ends_line r ≡ true → is_fresh r ≡ true
last_fresh (x ∷ r) f i h = grind (arith, last_fresh r, inked_some)
last_fresh _ f i h = h

pub owes_fresh : (r : List Stretch) → EachPlace Fills r → owes_blank r ≡ true → ends_line r ≡ true → is_fresh r ≡ true
owes_fresh (x ∷ r) f o h = grind (arith, owes_fresh r, last_fresh)
owes_fresh _ f o h = h

pub asked_blank_grows : {width : ℕ} {margin_of : ℕ → ℕ} {st after : State} {next : Next} → Suits margin_of st next
    → Grows width st next after → IsAskedBlank st → IsAskedBlank after
asked_blank_grows {st = st} suits g h = grind (arith, by_grows, by_break)

-- ---- the text between

abbrev pub text_back : List Stretch → List ℕ
text_back m = text_of (reverse m)

pub text_back_cons : (x : Stretch) (m : List Stretch) → text_back (x ∷ m) ≡ text_back m ++ stretch_bytes x
text_back_cons x m = grind (arith, reverse-append (x ∷ []) m, flat_map-append stretch_bytes (reverse m) (x ∷ []), append-nil (stretch_bytes x))

pub some_none : (xs : List ℕ) → has_some xs ≡ false → xs ≡ []
some_none xs h = grind arith

-- the text ends in a newline
abbrev EndsLine : List Stretch → Type 0
EndsLine m = (front : List ℕ) × (text_back m ≡ front ++ codes "\n")

-- no Raw chunk stands there
abbrev pub HasNoRaw : List Stretch → Type 0
HasNoRaw m = list_any (shows_chunk is_raw) (events_back m) ≡ false

line_between : (m : List Stretch) (e : Place) (before : List Stretch) → HasNoRaw m → has_some e.shown ≡ true → ends_line (m ++ Placed e ∷ before) ≡ true → EndsLine m
line_between [] e before none some h = let no : false ≡ true = rw some at h in absurd cc
line_between (Gap b ∷ m) e before none some h = grind (arith, eqb-true b 10 h, text_back_cons (Gap b) m)
line_between (x ∷ m) e before none some h = grind (arith, line_between m, or_false_right, text_back_cons, append-nil)

blank_between : (m : List Stretch) (e : Place) (before : List Stretch) → HasNoRaw m → has_some e.shown ≡ true → ends_blank (m ++ Placed e ∷ before) ≡ true → HasBlankLine (text_back m)
blank_between [] e before none some h = let no : false ≡ true = rw some at h in absurd cc
blank_between (x ∷ m) e before none some h =
    grind (arith, common_steps, blank_between m, eqb-true, and_parts, line_between, text_back_cons, append_assoc, append-nil, or_false_right)

blank_padded : (n : ℕ) (m : List Stretch) → HasBlankLine (text_back m) → HasBlankLine (text_back (padded n m))
blank_padded zero m h = h
blank_padded (suc n) m h = grind (arith, text_back_cons (Gap 32) (padded n m), append_assoc, (blank_padded n m h))

-- ---- the law

last_between : (m : List Stretch) (e : Place) (before : List Stretch) → HasNoRaw m → is_inked (chunk_at e) ≡ true → last_raw_inked (m ++ Placed e ∷ before) ≡ true
last_between [] e before none i = i
last_between (x ∷ m) e before none i = grind (arith, last_between m, or_false_left, or_false_right)

owes_between : (m : List Stretch) (e : Place) (before : List Stretch) → HasNoRaw m → is_inked (chunk_at e) ≡ true → list_any asks_blank_line (events_back m) ≡ true
    → owes_blank (m ++ Placed e ∷ before) ≡ true
owes_between (x ∷ m) e before none i a = grind (arith, owes_between m, or_false_right, or_false_left, last_between, or_true_right)
owes_between _ e before none i a = absurd cc

module _ (width : ℕ) where
  abbrev pub HasBlankBefore : List Stretch → Place → Type 0
  HasBlankBefore r f = (m before : List Stretch) (e : Place) → Cut r m e before → is_inked (chunk_at e) ≡ true → HasNoRaw m
      → list_any asks_blank_line (events_back m) ≡ true → columns f.bytes ≤ width → HasBlankLine (text_back m)

  lines_blank : {st mid : State} → IsAskedBlank st → owes_blank st.back ≡ true → Lines st mid → ends_blank mid.back ≡ true
  lines_blank h o e = grind arith

  owed_lines : {st mid : State} → Lines st mid → owes_blank mid.back ≡ owes_blank st.back
  owed_lines {st} l = lines_back (λ r. owes_blank r ≡ owes_blank st.back) (λ r x. x) l refl

  -- after a blank line was written the column is 0
  lines_zero : {st mid : State} → EachPlace Fills st.back → IsAskedBlank st → IsFreshAtZero st → owes_blank st.back ≡ true → Lines st mid → mid.column ≡ 0
  lines_zero f h z o e = grind (arith, owes_fresh, blank_line_ends)

  abbrev Owes : List Stretch → List Stretch → Type 0
  Owes r t = (last_raw_inked t ≡ true → last_raw_inked r ≡ true) × (owes_blank t ≡ true → owes_blank r ≡ true)

  owes_trimmed : (r : List Stretch) → (last_raw_inked (trimmed r) ≡ true → last_raw_inked r ≡ true) × (owes_blank (trimmed r) ≡ true → owes_blank r ≡ true)
  owes_trimmed = grind (arith, by_trimmed Owes, by_cases, or_true_right, or_cases)

  blank_begins : {st : State} {p : Piece} {base : State} → EachPlace Fills st.back → EachPassed NoInk st.back → IsAskedBlank st → IsFreshAtZero st
      → Begins width st p base → columns p.bytes ≤ width → (m before : List Stretch) (e : Place) → Cut base.back m e before → is_inked (chunk_at e) ≡ true
      → owes_blank base.back ≡ true → ends_blank base.back ≡ true
  blank_begins {st = st} f q h z (first t s) c m before e there i o = grind (arith, ink_at, ink_text)
  blank_begins f q h z (stays t l w) c m before e there i o = lines_blank h (sym (owed_lines l) ∙ o) l
  blank_begins {st = st} f q h z (wraps t mid l w b s) c m before e there i o =
      absurd (omega (arith, lines_zero f h z (sym (owed_lines l) ∙ (owes_trimmed mid.back).1 (subst (λ (x : State). owes_blank x.back ≡ true) s o)) l))

  pub blank_before_grows : {st after : State} {next : Next} → EachPlace Fills st.back → EachPassed NoInk st.back → IsAskedBlank st → IsFreshAtZero st
      → Grows width st next after → EachPlace HasBlankBefore st.back → EachPlace HasBlankBefore after.back
  blank_before_grows {st} {after} {next} f q h z g e = each_grows HasBlankBefore (λ r p i x. x) core g e where
    core : (p : Piece) (base : State) (n : ℕ) → next ≡ raw p → Begins width st p base → Pads base n → HasBlankBefore (padded n base.back) (place_of p)
    core p base n is b d = λ m before e there i none asks fits.
        let cut_there : After (padded n) base.back m e before = cut_padded n base.back m e before there in
        let bare : HasNoRaw cut_there.rest = subst (λ es. list_any (shows_chunk is_raw) es ≡ false) (same_padded events_back (λ x. refl) n cut_there.rest) (subst HasNoRaw cut_there.is none) in
        let asked : list_any asks_blank_line (events_back cut_there.rest) ≡ true = subst (λ es. list_any asks_blank_line es ≡ true) (ap events_back cut_there.is ∙ same_padded events_back (λ x. refl) n cut_there.rest) asks in
        let owed : owes_blank base.back ≡ true = subst (λ x. owes_blank x ≡ true) (sym cut_there.there) (owes_between cut_there.rest e before bare i asked) in
        let ends : ends_blank base.back ≡ true = blank_begins f q h z b fits cut_there.rest before e cut_there.there i owed in
        let shown : has_some e.shown ≡ true = (each_back Fills cut_there.rest (Placed e ∷ before) (subst (λ x. EachPlace Fills x) cut_there.there (each_begins Fills fills_cut b f))).0 ∙ inked_some e.bytes i in
        subst (λ x. HasBlankLine (text_back x)) (sym cut_there.is) (blank_padded n cut_there.rest (blank_between cut_there.rest e before bare shown (subst (λ x. ends_blank x ≡ true) cut_there.there ends)))
