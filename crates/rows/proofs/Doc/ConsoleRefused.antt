-- Texts that are not a layout of their document, whatever their placing: in each placing of the text the law that is
-- named does not hold.
use Rattle.std.proofs.lemmas.Grind.{common_steps}
use Rattle.std.specs.Prelude.{◌≡◌, ℕ, ◌+◌, ◌<◌, ◌≤◌, Bool, true, false, not, ◌&&◌, ◌||◌, ◌==◌, max, List, [], ◌∷◌, ◌++◌, All, codes, length, map, sum_by, refl, if◌then◌else◌, nat_lt, ◌⊎◌}
use Rattle.std.specs.List.{list_any, list_all}
use Rattle.std.specs.Str.{trim_end}
use Rattle.std.proofs.Common.{sym, subst, ap, arith, inl, inr, ◌∙◌, zero, suc, append_assoc, length-append}
use Rattle.std.proofs.Math.Dec.{leb}
use Rattle.std.proofs.lemmas.Bool.{and_parts, or_cases, or_right, and_from, not-true, eqb-true, eq-eqb, le-leb, leb-true, lt-ltb}
use Rattle.std.proofs.lemmas.Cmp.{nat_eq_equiv}
use Rattle.std.proofs.lemmas.List.Elements.{All-head, All-tail}
use Rattle.bpaf_doc.specs.declared.buffer.Block.TheVariants as block
use Rattle.bpaf_doc.specs.Buffer.Parts.{Part}
use Rattle.bpaf_doc.specs.Splitter.Chunks.{Raw, columns, is_inked, is_raw, is_ordinary, is_whole_line, starts}
use Rattle.bpaf_doc.specs.Console.Margin.{margin, greatest_margin}
use Rattle.bpaf_doc.specs.Console.Layout.{Event, Shows, Stretch, Gap, Placed, Passed, Place, chunk_at, event_bytes, text_of, events_of, stretch_columns, stretch_lines, shown_events, is_newline, is_inked_stretch, is_raw_or_ref, is_ref, MayStand, AreApart, IsKept, BeginsClear, IsLayout, asks_newline, asks_blank_line, is_light, room_of, event_columns, widest, line_before, column, padding, holds_line, leads_to_place, events_since_ink, shows_chunk}
use Rattle.bpaf_meta.proofs.lemmas.Misplaced.Among.{Among, among_left, among_right, in_map}
use Rattle.rows.proofs.Doc.Console.{computed, words, inside}

-- ---- the placings of a text

-- a choice that is gone into only where the test passes
abbrev chosen : Bool → (Unit {0} → List (List Stretch)) → List (List Stretch)
chosen true f = f tt
chosen false f = []

-- f of what follows a front
abbrev after : (front text : List ℕ) → (List ℕ → List (List Stretch)) → List (List Stretch)
after [] text f = f text
after (c ∷ front) [] f = []
after (c ∷ front) (b ∷ text) f = chosen (b == c) (λ u. after front text f)

module _ (more : List ℕ → List Event → List (List Stretch)) where
  abbrev at_end : List ℕ → List Event → List (List Stretch)
  at_end [] [] = [] ∷ []
  at_end text events = []

  abbrev at_gap : List ℕ → List Event → List (List Stretch)
  at_gap [] events = []
  at_gap (b ∷ text) events = chosen (b == 32 || b == 10) (λ u. map (λ xs. Gap b ∷ xs) (more text events))

  abbrev whole_at : List ℕ → Place → List Event → List (List Stretch)
  whole_at text e events = after e.shown text (λ rest. map (λ xs. Placed e ∷ xs) (more rest events))

  abbrev cut_at : List ℕ → Place → List Event → List (List Stretch)
  cut_at text e events = after e.shown text (λ rest. chosen (starts rest (codes "\n")) (λ u. map (λ xs. Placed e ∷ xs) (more rest events)))

  abbrev at_place : List ℕ → Event → List Event → List (List Stretch)
  at_place text (Shows k (Raw bytes weight)) events = whole_at text (record { part = k; bytes = bytes; weight = weight; shown = bytes }) events ++ cut_at text (record { part = k; bytes = bytes; weight = weight; shown = trim_end bytes }) events
  at_place text event events = []

  abbrev passing : List ℕ → Event → List Event → List (List Stretch)
  passing text event events = chosen (not (shows_chunk is_inked event)) (λ u. after (event_bytes event) text (λ rest. map (λ xs. Passed event ∷ xs) (more rest events)))

  abbrev at_event : List ℕ → List Event → List (List Stretch)
  at_event text [] = []
  at_event text (event ∷ events) = passing text event events ++ at_place text event events

-- the lists of up to n stretches that make a text and have these events
abbrev placings : ℕ → List ℕ → List Event → List (List Stretch)
placings zero text events = at_end (λ rest others. []) text events
placings (suc n) text events = at_end (placings n) text events ++ (at_gap (placings n) text events ++ at_event (placings n) text events)

abbrev EachMayStand : List Stretch → Type 0
EachMayStand stretches = (before after : List Stretch) (stretch : Stretch) → stretches ≡ before ++ stretch ∷ after → MayStand stretch after

may_stand_rest : (x : Stretch) (r : List Stretch) → EachMayStand (x ∷ r) → EachMayStand r
may_stand_rest x r h = λ before after stretch s. h (x ∷ before) after stretch (ap (λ xs. x ∷ xs) s)

found_after : (front rest : List ℕ) (f : List ℕ → List (List Stretch)) (xs : List Stretch) → Among xs (f rest) → Among xs (after front (front ++ rest) f)
found_after [] rest f xs h = h
found_after (c ∷ front) rest f xs h = rw (nat_eq_equiv.refl c) (found_after front rest f xs h)

found_gap : (more : List ℕ → List Event → List (List Stretch)) (b : ℕ) (xs : List Stretch) → (b ≡ 32) ⊎ (b ≡ 10) → Among xs (more (text_of xs) (events_of xs)) → Among (Gap b ∷ xs) (at_gap more (b ∷ text_of xs) (events_of xs))
found_gap more b xs h3 h4 = grind (arith, in_map)

module _ (more : List ℕ → List Event → List (List Stretch)) (e : Place) (xs : List Stretch) (h : Among xs (more (text_of xs) (events_of xs))) where
  abbrev place : List ℕ → Place
  place shown = record { part = e.part; bytes = e.bytes; weight = e.weight; shown = shown }

  abbrev text : List ℕ
  text = e.shown ++ text_of xs

  mapped : Among (Placed e ∷ xs) (map (λ ys. Placed e ∷ ys) (more (text_of xs) (events_of xs)))
  mapped = in_map (λ ys. Placed e ∷ ys) xs (more (text_of xs) (events_of xs)) h

  found_place : MayStand (Placed e) xs → Among (Placed e ∷ xs) (at_place more text (Shows e.part (chunk_at e)) (events_of xs))
  found_place (inl whole) =
      among_left (Placed e ∷ xs) (whole_at more text (place e.bytes) (events_of xs)) (cut_at more text (place (trim_end e.bytes)) (events_of xs))
      (subst (λ shown. Among (Placed e ∷ xs) (whole_at more text (place shown) (events_of xs))) whole (found_after e.shown (text_of xs) (λ rest. map (λ ys. Placed e ∷ ys) (more rest (events_of xs))) (Placed e ∷ xs) mapped))
  found_place (inr cut) =
      among_right (Placed e ∷ xs) (whole_at more text (place e.bytes) (events_of xs)) (cut_at more text (place (trim_end e.bytes)) (events_of xs))
      (subst (λ shown. Among (Placed e ∷ xs) (cut_at more text (place shown) (events_of xs))) cut.0
      (found_after e.shown (text_of xs) (λ rest. chosen (starts rest (codes "\n")) (λ u. map (λ ys. Placed e ∷ ys) (more rest (events_of xs)))) (Placed e ∷ xs) (rw cut.1 mapped)))

found_event : (n : ℕ) (xs : List Stretch) (text : List ℕ) (event : Event) (events : List Event) → Among xs (at_event (placings n) text (event ∷ events)) → Among xs (placings (suc n) text (event ∷ events))
found_event n xs text event events h = grind (arith, among_right)

-- each placing is among them
found : (n : ℕ) (xs : List Stretch) → length xs ≤ n → EachMayStand xs → Among xs (placings n (text_of xs) (events_of xs))
found zero [] h s = inl refl
found zero (x ∷ xs) h s = absurd (omega arith)
found (suc n) [] h s = inl refl
found (suc n) (Gap b ∷ xs) h s = grind (arith, found n xs (omega arith), among_left (Gap b ∷ xs) (at_gap (placings n) (b ∷ text_of xs) (events_of xs)) (at_event (placings n) (b ∷ text_of xs) (events_of xs)), found_gap (placings n) b xs (s [] xs (Gap b) refl), may_stand_rest (Gap b) xs s)
found (suc n) (Placed e ∷ xs) h s =
    let text = e.shown ++ text_of xs in
    let event = Shows e.part (chunk_at e) in
    found_event n (Placed e ∷ xs) text event (events_of xs)
    (among_right (Placed e ∷ xs) (passing (placings n) text event (events_of xs)) (at_place (placings n) text event (events_of xs))
    (found_place (placings n) e xs (found n xs (omega arith) (may_stand_rest (Placed e) xs s)) (s [] xs (Placed e) refl)))
found (suc n) (Passed event ∷ xs) h s =
    let text = event_bytes event ++ text_of xs in
    let here = in_map (λ ys. Passed event ∷ ys) xs (placings n (text_of xs) (events_of xs)) (found n xs (omega arith) (may_stand_rest (Passed event) xs s)) in
    found_event n (Passed event ∷ xs) text event (events_of xs)
    (among_left (Passed event ∷ xs) (passing (placings n) text event (events_of xs)) (at_place (placings n) text event (events_of xs))
    (rw (s [] xs (Passed event) refl) (found_after (event_bytes event) (text_of xs) (λ rest. map (λ ys. Passed event ∷ ys) (placings n rest (events_of xs))) (Passed event ∷ xs) here)))

-- a stretch makes a byte or has an event
few : (xs : List Stretch) → length xs ≤ length (text_of xs) + length (events_of xs)
few [] = omega arith
few (x ∷ xs) = grind (arith, few xs, length-append)

-- ---- where a law does not hold

abbrev some_cut : (List Stretch → Stretch → List Stretch → Bool) → (before xs : List Stretch) → Bool
some_cut g before [] = false
some_cut g before (x ∷ xs) = g before x xs || some_cut g (before ++ x ∷ []) xs

record Cut (g : List Stretch → Stretch → List Stretch → Bool) (xs : List Stretch) : Type 0 where
  before : List Stretch
  at : Stretch
  after : List Stretch
  order : xs ≡ before ++ at ∷ after
  holds : g before at after ≡ true

cut_from : (g : List Stretch → Stretch → List Stretch → Bool) (before xs : List Stretch) → some_cut g before xs ≡ true → Cut g (before ++ xs)
cut_from g before [] h = absurd cc
cut_from g before (x ∷ xs) h = elim (or_cases (g before x xs) (some_cut g (before ++ x ∷ []) xs) h) [
  | inl here ↦ record { before = before; at = x; after = xs; order = refl; holds = here }
  | inr later ↦ subst (Cut g) (append_assoc before (x ∷ []) xs) (cut_from g (before ++ x ∷ []) xs later)
]

abbrev placed_where : (Place → Bool) → Stretch → Bool
placed_where p (Placed e) = p e
placed_where p x = false

place_from : (p : Place → Bool) (x : Stretch) → placed_where p x ≡ true → (e : Place) × (x ≡ Placed e) × (p e ≡ true)
place_from p (Placed e) h = (e, refl, h)
place_from p x h = absurd cc

abbrev some_place : (List Stretch → Place → List Stretch → Bool) → List Stretch → Bool
some_place g xs = some_cut (λ before x after. placed_where (λ e. g before e after) x) [] xs

record OnePlace (g : List Stretch → Place → List Stretch → Bool) (xs : List Stretch) : Type 0 where
  before : List Stretch
  e : Place
  after : List Stretch
  order : xs ≡ before ++ Placed e ∷ after
  holds : g before e after ≡ true

one_place : (g : List Stretch → Place → List Stretch → Bool) (xs : List Stretch) → some_place g xs ≡ true → OnePlace g xs
one_place g xs h =
    let cut = cut_from (λ before x after. placed_where (λ e. g before e after) x) [] xs h in
    let placed = place_from (λ e. g cut.before e cut.after) cut.at cut.holds in
    record { before = cut.before; e = placed.0; after = cut.after; order = cut.order ∙ ap (λ x. cut.before ++ x ∷ cut.after) placed.1; holds = placed.2 }

abbrev some_two : (List Stretch → Place → List Stretch → Place → Bool) → List Stretch → Bool
some_two g xs = some_place (λ before e rest. some_place (λ between f after. g before e between f) rest) xs

record TwoPlaces (g : List Stretch → Place → List Stretch → Place → Bool) (xs : List Stretch) : Type 0 where
  before : List Stretch
  e : Place
  between : List Stretch
  f : Place
  after : List Stretch
  order : xs ≡ before ++ Placed e ∷ (between ++ Placed f ∷ after)
  holds : g before e between f ≡ true

two_places : (g : List Stretch → Place → List Stretch → Place → Bool) (xs : List Stretch) → some_two g xs ≡ true → TwoPlaces g xs
two_places g xs h =
    let one = one_place (λ before e rest. some_place (λ between f after. g before e between f) rest) xs h in
    let two = one_place (λ between f after. g one.before one.e between f) one.after one.holds in
    record { before = one.before; e = one.e; between = two.before; f = two.e; after = two.after; order = one.order ∙ ap (λ r. one.before ++ Placed one.e ∷ r) two.order; holds = two.holds }

-- a test of a list of stretches that fails at those of a layout, by one of its laws
record Law {document : List Part} {full : Bool} {width : ℕ} {text : List ℕ} (layout : IsLayout document full width text) : Type 0 where
  breaks : List Stretch → Bool
  never : breaks layout.stretches ≡ true → ⊥

each_breaks : (p : List Stretch → Bool) (c : List Stretch) (cs : List (List Stretch)) → list_all p cs ≡ true → Among c cs → p c ≡ true
each_breaks p c [] h a = absurd a
each_breaks p c (d ∷ cs) h (inl e) = ap p (sym e) ∙ (and_parts (p d) (list_all p cs) h).0
each_breaks p c (d ∷ cs) h (inr a) = each_breaks p c cs (and_parts (p d) (list_all p cs) h).1 a

-- each placing of the text breaks the law
refused : {document : List Part} {full : Bool} {width : ℕ} {text : List ℕ} (layout : IsLayout document full width text) (law : Law layout)
    → list_all law.breaks (placings (length text + length (shown_events full document)) text (shown_events full document)) ≡ true → ⊥
refused {document} {full} {width} {text} layout law h = grind (arith, common_steps, few layout.stretches, found, each_breaks law.breaks layout.stretches)

clash : (a b : Bool) → (a && not b) ≡ true → (a ≡ true → b ≡ true) → ⊥
clash a b h2 h3 = grind arith

abbrev is_blank : Stretch → Bool
is_blank (Gap b) = b == 32
is_blank x = false

blank_is : (x : Stretch) → is_blank x ≡ true → x ≡ Gap 32
blank_is x h1 = grind (arith, eqb-true)

-- whether two newlines stand together
abbrev begins_with_newline : List ℕ → Bool
begins_with_newline [] = false
begins_with_newline (b ∷ bytes) = b == 10

abbrev has_pair : List ℕ → Bool
has_pair [] = false
has_pair (b ∷ bytes) = ((b == 10) && begins_with_newline bytes) || has_pair bytes

pair_after : (front bytes : List ℕ) → has_pair bytes ≡ true → has_pair (front ++ bytes) ≡ true
pair_after [] bytes h = h
pair_after (b ∷ front) bytes h = or_right ((b == 10) && begins_with_newline (front ++ bytes)) (has_pair (front ++ bytes)) (pair_after front bytes h)

-- a Raw chunk that is left out
abbrev is_lost : Stretch → Bool
is_lost (Passed event) = shows_chunk is_raw event
is_lost x = false

none_lost : (may_add : Type 0) (xs : List Stretch) → All (IsKept may_add) xs → not (list_any is_lost xs) ≡ true
none_lost may_add [] h = refl
none_lost may_add (Passed event ∷ xs) h = grind (arith, none_lost may_add xs, All-head (IsKept may_add) (Passed event) xs h, not-true (shows_chunk is_raw event), All-tail (IsKept may_add) (Passed event) xs h)
none_lost may_add (x ∷ xs) h = none_lost may_add xs (All-tail (IsKept may_add) x xs h)

lines_within : (n : ℕ) (lines : List (List Stretch)) → All (λ line. sum_by stretch_columns line ≤ n) lines → list_all (λ line. leb (sum_by stretch_columns line) n) lines ≡ true
lines_within n [] h = refl
lines_within n (line ∷ lines) h =
    and_from (leb (sum_by stretch_columns line) n) (list_all (λ l. leb (sum_by stretch_columns l) n) lines) (le-leb (sum_by stretch_columns line) n (All-head (λ l. sum_by stretch_columns l ≤ n) line lines h))
    (lines_within n lines (All-tail (λ l. sum_by stretch_columns l ≤ n) line lines h))

-- ---- the laws

module _ {document : List Part} {full : Bool} {width : ℕ} {text : List ℕ} (layout : IsLayout document full width text) where
  abbrev by_two : (g : List Stretch → Place → List Stretch → Place → Bool) → (TwoPlaces g layout.stretches → ⊥) → Law layout
  by_two g f = record { breaks = some_two g; never = λ h. f (two_places g layout.stretches h) }

  -- at two inked chunks: a test, and what has to hold there
  abbrev by_apart : (test law : List Stretch → Place → List Stretch → Place → Bool)
      → ((before between : List Stretch) (e f : Place) → AreApart layout.stretches before e between f → test before e between f ≡ true → law before e between f ≡ true) → Law layout
  by_apart test law f = by_two (λ before e between f. (is_inked (chunk_at e) && is_inked (chunk_at f)) && (test before e between f && not (law before e between f))) (λ p.
      let parts = and_parts (is_inked (chunk_at p.e) && is_inked (chunk_at p.f)) (test p.before p.e p.between p.f && not (law p.before p.e p.between p.f)) p.holds in
      let inked = and_parts (is_inked (chunk_at p.e)) (is_inked (chunk_at p.f)) parts.0 in
      clash (test p.before p.e p.between p.f) (law p.before p.e p.between p.f) parts.1 (f p.before p.between p.e p.f (record { after = p.after; order = p.order; first_inked = inked.0; second_inked = inked.1 })))

  abbrev by_one : (test law : List Stretch → Place → Bool) → ((before after : List Stretch) (e : Place) → layout.stretches ≡ before ++ Placed e ∷ after → test before e ≡ true → law before e ≡ true) → Law layout
  by_one test law f = record {
    breaks = some_place (λ before e after. test before e && not (law before e));
    never = λ h. let p = one_place (λ before e after. test before e && not (law before e)) layout.stretches h in clash (test p.before p.e) (law p.before p.e) p.holds (f p.before p.after p.e p.order);
  }

  abbrev asked : Law layout
  asked = by_apart (λ before e between f. list_any asks_newline (events_of between)) (λ before e between f. list_any is_newline between) layout.asked.newline

  abbrev asked_blank : Law layout
  asked_blank = by_apart (λ before e between f. list_any asks_blank_line (events_of between) && (not (list_any (shows_chunk is_raw) (events_of between)) && leb (columns f.bytes) width)) (λ before e between f. has_pair (text_of between))
      (λ before between e f apart t.
      let parts = and_parts (list_any asks_blank_line (events_of between)) (not (list_any (shows_chunk is_raw) (events_of between)) && leb (columns f.bytes) width) t in
      let fits = and_parts (not (list_any (shows_chunk is_raw) (events_of between))) (leb (columns f.bytes) width) parts.1 in
      let blank = layout.asked.blank_line before between e f apart parts.0 fits.0 (leb-true (columns f.bytes) width fits.1) in
      ap has_pair (blank.2 ∙ append_assoc blank.0 (codes "\n\n") blank.1) ∙ pair_after blank.0 (codes "\n\n" ++ blank.1) refl)

  abbrev kept : Law layout
  kept = by_apart (λ before e between f. not (list_any is_inked_stretch between) && not (list_any is_newline between)) (λ before e between f. not (list_any is_lost between))
      (λ before between e f apart t.
      let parts = and_parts (not (list_any is_inked_stretch between)) (not (list_any is_newline between)) t in
      none_lost _ between (layout.kept before between e f apart parts.0 parts.1).1)

  abbrev bound : width < 1_000_000 → not (list_any is_ref (shown_events full document)) ≡ true → Law layout
  bound small bare = record {
    breaks = λ xs. not (list_all (λ line. leb (sum_by stretch_columns line) (greatest_margin document + 2 + max width (widest (events_of xs)))) (stretch_lines xs));
    never = λ h.
        clash true (list_all (λ line. leb (sum_by stretch_columns line) (greatest_margin document + 2 + max width (widest (events_of layout.stretches)))) (stretch_lines layout.stretches)) h
        (λ e. lines_within (greatest_margin document + 2 + max width (widest (events_of layout.stretches))) (stretch_lines layout.stretches) (layout.bound small bare));
  }

  module _ (small : width < 1_000_000) (clear : BeginsClear (shown_events full document)) where
    abbrev alone : Law layout
    alone = by_two (λ before e between f. is_whole_line (chunk_at e) && not (list_any is_newline between))
        (λ p. clash (is_whole_line (chunk_at p.e)) (list_any is_newline p.between) p.holds ((layout.lines small clear).alone p.before p.between p.after p.e p.f p.order))

    abbrev fits : Law layout
    fits = by_one (λ before f. list_any holds_line (line_before before)) (λ before f. leb (column before + columns f.bytes) (width + padding before))
        (λ before after f order held. le-leb (column before + columns f.bytes) (width + padding before) ((layout.lines small clear).fits before after f order held))

    abbrev padded : Law layout
    padded = record {
      breaks = some_cut (λ before x after. is_blank x && not (leads_to_place after)) [];
      never = λ h.
          let p = cut_from (λ before x after. is_blank x && not (leads_to_place after)) [] layout.stretches h in
          clash (is_blank p.at) (leads_to_place p.after) p.holds (λ b. (layout.lines small clear).padded.before_place p.before p.after (p.order ∙ ap (λ x. p.before ++ x ∷ p.after) (blank_is p.at b)));
    }

    abbrev keeps_margin : Law layout
    keeps_margin = by_one (λ before f. is_inked (chunk_at f) && (not (list_any is_inked_stretch (line_before before)) && not (list_any is_raw_or_ref (events_since_ink before)))) (λ before f. column before == margin document f.part)
        (λ before after f order t.
        let parts = and_parts (is_inked (chunk_at f)) (not (list_any is_inked_stretch (line_before before)) && not (list_any is_raw_or_ref (events_since_ink before))) t in
        let first = and_parts (not (list_any is_inked_stretch (line_before before))) (not (list_any is_raw_or_ref (events_since_ink before))) parts.1 in
        eq-eqb (column before) (margin document f.part) ((layout.lines small clear).margin.exact before after f order parts.0 first.0 (inl first.1)))

    abbrev room : Law layout
    room = by_apart (λ before e between f. not (list_any is_inked_stretch between) && (not (list_any asks_newline (events_of between)) && list_any is_newline between))
        (λ before e between f. nat_lt width (column before + e.weight + sum_by room_of (events_of between) + columns f.bytes + (if e.part == f.part then 0 else greatest_margin document)))
        (λ before between e f apart t.
        let parts = and_parts (not (list_any is_inked_stretch between)) (not (list_any asks_newline (events_of between)) && list_any is_newline between) t in
        let line = and_parts (not (list_any asks_newline (events_of between))) (list_any is_newline between) parts.1 in
        lt-ltb width (column before + e.weight + sum_by room_of (events_of between) + columns f.bytes + (if e.part == f.part then 0 else greatest_margin document)) ((layout.lines small clear).room before between e f apart parts.0 line.0 line.1))

    abbrev needed : Law layout
    needed = by_apart (λ before e between f. (is_ordinary (chunk_at e) && is_ordinary (chunk_at f)) && (list_all is_light (events_of between) && list_any is_newline between))
        (λ before e between f. nat_lt width (column before + columns e.bytes + sum_by event_columns (events_of between) + columns f.bytes))
        (λ before between e f apart t.
        let parts = and_parts (is_ordinary (chunk_at e) && is_ordinary (chunk_at f)) (list_all is_light (events_of between) && list_any is_newline between) t in
        let ordinary = and_parts (is_ordinary (chunk_at e)) (is_ordinary (chunk_at f)) parts.0 in
        let line = and_parts (list_all is_light (events_of between)) (list_any is_newline between) parts.1 in
        lt-ltb width (column before + columns e.bytes + sum_by event_columns (events_of between) + columns f.bytes) ((layout.lines small clear).needed before between e f apart ordinary.0 ordinary.1 (inl line.0) line.1))

-- an empty code line that a break stands before, and one that nothing stands before
begins_with_a_break : BeginsClear (shown_events true (words (codes "\n\n    \nx")))
unfolding computed
begins_with_a_break = refl

begins_with_empty_code : BeginsClear (shown_events true (words (codes "\n    \nx"))) → ⊥
unfolding computed
begins_with_empty_code clear = cc

-- ---- the texts

-- alone: words after a code line
word_after_code_refused : IsLayout (words (codes "\n    c\nd")) true 100 (codes "c d") → ⊥
unfolding computed
word_after_code_refused layout = refused layout (alone layout (omega arith) refl) refl

-- fits: an item's body that never wraps
body_past_the_width_refused : IsLayout (inside block.ItemTerm (words (codes "a")) ++ inside block.ItemBody (words (codes "b"))) true 5 (codes "    a  b") → ⊥
unfolding computed
body_past_the_width_refused layout = refused layout (fits layout (omega arith) refl) refl

-- fits: a word after a backquote
word_past_backquote_refused : IsLayout (inside block.TermRef (words (codes "ab"))) true 2 (codes "`ab`") → ⊥
unfolding computed
word_past_backquote_refused layout = refused layout (fits layout (omega arith) refl) refl

-- padded: a line filled with blanks
line_filled_with_blanks_refused : IsLayout (words (codes "a")) true 100 (codes "a  ") → ⊥
unfolding computed
line_filled_with_blanks_refused layout = refused layout (padded layout (omega arith) refl) refl

-- room: a break at a term reference, at a section's end, and before a code line
break_at_reference_refused : IsLayout (words (codes "a") ++ inside block.TermRef (words (codes "b"))) true 100 (codes "a\n`b`") → ⊥
unfolding computed
break_at_reference_refused layout = refused layout (room layout (omega arith) refl) refl

break_at_section_end_refused : IsLayout (inside block.Section2 (words (codes "a")) ++ words (codes "b")) true 100 (codes "a\nb") → ⊥
unfolding computed
break_at_section_end_refused layout = refused layout (room layout (omega arith) refl) refl

break_before_code_refused : IsLayout (words (codes "a\n    c")) true 100 (codes "a\nc") → ⊥
unfolding computed
break_before_code_refused layout = refused layout (room layout (omega arith) refl) refl

-- ink: the line is cut at the width
cut_at_the_width_refused : IsLayout (words (codes "a b")) true 1 (codes "a") → ⊥
unfolding computed
cut_at_the_width_refused layout = let same : codes "a" ≡ codes "ab" = layout.same_ink in cc

-- ink: brief hides what follows the inline block
hidden_for_ever_refused : IsLayout (inside block.InlineBlock (words (codes "a\n\nb")) ++ words (codes "c")) false 100 (codes "a\n") → ⊥
unfolding computed
hidden_for_ever_refused layout = let same : codes "a" ≡ codes "ac" = layout.same_ink in cc

-- asked: all texts flow into one line
texts_in_one_line_refused : IsLayout (words (codes "a\n b")) true 100 (codes "a b") → ⊥
unfolding computed
texts_in_one_line_refused layout = refused layout (asked layout) refl

-- asked: no empty line after a block
no_empty_line_refused : IsLayout (inside block.Block (words (codes "a")) ++ inside block.Block (words (codes "b"))) true 100 (codes "a\nb\n") → ⊥
unfolding computed
no_empty_line_refused layout = refused layout (asked_blank layout) refl

-- kept: the blanks between words are dropped
blank_dropped_refused : IsLayout (words (codes "a b")) true 100 (codes "ab") → ⊥
unfolding computed
blank_dropped_refused layout = refused layout (kept layout) refl

-- needed: a break after every chunk
break_after_each_word_refused : IsLayout (words (codes "a b")) true 100 (codes "a\nb") → ⊥
unfolding computed
break_after_each_word_refused layout = refused layout (needed layout (omega arith) refl) refl

-- margin: a heading is indented past its margin
heading_past_its_margin_refused : IsLayout (inside block.Section3 (words (codes "a"))) true 100 (codes "    a") → ⊥
unfolding computed
heading_past_its_margin_refused layout = refused layout (keeps_margin layout (omega arith) refl) refl

-- bound: no line ever wraps
line_past_the_bound_refused : IsLayout (words (codes "a b c d")) true 1 (codes "a b c d") → ⊥
unfolding computed
line_past_the_bound_refused layout = refused layout (bound layout (omega arith) refl) refl
