-- What the walk over the entries outside groups gives is what falls under a heading.
use Rattle.std.specs.Prelude.{◌++◌, ◌∷◌, ◌≡◌}
use Rattle.bpaf_items.proofs.Words.{common_steps, Bool, true, false, not, List, [], map, refl, sym, ap, ◌∙◌, append-nil, arith, filter, Option, Some, None, last_or, HiTy, Entry, group_start, adjacent_start, Placed, placed_after, is_adjacent_mark, is_mark, is_in_group, last_that, outside_groups, heading_after, group_destination, heading_destination, destination, is_heading, is_given_after, is_given, HeadingsAgree}
use Rattle.bpaf_items.proofs.Listing.Placing.{entry, two_kept, outside_groups-push}

-- outside groups each mark is an adjacent one
marks_alike : (ps : List Placed) → filter is_mark (map (λ p. p.1) (filter (λ p. not (is_in_group p)) ps)) ≡ filter is_adjacent_mark (map (λ p. p.1) (filter (λ p. not (is_in_group p)) ps))
marks_alike [] = refl
marks_alike (p ∷ ps) = grind (arith, marks_alike ps)

-- the last entry that passes a test passes it
last_passes_from : (p : Entry → Bool) (o : Option Entry) (es : List Entry) (e : Entry) → ((f : Entry) → o ≡ Some f → p f ≡ true) → last_or o (filter p es) ≡ Some e → p e ≡ true
last_passes_from p o [] e h is = h e is
last_passes_from p o (x ∷ es) e h is = by (p x) refl (λ q g eq. last_passes_from p q es e g eq) where
  by : (b : Bool) → p x ≡ b → ((q : Option Entry) → ((f : Entry) → q ≡ Some f → p f ≡ true) → last_or q (filter p es) ≡ Some e → p e ≡ true) → p e ≡ true
  by true y again = again (Some x) (λ f is_x. let same : x ≡ f = cc in ap p (sym same) ∙ y) (let first : filter p (x ∷ es) ≡ x ∷ filter p es = rw y refl in ap (last_or o) (sym first) ∙ is)
  by false n again = again o h (let first : filter p (x ∷ es) ≡ filter p es = rw n refl in ap (last_or o) (sym first) ∙ is)

pub last_passes : (p : Entry → Bool) (es : List Entry) (e : Entry) → last_that p es ≡ Some e → p e ≡ true
last_passes p es e is = last_passes_from p None es e (λ f none. cc) is

-- after an adjacent mark, or after none
after_mark : (o : Option Entry) (k : HiTy) (e : Entry) → ((f : Entry) → o ≡ Some f → is_adjacent_mark f ≡ true) → is_heading k (heading_after o e) ≡ is_given_after o k e
after_mark (Some (adjacent_start t j)) k e h = grind arith
after_mark (Some (group_start d j)) k e h = let no : is_adjacent_mark (group_start d j) ≡ true = h (group_start d j) refl in cc
after_mark o k e h = refl

falls_as_given : (before : List Entry) (k : HiTy) (e : Entry) → is_heading k (heading_destination (before, e)) ≡ is_given k (outside_groups before, e)
falls_as_given before k e = grind (arith, common_steps, marks_alike, after_mark, last_passes)

-- no entry of a group falls under a heading
pub group_no_heading : (k : HiTy) (p : Placed) → is_heading k (group_destination p) ≡ false
group_no_heading k p = grind arith

module _ (k : HiTy) where
  abbrev falls : Placed → Bool
  falls p = is_heading k (destination p)

  abbrev outside : Placed → Bool
  outside p = not (is_in_group p)

  heading_step : (b : Bool) (before es : List Entry) (e : Entry) → is_in_group (before, e) ≡ b
      → map entry (filter falls (placed_after (before ++ e ∷ []) es)) ≡ map entry (filter (is_given k) (placed_after (outside_groups (before ++ e ∷ [])) (map entry (filter outside (placed_after (before ++ e ∷ []) es)))))
      → map entry (filter falls (placed_after before (e ∷ es))) ≡ map entry (filter (is_given k) (placed_after (outside_groups before) (map entry (filter outside (placed_after before (e ∷ es))))))
  heading_step b before es e h4 h5 = grind (arith, outside_groups-push, append-nil, group_no_heading, falls_as_given, two_kept)

  headings_after : (before es : List Entry) → map entry (filter falls (placed_after before es)) ≡ map entry (filter (is_given k) (placed_after (outside_groups before) (map entry (filter outside (placed_after before es)))))
  headings_after before [] = refl
  headings_after before (e ∷ es) = heading_step (is_in_group (before, e)) before es e refl (headings_after (before ++ e ∷ []) es)

pub headings_agree : HeadingsAgree
headings_agree es k = headings_after k [] es
