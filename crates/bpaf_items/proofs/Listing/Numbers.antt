-- The group that an entry of an item list falls under is one of those that the list has.
use Rattle.std.specs.Prelude.{◌++◌, ◌+◌, ◌-◌, ◌<◌, ◌∷◌, ◌≡◌, ◌≤◌}
use Rattle.bpaf_items.proofs.Words.{ℕ, false, List, [], length, refl, sym, ap, ◌∙◌, subst, append_assoc, arith, count_by, All, Contains, Option, list_any, range_with_len, or_parts, All-nil, All-cons, All-append, All-same, Entry, group_start, group_end, Placed, placed_after, group, is_group_mark, is_group_start, is_group_open, is_in_group, heading_after, destination, HasPairedGroups, empty, outer, whole, FallsUnderWritten}
use Rattle.std.proofs.lemmas.List.FromFn.{length-range_with_len, get_or-range_with_len}
use Rattle.bpaf_items.proofs.Listing.Placing.{placed_after-append}
use Rattle.bpaf_items.proofs.Listing.Blocks.{count-append, item_list_blocks}
use Rattle.bpaf_items.proofs.Listing.PairedGroups.{blocks_paired, closed_outside, closed_after, count_same, number_inner, number_opened, open_same}

-- the number of the group that is open at a place, or that its mark starts
abbrev number_at : Placed → ℕ
number_at p = count_by is_group_start (p.0 ++ p.1 ∷ [])

after_mark : (o : Option Entry) (e : Entry) (n : ℕ) → heading_after o e ≡ group n → ⊥
after_mark o e n h = grind arith

outside_none : (p : Placed) (n : ℕ) → is_in_group p ≡ false → destination p ≡ group n → ⊥
outside_none p n out h = grind (arith, after_mark)

number_is : (p : Placed) (n : ℕ) → destination p ≡ group n → number_at p ≡ n
number_is p n h = grind (arith, outside_none)

-- a number from 1 to m is one of these
among : (m n : ℕ) → 1 ≤ n → n ≤ m → Contains (range_with_len 1 m) n
among m n low high =
    let below : n - 1 < length (range_with_len 1 m) = rw (length-range_with_len 1 m) (omega arith) in
    let sum : 1 + (n - 1) ≡ n = omega arith in
    (n - 1, below, get_or-range_with_len 1 m (n - 1) n (omega arith) ∙ sum)

-- of m groups
module _ (m : ℕ) where
  abbrev Within : Placed → Type 0
  Within p = (n : ℕ) → destination p ≡ group n → Contains (range_with_len 1 m) n

  inside : (p : Placed) → 1 ≤ number_at p → number_at p ≤ m → Within p
  inside p low high = λ n h. let is : number_at p ≡ n = number_is p n h in among m n (omega arith) (omega arith)

  outside : (p : Placed) → is_in_group p ≡ false → Within p
  outside p out = λ n h. absurd (outside_none p n out h)

  -- after a start, up to the end of its group
  inner_within : (before es : List Entry) → list_any is_group_mark es ≡ false → 1 ≤ count_by is_group_start before → count_by is_group_start before ≤ m → All Within (placed_after before es)
  inner_within before [] clear low high = All-nil Within
  inner_within before (e ∷ es) clear low high =
      let parts = or_parts (is_group_mark e) (list_any is_group_mark es) clear in
      let same : number_at (before, e) ≡ count_by is_group_start before = count_same before e parts.0 in
      All-cons Within (before, e) (placed_after (before ++ e ∷ []) es) (inside (before, e) (omega arith) (omega arith)) (inner_within (before ++ e ∷ []) es parts.1 (omega arith) (omega arith))

  all_within : {es : List Entry} → HasPairedGroups es → (before : List Entry) → is_group_open before ≡ false → count_by is_group_start (before ++ es) ≤ m → All Within (placed_after before es)
  all_within (empty is) before o h = rw is (All-nil Within)
  all_within {es} (outer e rest is clear p) before o h =
      let moved : (before ++ e ∷ []) ++ rest ≡ before ++ es = append_assoc before (e ∷ []) rest ∙ ap (λ xs. before ++ xs) (sym is) in
      let later = all_within p (before ++ e ∷ []) (open_same before e clear ∙ o) (subst (λ xs. count_by is_group_start xs ≤ m) (sym moved) h) in
      rw is (All-cons Within (before, e) (placed_after (before ++ e ∷ []) rest) (outside (before, e) (closed_outside before e clear o)) later)
  all_within {es} (whole d j k inner rest is clear p) before o h =
      let opened : List Entry = before ++ group_start d j ∷ [] in
      let ended : List Entry = (opened ++ inner) ++ group_end k ∷ [] in
      let first : count_by is_group_start opened ≡ count_by is_group_start before + 1 = number_opened before d j k inner clear in
      let last : count_by is_group_start ended ≡ count_by is_group_start before + 1 = number_inner before d j k inner clear in
      let moved : ended ++ rest ≡ before ++ es = append_assoc (opened ++ inner) (group_end k ∷ []) rest ∙ append_assoc opened inner (group_end k ∷ rest) ∙ append_assoc before (group_start d j ∷ []) (inner ++ group_end k ∷ rest) ∙ ap (λ xs. before ++ xs) (sym is) in
      let fits : count_by is_group_start ended + count_by is_group_start rest ≤ m = subst (λ n. n ≤ m) (ap (count_by is_group_start) (sym moved) ∙ count-append is_group_start ended rest) h in
      let later = all_within p ended (closed_after before d j k inner clear) (subst (λ xs. count_by is_group_start xs ≤ m) (sym moved) h) in
      let at_end = All-cons Within (opened ++ inner, group_end k) (placed_after ended rest) (inside (opened ++ inner, group_end k) (omega arith) (omega arith)) later in
      let after = All-same Within (placed_after opened (inner ++ group_end k ∷ rest)) (placed_after opened inner ++ placed_after (opened ++ inner) (group_end k ∷ rest)) (placed_after-append opened inner (group_end k ∷ rest))
      (All-append Within (placed_after opened inner) (placed_after (opened ++ inner) (group_end k ∷ rest)) (inner_within opened inner clear (omega arith) (omega arith)) at_end) in
      rw is (All-cons Within (before, group_start d j) (placed_after opened (inner ++ group_end k ∷ rest)) (inside (before, group_start d j) (omega arith) (omega arith)) after)

pub falls_under_written : FallsUnderWritten
falls_under_written es is = all_within (count_by is_group_start es) (blocks_paired (item_list_blocks es is) refl) [] refl (omega arith)
