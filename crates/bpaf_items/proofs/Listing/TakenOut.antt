-- Groups are taken out of a list one after another.
use Rattle.std.specs.Prelude.{if◌then◌else◌, ◌&&◌, ◌++◌, ◌+◌, ◌==◌, ◌||◌, ◌∷◌, ◌≡◌, ◌⊎◌}
use Rattle.bpaf_items.proofs.Words.{ℕ, Bool, true, false, not, inl, inr, List, [], length, map, refl, sym, ap, ◌∙◌, append_assoc, append-nil, add-one, arith, filter, count_by, nat_lt, Some, None, list_any, position, position_or_len, after_last, and-true, ne_eqb, lt-ltb, le-ltb, or_parts, length-append, list_any-append, Part, HiTy, Entry, group_start, group_end, placed_after, is_group_start, is_group_end, is_group_mark, is_group_open, is_in_group, group_members, outside_groups, find_group, both_places, HasNoGroupMark, HasPairedGroups, empty, outer, whole, stays, kept_entries, HasFirstGroup, HasNoGroup, GroupsAreTakenOut}
use Rattle.std.proofs.Math.Dec.{eqb-suc-suc}
use Rattle.bpaf_items.proofs.Listing.Placing.{entry, chosen-append, two_kept}
use Rattle.bpaf_items.proofs.Listing.Blocks.{item_list_blocks, count-append, count-cons}
use Rattle.bpaf_items.proofs.Listing.Pushes.{open-push, after_last-push}
use Rattle.bpaf_items.proofs.Listing.PairedGroups.{in_number, members_after, members_after-append, outside_no_group, closed_outside, open_inside, open_same, not_start, count_same, open_through, count_through, kept_after, opened, number, number_inner, group_of, group_of_own, group_of_other, members_of_group, closed_after, later_none, blocks_paired}

-- ---- outside groups nothing falls under one

none_outside : (before es : List Entry) (n : ℕ) → HasNoGroupMark es → is_group_open before ≡ false → members_after before es n ≡ []
none_outside before [] n h o = refl
none_outside before (e ∷ es) n h o = grind (arith, none_outside (before ++ e ∷ []) es n, or_parts, outside_no_group, closed_outside, open_same)

-- ---- the same entries in another place

-- what stays in a group depends on what stands since its start
pub kept_alike : (before other es : List Entry) (c : Bool) → after_last is_group_start before ≡ after_last is_group_start other → kept_after before es c ≡ kept_after other es c
kept_alike before other [] c same = refl
kept_alike before other (e ∷ es) c same = grind (arith, kept_alike (before ++ e ∷ []) (other ++ e ∷ []) es c, after_last-push, two_kept)

pub kept_true : (before es : List Entry) → kept_after before es true ≡ map entry (filter stays (placed_after before es))
kept_true before [] = refl
kept_true before (e ∷ es) = two_kept (stays (before, e) && true) (stays (before, e)) e before before _ _ (and-true (stays (before, e))) (kept_true (before ++ e ∷ []) es)

next_alike : (a b c : ℕ) → c ≡ b + 1 → (a + 1 == c) ≡ (a == b)
next_alike a b c is = rw (is, add-one, add-one) (eqb-suc-suc a b)

-- the numbers go down by one where an earlier group is left out
pub shifted : {es : List Entry} → HasPairedGroups es → (before other : List Entry) (n : ℕ) → is_group_open before ≡ false → is_group_open other ≡ false → count_by is_group_start before ≡ count_by is_group_start other + 1
    → members_after before es (n + 1) ≡ members_after other es n
shifted (empty is) before other n o o2 c = rw is refl
shifted (outer e rest is clear p) before other n o o2 c =
    let skipped : in_number (n + 1) (before, e) ≡ false = outside_no_group (n + 1) (before, e) (closed_outside before e clear o) in
    let skipped_too : in_number n (other, e) ≡ false = outside_no_group n (other, e) (closed_outside other e clear o2) in
    rw (is, skipped, skipped_too) (shifted p (before ++ e ∷ []) (other ++ e ∷ []) n (open_same before e clear ∙ o) (open_same other e clear ∙ o2) (count_same before e clear ∙ c ∙ ap (λ m. m + 1) (sym (count_same other e clear))))
shifted (whole d j k inner rest is clear p) before other n o o2 c =
    let t : (n + 1 == number before d j k inner clear) ≡ (n == number other d j k inner clear) = next_alike n (count_by is_group_start other + 1) (count_by is_group_start before + 1) (ap (λ m. m + 1) c) in
    let own : kept_after (opened before d j k inner clear) inner true ≡ kept_after (opened other d j k inner clear) inner true
    = kept_alike (opened before d j k inner clear) (opened other d j k inner clear) inner true (after_last-push is_group_start before (group_start d j) ∙ sym (after_last-push is_group_start other (group_start d j))) in
    let counts : count_by is_group_start ((opened before d j k inner clear ++ inner) ++ group_end k ∷ []) ≡ count_by is_group_start ((opened other d j k inner clear ++ inner) ++ group_end k ∷ []) + 1
    = number_inner before d j k inner clear ∙ ap (λ m. m + 1) c ∙ ap (λ m. m + 1) (sym (number_inner other d j k inner clear)) in
    let same_group : group_of before d j k inner clear (n + 1) ≡ group_of other d j k inner clear n = by (n == number other d j k inner clear) refl t own in
    rw is
    (members_of_group before d j k inner clear rest (n + 1)
    ∙ ap (λ xs. xs ++ members_after ((opened before d j k inner clear ++ inner) ++ group_end k ∷ []) rest (n + 1)) same_group
    ∙ ap (λ xs. group_of other d j k inner clear n ++ xs) (shifted p ((opened before d j k inner clear ++ inner) ++ group_end k ∷ []) ((opened other d j k inner clear ++ inner) ++ group_end k ∷ []) n (closed_after before d j k inner clear) (closed_after other d j k inner clear) counts)
    ∙ sym (members_of_group other d j k inner clear rest n)) where
      by : (b : Bool) → (n == number other d j k inner clear) ≡ b → (n + 1 == number before d j k inner clear) ≡ (n == number other d j k inner clear)
          → kept_after (opened before d j k inner clear) inner true ≡ kept_after (opened other d j k inner clear) inner true → group_of before d j k inner clear (n + 1) ≡ group_of other d j k inner clear n
      by true h t own = group_of_own before d j k inner clear (n + 1) (t ∙ h) ∙ ap (λ xs. group_start d j ∷ (xs ++ group_end k ∷ [])) own ∙ sym (group_of_own other d j k inner clear n h)
      by false h t own = group_of_other before d j k inner clear (n + 1) (t ∙ h) ∙ sym (group_of_other other d j k inner clear n h)

-- ---- entries outside groups

abbrev outside_after : List Entry → List Entry → List Entry
outside_after before es = map entry (filter (λ p. not (is_in_group p)) (placed_after before es))

pub outside_alike : (before other es : List Entry) → is_group_open before ≡ is_group_open other → outside_after before es ≡ outside_after other es
outside_alike before other [] same = refl
outside_alike before other (e ∷ es) same = grind (arith, two_kept, outside_alike (before ++ e ∷ []) (other ++ e ∷ []) es (open-push before e ∙ ap (λ b. if is_group_mark e then is_group_start e else b) same ∙ sym (open-push other e)), open-push)

outside_none : (before es : List Entry) → HasNoGroupMark es → is_group_open before ≡ true → outside_after before es ≡ []
outside_none before [] h o = refl
outside_none before (e ∷ es) h o = grind (arith, outside_none (before ++ e ∷ []) es, or_parts, open_inside, open_same)

outside_all : (before es : List Entry) → HasNoGroupMark es → is_group_open before ≡ false → outside_after before es ≡ es
outside_all before [] h o = refl
outside_all before (e ∷ es) h o = grind (arith, outside_all (before ++ e ∷ []) es, or_parts, closed_outside, open_same)

-- ---- places

at_or_len : (p : Entry → Bool) (front : List Entry) (e : Entry) (back : List Entry) → list_any p front ≡ false → p e ≡ true → position_or_len p (front ++ e ∷ back) ≡ length front
at_or_len p [] e back h y = rw y refl
at_or_len p (f ∷ front) e back h y = grind (arith, at_or_len p front e back (or_parts (p f) (list_any p front) h).1 y, or_parts)

place_at : (p : Entry → Bool) (front : List Entry) (e : Entry) (back : List Entry) → list_any p front ≡ false → p e ≡ true → position p (front ++ e ∷ back) ≡ Some (length front)
place_at p front e back h y = grind (arith, front, back, length-append, lt-ltb, at_or_len)

past_len : (p : Entry → Bool) (es : List Entry) → list_any p es ≡ false → position_or_len p es ≡ length es
past_len p [] h = refl
past_len p (e ∷ es) h = grind (arith, past_len p es, or_parts)

no_place : (p : Entry → Bool) (es : List Entry) → list_any p es ≡ false → position p es ≡ None
no_place p es h = ap (λ n. if nat_lt n (length es) then Some n else None) (past_len p es h) ∙ ap (λ b. if b then Some (length es) else None) (le-ltb (length es) (length es) (omega arith))

no_starts : (es : List Entry) → HasNoGroupMark es → list_any is_group_start es ≡ false
no_starts [] h = refl
no_starts (e ∷ es) h = grind (arith, not_start, or_parts, no_starts es (or_parts (is_group_mark e) (list_any is_group_mark es) h).1)

no_ends : (es : List Entry) → HasNoGroupMark es → list_any is_group_end es ≡ false
no_ends [] h = refl
no_ends (e ∷ es) h = grind (arith, or_parts, no_ends es (or_parts (is_group_mark e) (list_any is_group_mark es) h).1)

-- ---- the first group

record Split (es : List Entry) : Type 0 where
  pub front : List Entry
  pub title : List Part
  pub first : HiTy
  pub inner : List Entry
  pub last : HiTy
  pub back : List Entry
  pub order : es ≡ front ++ (group_start title first ∷ (inner ++ group_end last ∷ back))
  pub clear_front : HasNoGroupMark front
  pub clear_inner : HasNoGroupMark inner
  pub paired : HasPairedGroups back

split : {es : List Entry} → HasPairedGroups es → HasNoGroupMark es ⊎ Split es
split (empty is) = inl (rw is refl)
split {es} (outer e rest is clear p) = by (split p) where
  by : HasNoGroupMark rest ⊎ Split rest → HasNoGroupMark es ⊎ Split es
  by (inl h) = inl (rw (is, clear) h)
  by (inr g) = inr (record { front = e ∷ g.front; title = g.title; first = g.first; inner = g.inner; last = g.last; back = g.back; order = is ∙ ap (λ xs. e ∷ xs) g.order; clear_front = rw clear g.clear_front; clear_inner = g.clear_inner; paired = g.paired })
split (whole d j k inner rest is clear p) = inr (record { front = []; title = d; first = j; inner = inner; last = k; back = rest; order = is; clear_front = refl; clear_inner = clear; paired = p })

front_paired : (front : List Entry) {back : List Entry} → HasNoGroupMark front → HasPairedGroups back → HasPairedGroups (front ++ back)
front_paired [] h p = p
front_paired (e ∷ front) {back} h p = outer e (front ++ back) refl (or_parts (is_group_mark e) (list_any is_group_mark front) h).0 (front_paired front (or_parts (is_group_mark e) (list_any is_group_mark front) h).1 p)

none_taken : (es : List Entry) → HasNoGroupMark es → HasNoGroup es
none_taken es h = record {
  places = ap (λ o. both_places o (position is_group_end es)) (no_place is_group_start es (no_starts es h));
  members = λ n. none_outside [] es n h refl;
  outside = outside_all [] es h refl;
  number = count_through [] es h;
}

module _ (front : List Entry) (d : List Part) (j k : HiTy) (inner back : List Entry) (clear_front : HasNoGroupMark front) (clear : HasNoGroupMark inner) (paired : HasPairedGroups back) where
  abbrev all : List Entry
  all = front ++ (group_start d j ∷ (inner ++ group_end k ∷ back))

  abbrev after : List Entry
  after = (opened front d j k inner clear ++ inner) ++ group_end k ∷ []

  closed_front : is_group_open front ≡ false
  closed_front = open_through [] front clear_front

  none_front : count_by is_group_start front ≡ 0
  none_front = count_through [] front clear_front

  members_all : (n : ℕ) → group_members all n ≡ group_of front d j k inner clear n ++ members_after after back n
  members_all n = members_after-append [] front (group_start d j ∷ (inner ++ group_end k ∷ back)) n ∙ ap (λ xs. xs ++ members_after front (group_start d j ∷ (inner ++ group_end k ∷ back)) n) (none_outside [] front n clear_front refl) ∙ members_of_group front d j k inner clear back n

  kept_here : kept_after (opened front d j k inner clear) inner true ≡ kept_entries inner
  kept_here = kept_alike (opened front d j k inner clear) [] inner true (after_last-push is_group_start front (group_start d j)) ∙ kept_true [] inner

  pub first_members : group_members all 1 ≡ group_start d j ∷ (kept_entries inner ++ group_end k ∷ [])
  first_members = grind (arith, front, inner, none_front, number_inner, members_all, later_none, paired, closed_after, append-nil, group_of_own, kept_here)

  pub other_members : (n : ℕ) → group_members all (n + 2) ≡ group_members (front ++ back) (n + 1)
  other_members n = grind (arith, number_inner front d j k inner clear, none_front, ne_eqb (n + 2) (count_by is_group_start front + 1), members_all (n + 2), group_of_other front d j k inner clear (n + 2), shifted paired after front (n + 1), closed_after front d j k inner clear, closed_front, members_after-append, none_outside)

  pub outside_all_but : outside_groups all ≡ outside_groups (front ++ back)
  outside_all_but = grind (arith, chosen-append, front, inner, back, outside_none, open-push, outside_alike, closed_after, closed_front)

  pub one_fewer : count_by is_group_start all ≡ count_by is_group_start (front ++ back) + 1
  one_fewer =
      let a : count_by is_group_start all ≡ count_by is_group_start front + count_by is_group_start (group_start d j ∷ (inner ++ group_end k ∷ back)) = count-append is_group_start front (group_start d j ∷ (inner ++ group_end k ∷ back)) in
      let b : count_by is_group_start (group_start d j ∷ (inner ++ group_end k ∷ back)) ≡ 1 + count_by is_group_start (inner ++ group_end k ∷ back) = count-cons is_group_start (group_start d j) (inner ++ group_end k ∷ back) in
      let c : count_by is_group_start (inner ++ group_end k ∷ back) ≡ count_by is_group_start inner + count_by is_group_start (group_end k ∷ back) = count-append is_group_start inner (group_end k ∷ back) in
      let e : count_by is_group_start (group_end k ∷ back) ≡ 0 + count_by is_group_start back = count-cons is_group_start (group_end k) back in
      let i : count_by is_group_start inner ≡ 0 = count_through [] inner clear in
      let f : count_by is_group_start (front ++ back) ≡ count_by is_group_start front + count_by is_group_start back = count-append is_group_start front back in
      omega arith

  pub both_at : find_group all ≡ Some (length front, length front + (1 + length inner))
  both_at =
      let start_at : position is_group_start all ≡ Some (length front) = place_at is_group_start front (group_start d j) (inner ++ group_end k ∷ back) (no_starts front clear_front) refl in
      let moved : (front ++ (group_start d j ∷ inner)) ++ group_end k ∷ back ≡ all = append_assoc front (group_start d j ∷ inner) (group_end k ∷ back) in
      let clear_ends : list_any is_group_end (front ++ (group_start d j ∷ inner)) ≡ false = list_any-append is_group_end front (group_start d j ∷ inner) ∙ ap (λ b. b || list_any is_group_end inner) (no_ends front clear_front) ∙ no_ends inner clear in
      let end_at : position is_group_end all ≡ Some (length (front ++ (group_start d j ∷ inner))) = ap (position is_group_end) (sym moved) ∙ place_at is_group_end (front ++ (group_start d j ∷ inner)) (group_end k) back clear_ends refl in
      let len : length (front ++ (group_start d j ∷ inner)) ≡ length front + (1 + length inner) = length-append front (group_start d j ∷ inner) ∙ omega arith in
      ap (λ o. both_places o (position is_group_end all)) start_at ∙ ap (λ o. both_places (Some (length front)) o) (end_at ∙ ap Some len)

one_taken : (es : List Entry) → Split es → HasFirstGroup es
one_taken es g = record {
  front = g.front;
  title = g.title;
  first = g.first;
  inner = g.inner;
  last = g.last;
  back = g.back;
  order = g.order;
  places = ap find_group g.order ∙ both_at g.front g.title g.first g.last g.inner g.back g.clear_front g.clear_inner g.paired;
  members = ap (λ xs. group_members xs 1) g.order ∙ first_members g.front g.title g.first g.last g.inner g.back g.clear_front g.clear_inner g.paired;
  others = λ n. ap (λ xs. group_members xs (n + 2)) g.order ∙ other_members g.front g.title g.first g.last g.inner g.back g.clear_front g.clear_inner g.paired n;
  outside = ap outside_groups g.order ∙ outside_all_but g.front g.title g.first g.last g.inner g.back g.clear_front g.clear_inner g.paired;
  fewer = ap (count_by is_group_start) g.order ∙ one_fewer g.front g.title g.first g.last g.inner g.back g.clear_front g.clear_inner g.paired;
  paired = front_paired g.front g.clear_front g.paired;
}

taken : (es : List Entry) → HasPairedGroups es → HasNoGroup es ⊎ HasFirstGroup es
taken es p = grind (arith, split, none_taken, one_taken)

pub groups_are_taken_out : GroupsAreTakenOut
groups_are_taken_out = record { paired = λ es is. blocks_paired (item_list_blocks es is) refl; taken = taken }
