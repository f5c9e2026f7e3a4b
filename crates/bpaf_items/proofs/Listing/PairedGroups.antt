-- The groups of an item list, one after another, and what falls under each.
use Rattle.std.specs.Prelude.{if◌then◌else◌, ◌&&◌, ◌++◌, ◌+◌, ◌==◌, ◌||◌, ◌∷◌, ◌≡◌, ◌≤◌, ◌⊎◌}
use Rattle.bpaf_items.proofs.Words.{ℕ, Bool, true, false, inl, inr, List, [], map, refl, sym, ap, ◌∙◌, subst, append_assoc, append-nil, arith, filter, count_by, All, list_any, and-false, eqb-true, ne_eqb, or_parts, All-nil, All-cons, All-head, All-tail, All-map, All-filter, list_any-append, Part, HiTy, Entry, group_start, group_end, adjacent_start, adjacent_stop, Placed, placed_after, lacks_help, is_mark, is_group_mark, is_group_start, is_group_end, is_adjacent_mark, is_group_open, is_in_group, destination, is_group, HasPairedGroups, empty, outer, whole, stays}
use Rattle.bpaf_items.proofs.Listing.Placing.{entry, chosen-append, two_kept}
use Rattle.bpaf_items.proofs.Listing.Blocks.{Blocks, none, plain, block, grouped, joined}
use Rattle.bpaf_items.proofs.Listing.Pushes.{count-push, open-push}

pub paired-append : {es : List Entry} (fs : List Entry) → HasPairedGroups es → HasPairedGroups fs → HasPairedGroups (es ++ fs)
paired-append fs (empty is) h = rw is h
paired-append fs (outer e rest is no_mark p) h = rw is (outer e (rest ++ fs) refl no_mark (paired-append fs p h))
paired-append fs (whole d j k inner rest is clear p) h = rw is (whole d j k inner (rest ++ fs) (ap (λ xs. group_start d j ∷ xs) (append_assoc inner (group_end k ∷ rest) fs)) clear (paired-append fs p h))

no_group_mark : (e : Entry) → is_mark e ≡ false → is_group_mark e ≡ false
no_group_mark e h = (or_parts (is_group_mark e) (is_adjacent_mark e) h).0

-- where groups are not allowed, there is no mark of one
unmarked : {g : Bool} {es : List Entry} → Blocks g es → g ≡ false → list_any is_group_mark es ≡ false
unmarked (none is) f = rw is refl
unmarked (plain e is h) f = let n : is_group_mark e ≡ false = no_group_mark e h in rw (is, n) refl
unmarked (block t k inner is b) f = rw is (list_any-append is_group_mark inner (adjacent_stop k ∷ []) ∙ ap (λ c. c || false) (unmarked b f))
unmarked (grouped d k inner is_true is b) f = cc
unmarked (joined front back is b c) f = rw is (list_any-append is_group_mark front back ∙ ap (λ x. x || list_any is_group_mark back) (unmarked b f) ∙ unmarked c f)

pub blocks_paired : {g : Bool} {es : List Entry} → Blocks g es → g ≡ true → HasPairedGroups es
blocks_paired (none is) f = empty is
blocks_paired (plain e is h) f = outer e [] is (no_group_mark e h) (empty refl)
blocks_paired (block t k inner is b) f = outer (adjacent_start t k) (inner ++ adjacent_stop k ∷ []) is refl (paired-append (adjacent_stop k ∷ []) (blocks_paired b f) (outer (adjacent_stop k) [] refl refl (empty refl)))
blocks_paired (grouped d k inner is_true is b) f = whole d k k inner [] is (unmarked b refl) (empty refl)
blocks_paired (joined front back is b c) f = rw is (paired-append back (blocks_paired b f) (blocks_paired c f))

-- ---- what falls under a group

abbrev pub in_number : ℕ → Placed → Bool
in_number n p = is_group n (destination p)

abbrev pub members_after : List Entry → List Entry → ℕ → List Entry
members_after before es n = map entry (filter (in_number n) (placed_after before es))

pub members_after-append : (before es fs : List Entry) (n : ℕ) → members_after before (es ++ fs) n ≡ members_after before es n ++ members_after (before ++ es) fs n
members_after-append before es fs n = chosen-append (in_number n) before es fs

pub outside_no_group : (n : ℕ) (p : Placed) → is_in_group p ≡ false → in_number n p ≡ false
outside_no_group n p h = grind arith

pub open_inside : (before : List Entry) (e : Entry) → is_group_mark e ≡ false → is_group_open before ≡ true → is_in_group (before, e) ≡ true
open_inside before e h o = rw (h, o) refl

pub closed_outside : (before : List Entry) (e : Entry) → is_group_mark e ≡ false → is_group_open before ≡ false → is_in_group (before, e) ≡ false
closed_outside before e h o = rw (h, o) refl

pub not_start : (e : Entry) → is_group_mark e ≡ false → is_group_start e ≡ false
not_start e h = (or_parts (is_group_start e) (is_group_end e) h).0

pub count_same : (before : List Entry) (e : Entry) → is_group_mark e ≡ false → count_by is_group_start (before ++ e ∷ []) ≡ count_by is_group_start before
count_same before e h = let c : count_by is_group_start (before ++ e ∷ []) ≡ count_by is_group_start before + 0 = count-push is_group_start before e ∙ ap (λ b. count_by is_group_start before + (if b then 1 else 0)) (not_start e h) in omega arith

pub open_same : (before : List Entry) (e : Entry) → is_group_mark e ≡ false → is_group_open (before ++ e ∷ []) ≡ is_group_open before
open_same before e h = open-push before e ∙ ap (λ b. if b then is_group_start e else is_group_open before) h

pub open_through : (before es : List Entry) → list_any is_group_mark es ≡ false → is_group_open (before ++ es) ≡ is_group_open before
open_through before [] h = ap is_group_open (append-nil before)
open_through before (e ∷ es) h = grind (arith, open_through (before ++ e ∷ []) es, append_assoc, or_parts, open_same)

pub count_through : (before es : List Entry) → list_any is_group_mark es ≡ false → count_by is_group_start (before ++ es) ≡ count_by is_group_start before
count_through before [] h = ap (count_by is_group_start) (append-nil before)
count_through before (e ∷ es) h = grind (arith, count_through (before ++ e ∷ []) es, append_assoc, or_parts, count_same)

-- the entries of a group that are kept
abbrev pub kept_after : List Entry → List Entry → Bool → List Entry
kept_after before es c = map entry (filter (λ p. stays p && c) (placed_after before es))

-- in an open group
members_inside : (before es : List Entry) (n m : ℕ) → list_any is_group_mark es ≡ false → is_group_open before ≡ true → count_by is_group_start before ≡ m → members_after before es n ≡ kept_after before es (n == m)
members_inside before [] n m h o c = refl
members_inside before (e ∷ es) n m h o c = grind (arith, members_inside (before ++ e ∷ []) es n m, or_parts, two_kept, open_inside, count_same, open_same)

-- a whole group after entries that leave none open
module _ (before : List Entry) (d : List Part) (j k : HiTy) (inner : List Entry) (clear : list_any is_group_mark inner ≡ false) where
  abbrev pub opened : List Entry
  opened = before ++ group_start d j ∷ []

  abbrev pub number : ℕ
  number = count_by is_group_start before + 1

  pub number_opened : count_by is_group_start opened ≡ number
  number_opened = count-push is_group_start before (group_start d j)

  pub number_inner : count_by is_group_start ((opened ++ inner) ++ group_end k ∷ []) ≡ number
  number_inner = grind (arith, inner, count-push, count_through, clear, number_opened)

  pub closed_after : is_group_open ((opened ++ inner) ++ group_end k ∷ []) ≡ false
  closed_after = open-push (opened ++ inner) (group_end k)

  alone : (b : List Entry) (e : Entry) (n : ℕ) → is_in_group (b, e) ≡ true → lacks_help e ≡ false → count_by is_group_start (b ++ e ∷ []) ≡ number → members_after b (e ∷ []) n ≡ (if n == number then e ∷ [] else [])
  alone b e n i h c = grind arith

  pub group_of : ℕ → List Entry
  group_of n = (if n == number then group_start d j ∷ [] else []) ++ kept_after opened inner (n == number) ++ (if n == number then group_end k ∷ [] else [])

  pub members_of_group : (rest : List Entry) (n : ℕ) → members_after before (group_start d j ∷ (inner ++ group_end k ∷ rest)) n ≡ group_of n ++ members_after ((opened ++ inner) ++ group_end k ∷ []) rest n
  unfolding group_of
  members_of_group rest n = grind (arith, alone, number_opened, number_inner, members_inside, open-push, members_after-append, append_assoc)

  kept_none : (b es : List Entry) → kept_after b es false ≡ []
  kept_none b [] = refl
  kept_none b (e ∷ es) = rw (and-false (stays (b, e))) (kept_none (b ++ e ∷ []) es)

  pub group_of_own : (n : ℕ) → (n == number) ≡ true → group_of n ≡ group_start d j ∷ (kept_after opened inner true ++ group_end k ∷ [])
  unfolding group_of
  group_of_own n h = rw h refl

  pub group_of_other : (n : ℕ) → (n == number) ≡ false → group_of n ≡ []
  unfolding group_of
  group_of_other n h = rw (h, kept_none opened inner) refl

-- groups that come later have later numbers
pub later_none : {es : List Entry} → HasPairedGroups es → (before : List Entry) (n : ℕ) → is_group_open before ≡ false → n ≤ count_by is_group_start before → members_after before es n ≡ []
later_none (empty is) before n o l = rw is refl
later_none (outer e rest is clear p) before n o l = grind (arith, later_none p (before ++ e ∷ []) n, outside_no_group, closed_outside, count_same, open_same)
later_none (whole d j k inner rest is clear p) before n o l =
    let other : (n == number before d j k inner clear) ≡ false = ne_eqb n (count_by is_group_start before + 1) (λ e. omega arith) in
    let more : n ≤ count_by is_group_start ((opened before d j k inner clear ++ inner) ++ group_end k ∷ []) = let c : count_by is_group_start ((opened before d j k inner clear ++ inner) ++ group_end k ∷ []) ≡ count_by is_group_start before + 1 = number_inner before d j k inner clear in omega arith in
    rw is (members_of_group before d j k inner clear rest n ∙ ap (λ xs. xs ++ members_after ((opened before d j k inner clear ++ inner) ++ group_end k ∷ []) rest n) (group_of_other before d j k inner clear n other)
    ∙ later_none p ((opened before d j k inner clear ++ inner) ++ group_end k ∷ []) n (closed_after before d j k inner clear) more)

-- what falls under a group: nothing, or its start, entries without group marks, and its end
pub record IsWholeGroup (P : Entry → Type 0) (es : List Entry) : Type 0 where
  pub title : List Part
  pub first : HiTy
  pub last : HiTy
  pub inner : List Entry
  pub order : es ≡ group_start title first ∷ (inner ++ group_end last ∷ [])
  pub clear : list_any is_group_mark inner ≡ false
  pub begins : P (group_start title first)
  pub each : All P inner

module _ (P : Entry → Type 0) where
  all_back : (es fs : List Entry) → All P (es ++ fs) → All P fs
  all_back [] fs h = h
  all_back (e ∷ es) fs h = all_back es fs (All-tail P e (es ++ fs) h)

  all_front : (es fs : List Entry) → All P (es ++ fs) → All P es
  all_front [] fs h = All-nil P
  all_front (e ∷ es) fs h = All-cons P e es (All-head P e (es ++ fs) h) (all_front es fs (All-tail P e (es ++ fs) h))

  placed_all : (before es : List Entry) → All P es → All (λ p. P p.1) (placed_after before es)
  placed_all before [] h = All-nil (λ p. P p.1)
  placed_all before (e ∷ es) h = All-cons (λ p. P p.1) (before, e) _ (All-head P e es h) (placed_all (before ++ e ∷ []) es (All-tail P e es h))

  -- a part of the places of some entries
  pub part_all : (q : Placed → Bool) (before es : List Entry) → All P es → All P (map entry (filter q (placed_after before es)))
  part_all q before es h = All-map P entry _ (All-filter q (λ p. P p.1) _ (placed_all before es h))

pub part_clear : (q : Placed → Bool) (before es : List Entry) → list_any is_group_mark es ≡ false → list_any is_group_mark (map entry (filter q (placed_after before es))) ≡ false
part_clear q before [] h = refl
part_clear q before (e ∷ es) h = grind (arith, or_parts, part_clear q (before ++ e ∷ []) es (or_parts (is_group_mark e) (list_any is_group_mark es) h).1)

pub group_whole : (P : Entry → Type 0) {es : List Entry} → HasPairedGroups es → All P es → (before : List Entry) (n : ℕ) → is_group_open before ≡ false → (members_after before es n ≡ []) ⊎ IsWholeGroup P (members_after before es n)
group_whole P (empty is) h before n o = inl (rw is refl)
group_whole P {es} (outer e rest is clear p) h before n o =
    let skipped : in_number n (before, e) ≡ false = outside_no_group n (before, e) (closed_outside before e clear o) in
    let all : All P (e ∷ rest) = subst (All P) is h in
    rw (is, skipped) (group_whole P p (All-tail P e rest all) (before ++ e ∷ []) n (open_same before e clear ∙ o))
group_whole P {es} (whole d j k inner rest is clear p) h before n o =
    let all : All P (group_start d j ∷ (inner ++ group_end k ∷ rest)) = subst (All P) is h in
    let after : All P (inner ++ group_end k ∷ rest) = All-tail P (group_start d j) (inner ++ group_end k ∷ rest) all in
    let others : All P rest = All-tail P (group_end k) rest (all_back P inner (group_end k ∷ rest) after) in
    let next : List Entry = (opened before d j k inner clear ++ inner) ++ group_end k ∷ [] in
    let more : (members_after next rest n ≡ []) ⊎ IsWholeGroup P (members_after next rest n) = group_whole P p others next n (closed_after before d j k inner clear) in
    rw is
    (subst (λ xs. (xs ≡ []) ⊎ IsWholeGroup P xs) (sym (members_of_group before d j k inner clear rest n))
    (by (n == number before d j k inner clear) refl (All-head P (group_start d j) (inner ++ group_end k ∷ rest) all) (all_front P inner (group_end k ∷ rest) after) more)) where
      by : (t : Bool) → (n == number before d j k inner clear) ≡ t → P (group_start d j) → All P inner
          → (members_after ((opened before d j k inner clear ++ inner) ++ group_end k ∷ []) rest n ≡ []) ⊎ IsWholeGroup P (members_after ((opened before d j k inner clear ++ inner) ++ group_end k ∷ []) rest n)
          → (group_of before d j k inner clear n ++ members_after ((opened before d j k inner clear ++ inner) ++ group_end k ∷ []) rest n ≡ []) ⊎ IsWholeGroup P (group_of before d j k inner clear n ++ members_after ((opened before d j k inner clear ++ inner) ++ group_end k ∷ []) rest n)
      by false t begins each more = subst (λ xs. (xs ++ members_after ((opened before d j k inner clear ++ inner) ++ group_end k ∷ []) rest n ≡ []) ⊎ IsWholeGroup P (xs ++ members_after ((opened before d j k inner clear ++ inner) ++ group_end k ∷ []) rest n)) (sym (group_of_other before d j k inner clear n t)) more
      by true t begins each more =
          let same : n ≡ count_by is_group_start before + 1 = eqb-true n (count_by is_group_start before + 1) t in
          let late : n ≤ count_by is_group_start ((opened before d j k inner clear ++ inner) ++ group_end k ∷ []) = let c : count_by is_group_start ((opened before d j k inner clear ++ inner) ++ group_end k ∷ []) ≡ count_by is_group_start before + 1 = number_inner before d j k inner clear in omega arith in
          let none_left : members_after ((opened before d j k inner clear ++ inner) ++ group_end k ∷ []) rest n ≡ [] = later_none p ((opened before d j k inner clear ++ inner) ++ group_end k ∷ []) n (closed_after before d j k inner clear) late in
          inr (record {
            title = d;
            first = j;
            last = k;
            inner = kept_after (opened before d j k inner clear) inner true;
            order = ap (λ xs. group_of before d j k inner clear n ++ xs) none_left ∙ append-nil (group_of before d j k inner clear n) ∙ group_of_own before d j k inner clear n t;
            clear = part_clear (λ q. stays q && true) (opened before d j k inner clear) inner clear;
            begins = begins;
            each = part_all P (λ q. stays q && true) (opened before d j k inner clear) inner each;
          })
