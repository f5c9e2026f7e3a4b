-- Groups, and entries outside them, taken from the front of a list.
use Rattle.std.specs.Prelude.{if◌then◌else◌, ◌&&◌, ◌++◌, ◌+◌, ◌<◌, ◌∷◌, ◌≡◌, ◌≤◌}
use Rattle.bpaf_items.proofs.Words.{get_or, ℕ, Bool, true, false, not, List, [], length, map, take, drop, refl, sym, ap, ◌∙◌, subst, append_assoc, add-one, zero, suc, arith, filter, flat_map, count_by, nat_lt, Option, Some, None, Bor, position, range_with_len, take-append_seam, drop-append_seam, map-append, length-append, take-map, drop-map, Part, Write, with_writes, with_writes-append, HiTy, Entry, group_start, group_end, placed_after, is_group_start, is_group_end, is_group_mark, is_adjacent_start, is_adjacent_stop, lacks_help, group_members, outside_groups, both_places, HasNoGroupMark, HasPairedGroups, stays, kept_entries, Texts, groups_writes, heading_writes, list_writes, group_members_writes, group_len, heading_end, three_headings_writes, items_of_type, len_through, Takes, title_front, entry_at, entry_of}
use Rattle.bpaf_items.specs.declared.meta_help.entry.HiTy.TheVariants as ty
use Rattle.bpaf_items.specs.declared.meta_help.entry.HelpItem.{HelpItem}
use Rattle.bpaf_items.proofs.Listing.Placing.{entry, chosen-append, kept_map}
use Rattle.bpaf_items.proofs.Listing.Blocks.{count-cons}
use Rattle.bpaf_items.proofs.Listing.Headings.{headings_agree}
use Rattle.bpaf_items.proofs.Listing.Pushes.{after_last-push, since_start, since_start-push}
use Rattle.bpaf_items.proofs.Listing.PairedGroups.{members_after, outside_no_group, closed_outside, open_same, not_start, count_same}
use Rattle.bpaf_items.proofs.Listing.TakenOut.{kept_alike, kept_true, shifted, outside_alike, first_members, other_members, outside_all_but, one_fewer, both_at}

-- ---- a list of numbers

same_for_each : (f g : ℕ → List Write) → ((n : ℕ) → f n ≡ g n) → (ns : List ℕ) → flat_map f ns ≡ flat_map g ns
same_for_each f g h [] = refl
same_for_each f g h (n ∷ ns) = ap (λ ws. ws ++ flat_map f ns) (h n) ∙ ap (λ ws. g n ++ ws) (same_for_each f g h ns)

numbered_on : (f g : ℕ → List Write) → ((n : ℕ) → f (n + 2) ≡ g (n + 1)) → (a c : ℕ) → flat_map f (range_with_len (a + 2) c) ≡ flat_map g (range_with_len (a + 1) c)
numbered_on f g h a zero = refl
numbered_on f g h a (suc c) = grind (arith, numbered_on f g h (a + 1) c)

-- ---- an entry outside groups

abbrev whole_before : List Entry
whole_before = group_start [] ty.Flag ∷ group_end ty.Flag ∷ []

module _ (e : Entry) (es : List Entry) (clear : is_group_mark e ≡ false) (paired : HasPairedGroups es) where
  none_before : count_by is_group_start (e ∷ []) ≡ 0
  none_before = count_same [] e clear

  members_shift : (n : ℕ) → members_after (e ∷ []) es n ≡ members_after [] es n
  members_shift n = grind (arith, shifted paired whole_before (e ∷ []) n refl, open_same, none_before, shifted paired whole_before)

  outer_members : (n : ℕ) → group_members (e ∷ es) n ≡ group_members es n
  outer_members n = grind (arith, outside_no_group, closed_outside, clear, members_shift)

  pub outer_lists : (included : Bool) (texts : Texts) → group_members_writes included texts (e ∷ es) ≡ group_members_writes included texts es
  outer_lists included texts = grind (arith, same_for_each, outer_members, count-cons, not_start)

  pub outer_outside : outside_groups (e ∷ es) ≡ e ∷ outside_groups es
  outer_outside = grind (arith, closed_outside, clear, outside_alike, open_same)

record FirstOuter (e : Entry) (es : List Entry) : Type 0 where
  pub clear : is_group_mark e ≡ false
  pub paired : HasPairedGroups es

first_outer : {all : List Entry} (e : Entry) (es : List Entry) → HasPairedGroups all → all ≡ e ∷ es → is_group_start e ≡ false → FirstOuter e es
first_outer e es h2 h3 h4 = grind arith

-- ---- a group

record FirstGroup (all : List Entry) : Type 0 where
  pub title : List Part
  pub first : HiTy
  pub last : HiTy
  pub inner : List Entry
  pub rest : List Entry
  pub order : all ≡ group_start title first ∷ (inner ++ group_end last ∷ rest)
  pub clear : HasNoGroupMark inner
  pub paired : HasPairedGroups rest

first_group : {all : List Entry} (e : Entry) (es : List Entry) → HasPairedGroups all → all ≡ e ∷ es → is_group_start e ≡ true → FirstGroup all
first_group e es h2 h3 h4 = grind (arith, not_start)

abbrev second : Option (ℕ × ℕ) → ℕ
second None = 0
second (Some p) = p.1

module _ (d : List Part) (j k : HiTy) (inner rest : List Entry) (clear : HasNoGroupMark inner) (paired : HasPairedGroups rest) where
  abbrev pub marked : List Entry
  marked = group_start d j ∷ (inner ++ group_end k ∷ [])

  abbrev pub listing : List Entry
  listing = group_start d j ∷ (inner ++ group_end k ∷ rest)

  kept_rest : map entry (filter stays (placed_after (group_start d j ∷ []) inner)) ≡ kept_entries inner
  kept_rest = grind (arith, kept_true (group_start d j ∷ []) inner, kept_alike (group_start d j ∷ []), after_last-push is_group_start, kept_true)

  kept_marked : kept_entries marked ≡ group_start d j ∷ (kept_entries inner ++ group_end k ∷ [])
  kept_marked = ap (λ xs. group_start d j ∷ xs) (chosen-append stays (group_start d j ∷ []) inner (group_end k ∷ []) ∙ ap (λ xs. xs ++ group_end k ∷ []) kept_rest)

  split : listing ≡ marked ++ rest
  split = ap (λ xs. group_start d j ∷ xs) (sym (append_assoc inner (group_end k ∷ []) rest))

  end_place : (o p : Option ℕ) → both_places o p ≡ Some (0, 0 + (1 + length inner)) → p ≡ Some (1 + length inner)
  end_place o p h2 = grind arith

  marked_len : length marked ≡ (1 + length inner) + 1
  marked_len = let l : length (inner ++ group_end k ∷ []) ≡ length inner + 1 = length-append inner (group_end k ∷ []) in omega arith

  group_len_is : group_len listing ≡ length marked
  group_len_is = ap (λ o. len_through o (length listing)) (end_place (position is_group_start listing) (position is_group_end listing) (both_at [] d j k inner rest refl clear paired)) ∙ sym marked_len

  pub group_taken : take (group_len listing) listing ≡ marked
  group_taken = ap (λ n. take n listing) group_len_is ∙ ap (take (length marked)) split ∙ take-append_seam marked rest

  pub group_left : drop (group_len listing) listing ≡ rest
  group_left = ap (λ n. drop n listing) group_len_is ∙ ap (drop (length marked)) split ∙ drop-append_seam marked rest

  pub group_within : group_len listing ≤ length listing
  group_within = grind (arith, group_len_is, rest, split, length-append)

  pub group_some : 0 < group_len listing
  group_some = grind (arith, group_len_is, inner, marked_len)

  pub group_written : (included : Bool) (texts : Texts) → group_members_writes included texts listing ≡ list_writes included texts (kept_entries (take (group_len listing) listing)) ++ group_members_writes included texts rest
  group_written included texts =
      let f : ℕ → List Write = λ n. list_writes included texts (group_members listing n) in
      let g : ℕ → List Write = λ n. list_writes included texts (group_members rest n) in
      let count : count_by is_group_start listing ≡ suc (count_by is_group_start rest) = one_fewer [] d j k inner rest refl clear paired ∙ add-one (count_by is_group_start rest) in
      let own : f 1 ≡ list_writes included texts (kept_entries (take (group_len listing) listing))
      = ap (list_writes included texts) (first_members [] d j k inner rest refl clear paired ∙ sym kept_marked ∙ ap kept_entries (sym group_taken)) in
      ap (λ c. flat_map f (range_with_len 1 c)) count
      ∙ ap (λ ws. ws ++ flat_map f (range_with_len 2 (count_by is_group_start rest))) own
      ∙ ap (λ ws. list_writes included texts (kept_entries (take (group_len listing) listing)) ++ ws)
      (numbered_on f g (λ n. ap (list_writes included texts) (other_members [] d j k inner rest refl clear paired n)) 0 (count_by is_group_start rest))

  pub group_outside : outside_groups listing ≡ outside_groups rest
  group_outside = outside_all_but [] d j k inner rest refl clear paired

  pub takes_listing : (included : Bool) (texts : Texts) (before now : List Part) (outside : List Entry)
      → now ≡ with_writes before (list_writes included texts (kept_entries (take (group_len listing) listing))) → Takes included texts listing (group_len listing) before now outside outside
  takes_listing included texts before now outside written = grind (arith, group_some, group_within, paired, group_left, rest, with_writes-append, group_written, group_outside)

pub takes_group : (included : Bool) (texts : Texts) (all : List Entry) (e : Entry) (es : List Entry) (before now : List Part) (outside : List Entry)
    → HasPairedGroups all → all ≡ e ∷ es → is_group_start e ≡ true → now ≡ with_writes before (list_writes included texts (kept_entries (take (group_len all) all)))
    → Takes included texts all (group_len all) before now outside outside
takes_group included texts all e es before now outside paired same h written =
    let g : FirstGroup all = first_group e es paired same h in
    subst (λ xs. now ≡ with_writes before (list_writes included texts (kept_entries (take (group_len xs) xs))) → Takes included texts xs (group_len xs) before now outside outside) (sym g.order)
    (takes_listing g.title g.first g.last g.inner g.rest g.clear g.paired included texts before now outside) written

-- ---- what stays in a group

pub few : (b c : Bool) (n m i : ℕ) → m ≡ (if b then 0 else n + (if c then 1 else 0)) → n ≤ i → m ≤ i + 1
few b c n m i h5 h6 = grind arith

pub since_next : (p : Entry → Bool) (before next : List Entry) (e : Entry) (n m : ℕ) → m ≡ (if is_group_start e then 0 else n + (if p e then 1 else 0)) → n ≡ since_start p before → next ≡ before ++ e ∷ [] → m ≡ since_start p next
since_next p before next e n m is old more = grind (arith, since_start-push)

pub kept_next : (first mid now before next : List Entry) (e : Entry) (starts stops : ℕ) (wanted : Bool) → now ≡ mid ++ (if wanted then e ∷ [] else []) → wanted ≡ not (lacks_help e && nat_lt stops starts) → mid ≡ first ++ kept_entries before
    → starts ≡ since_start is_adjacent_start before → stops ≡ since_start is_adjacent_stop before → next ≡ before ++ e ∷ [] → now ≡ first ++ kept_entries next
kept_next first mid now before next e starts stops wanted is own old a z more =
    grind (arith, append_assoc, first, chosen-append, kept_map)

-- ---- items

module _ {B : Type 0} where
  first_of : (items : List (HelpItem B)) (first : HelpItem B) → 0 < length items → first ≡ get_or items 0 first → map entry_of items ≡ entry_of first ∷ map entry_of (drop 1 items)
  first_of items first h2 h3 = grind arith

  pub takes_item : (included : Bool) (texts : Texts) (items : List (HelpItem B)) (first : HelpItem B) (one : Bor (HelpItem B)) (doc : List Part) (outside kept : List (Bor (HelpItem B))) → HasPairedGroups (map entry_of items)
      → 0 < length items → first ≡ get_or items 0 first → is_group_start (entry_of first) ≡ false → one.now ≡ first → kept ≡ outside ++ one ∷ [] → Takes included texts (map entry_of items) 1 doc doc (map entry_at outside) (map entry_at kept)
  takes_item included texts items first one doc outside kept paired some is starts own more = grind (arith, map-append entry_at outside (one ∷ []), first_outer, outer_lists, append_assoc, outer_outside, first_of items first some is)

  pub takes_marked : (included : Bool) (texts : Texts) (items front : List (HelpItem B)) (first : HelpItem B) (count : ℕ) (before now : List Part) (outside : List Entry) → HasPairedGroups (map entry_of items)
      → 0 < length items → first ≡ get_or items 0 first → is_group_start (entry_of first) ≡ true → count ≡ group_len (map entry_of items) → front ≡ take count items
      → now ≡ with_writes before (list_writes included texts (kept_entries (map entry_of front))) → Takes included texts (map entry_of items) count before now outside outside
  takes_marked included texts items front first count before now outside paired some is starts len part written =
      let same : map entry_of front ≡ take (group_len (map entry_of items)) (map entry_of items) = ap (map entry_of) part ∙ sym (take-map entry_of count items) ∙ ap (λ n. take n (map entry_of items)) len in
      subst (λ n. Takes included texts (map entry_of items) n before now outside outside) (sym len)
      (takes_group included texts (map entry_of items) (entry_of first) (map entry_of (drop 1 items)) before now outside paired (first_of items first some is) starts
      (written ∙ ap (λ es. with_writes before (list_writes included texts (kept_entries es))) same))

  pub left_after : (items rest : List (HelpItem B)) (count : ℕ) → rest ≡ drop count items → map entry_of rest ≡ drop count (map entry_of items)
  left_after items rest count is = ap (map entry_of) is ∙ sym (drop-map entry_of count items)

  pub heading_is : (included : Bool) (texts : Texts) (title : List ℕ) (items : List (Bor (HelpItem B))) → 0 < length items
      → title_front title ++ (list_writes included texts (map entry_at items) ++ heading_end) ≡ heading_writes included texts title (map entry_at items)
  heading_is included texts title [] h = absurd (omega arith)
  heading_is included texts title (x ∷ items) h = grind (arith, title, append_assoc)

-- ---- groups and headings

pub all_writes : (included : Bool) (texts : Texts) (es : List Entry) → group_members_writes included texts es ++ three_headings_writes included texts (items_of_type (outside_groups es)) ≡ groups_writes included texts es
all_writes included texts es = λ i. group_members_writes included texts es ++ three_headings_writes included texts (λ k. sym (headings_agree es k) i)
