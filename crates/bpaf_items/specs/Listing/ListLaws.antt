-- What holds of item lists: where their entries fall, and what is shown of them.
use Rattle.std.specs.Prelude.{◌↔◌, ◌≡◌, ◌≢◌, ◌≤◌, ◌⊎◌}
use Rattle.bpaf_items.specs.Words.{ℕ, IsTrue, not, List, filter, take, count_by, All, Contains, Leaf}
use Rattle.bpaf_items.specs.declared.meta_help.entry.HiTy.{HiTy}
use Rattle.bpaf_items.specs.Listing.ItemList.{Entry, listed, IsItemList}
use Rattle.bpaf_items.specs.Listing.Falls.{same_type, Placed, placed, is_adjacent_start, is_adjacent_stop, lacks_help, destination, group, nowhere, group_numbers, outside_groups, heading_members, items_of_type, has_key_of, shown_places, shown_entries}

-- `same_type` is true exactly where the two types are the same
abbrev pub IsEqualityOfTypes : Type 0
IsEqualityOfTypes = (j k : HiTy) → IsTrue (same_type j k) ↔ (j ≡ k)

-- before it there are no more adjacent starts than adjacent stops
abbrev pub IsInNoAdjacentBlock : Placed → Type 0
IsInNoAdjacentBlock p = count_by is_adjacent_start p.0 ≤ count_by is_adjacent_stop p.0

-- in an item list each entry that has help or is in no adjacent block falls under a group or a heading
abbrev pub FallsSomewhere : Type 0
FallsSomewhere = (es : List Entry) → IsItemList es
    → All (λ p. IsTrue (not (lacks_help p.1)) ⊎ IsInNoAdjacentBlock p → destination p ≢ nowhere) (placed es)

-- in an item list a group that an entry falls under is one of those that are written
abbrev pub FallsUnderWritten : Type 0
FallsUnderWritten = (es : List Entry) → IsItemList es
    → All (λ p. (n : ℕ) → destination p ≡ group n → Contains (group_numbers es) n) (placed es)

-- of the places that hold an item with this key only the first is shown, so that a listed item is shown once
pub record IsShownOnce (es : List Entry) (l : Leaf) : Type 0 where
  pub first : filter (λ p. has_key_of l p.1) (shown_places es) ≡ take 1 (filter (λ p. has_key_of l p.1) (placed es))
  pub once : Contains es (listed l) → count_by (has_key_of l) (shown_entries es) ≡ 1

abbrev pub KeyOnce : Type 0
KeyOnce = (es : List Entry) (l : Leaf) → IsShownOnce es l

-- what falls under a heading is what `items_of_ty` gives of the entries outside groups
abbrev pub HeadingsAgree : Type 0
HeadingsAgree = (es : List Entry) (k : HiTy) → heading_members es k ≡ items_of_type (outside_groups es) k
