-- The groups of a list, taken out one after another.
use Rattle.std.specs.Prelude.{◌&&◌, ◌++◌, ◌+◌, ◌∷◌, ◌≡◌, ◌⊎◌}
use Rattle.bpaf_items.specs.Words.{ℕ, Bool, false, not, List, [], length, map, filter, count_by, Option, Some, None, list_any, position, Part}
use Rattle.bpaf_items.specs.declared.meta_help.entry.HiTy.{HiTy}
use Rattle.bpaf_items.specs.Listing.ItemList.{Entry, group_start, group_end, IsItemList}
use Rattle.bpaf_items.specs.Listing.Falls.{Placed, placed, is_group_start, is_group_end, is_group_mark, lacks_help, is_adjacent_in_group, group_members, outside_groups}

-- both places, where there are both
abbrev pub both_places : Option ℕ → Option ℕ → Option (ℕ × ℕ)
both_places (Some i) (Some j) = Some (i, j)
both_places o p = None

-- `find_group`: the place of the first group start, and that of the first group end
abbrev pub find_group : List Entry → Option (ℕ × ℕ)
find_group es = both_places (position is_group_start es) (position is_group_end es)

abbrev pub HasNoGroupMark : List Entry → Type 0
HasNoGroupMark es = list_any is_group_mark es ≡ false

-- Each group start has its end, and no group stands in a group: nothing; an entry outside groups, and more; a group
-- without groups in it, and more.
pub data HasPairedGroups : List Entry → Type 0 where
  empty : {es : List Entry} → es ≡ [] → HasPairedGroups es
  outer : {es : List Entry} (e : Entry) (rest : List Entry) → es ≡ e ∷ rest
      → is_group_mark e ≡ false → HasPairedGroups rest → HasPairedGroups es
  whole : {es : List Entry} (d : List Part) (j k : HiTy) (inner rest : List Entry)
      → es ≡ group_start d j ∷ (inner ++ group_end k ∷ rest)
      → HasNoGroupMark inner → HasPairedGroups rest → HasPairedGroups es

-- the entries between the marks of a group that are kept: all except those without help in an adjacent block of it
abbrev pub stays : Placed → Bool
stays p = not (lacks_help p.1 && is_adjacent_in_group p.0)

abbrev pub kept_entries : List Entry → List Entry
kept_entries inner = map (λ p. p.1) (filter stays (placed inner))

-- the first group of a list: its places, what falls under it, and that the others are those of the list without it
pub record HasFirstGroup (es : List Entry) : Type 0 where
  pub front : List Entry
  pub title : List Part
  pub first : HiTy
  pub inner : List Entry
  pub last : HiTy
  pub back : List Entry
  pub order : es ≡ front ++ (group_start title first ∷ (inner ++ group_end last ∷ back))
  pub places : find_group es ≡ Some (length front, length front + (1 + length inner))
  pub members : group_members es 1 ≡ group_start title first ∷ (kept_entries inner ++ group_end last ∷ [])
  pub others : (n : ℕ) → group_members es (n + 2) ≡ group_members (front ++ back) (n + 1)
  pub outside : outside_groups es ≡ outside_groups (front ++ back)
  pub fewer : count_by is_group_start es ≡ count_by is_group_start (front ++ back) + 1
  pub paired : HasPairedGroups (front ++ back)

-- a list without groups
pub record HasNoGroup (es : List Entry) : Type 0 where
  pub places : find_group es ≡ None
  pub members : (n : ℕ) → group_members es n ≡ []
  pub outside : outside_groups es ≡ es
  pub number : count_by is_group_start es ≡ 0

-- the groups of an item list can be taken out, one after another, until none is left
pub record GroupsAreTakenOut : Type 0 where
  pub paired : (es : List Entry) → IsItemList es → HasPairedGroups es
  pub taken : (es : List Entry) → HasPairedGroups es → HasNoGroup es ⊎ HasFirstGroup es
