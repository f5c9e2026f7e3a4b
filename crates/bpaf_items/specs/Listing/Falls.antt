-- Where an entry of an item list falls, and which entries are shown. Both depend on the entries before it.
use Rattle.std.specs.Prelude.{if◌then◌else◌, ◌&&◌, ◌++◌, ◌==◌, ◌||◌, ◌∷◌}
use Rattle.bpaf_items.specs.Words.{ℕ, Bool, true, false, not, List, [], map, filter, count_by, nat_lt, Option, Some, None, is_some, option_map_or, list_any, last_or, after_last, range_with_len, Part, Leaf, any, positional, command, flag, argument}
use Rattle.bpaf_items.specs.declared.meta_help.entry.HiTy.{HiTy}
use Rattle.bpaf_items.specs.contracts.meta_help.entry.HiTyPartialEq.TheImpl as type_eq
use Rattle.bpaf_items.specs.Listing.ItemList.{Entry, listed, note, group_start, group_end, adjacent_start, adjacent_stop, type_of_item}
use Rattle.bpaf_items.specs.Listing.Keys.{key_of, same_key}

abbrev pub same_type : HiTy → HiTy → Bool
same_type = (type_eq.ghosts).eq

abbrev pub is_group_start : Entry → Bool
is_group_start (group_start d k) = true
is_group_start e = false

abbrev pub is_group_end : Entry → Bool
is_group_end (group_end k) = true
is_group_end e = false

abbrev pub is_adjacent_start : Entry → Bool
is_adjacent_start (adjacent_start t k) = true
is_adjacent_start e = false

abbrev pub is_adjacent_stop : Entry → Bool
is_adjacent_stop (adjacent_stop k) = true
is_adjacent_stop e = false

abbrev pub is_group_mark : Entry → Bool
is_group_mark e = is_group_start e || is_group_end e

abbrev pub is_adjacent_mark : Entry → Bool
is_adjacent_mark e = is_adjacent_start e || is_adjacent_stop e

abbrev pub is_mark : Entry → Bool
is_mark e = is_group_mark e || is_adjacent_mark e

abbrev pub help_of : Leaf → Option (List Part)
help_of (any m a h) = h
help_of (positional m h) = h
help_of (command n c h t i) = h
help_of (flag n s e h) = h
help_of (argument n s m e h) = h

abbrev pub type_of : Entry → HiTy
type_of (listed l) = type_of_item l
type_of (note d k) = k
type_of (group_start d k) = k
type_of (group_end k) = k
type_of (adjacent_start t k) = k
type_of (adjacent_stop k) = k

-- an item without help; a note counts as an item with help
abbrev pub lacks_help : Entry → Bool
lacks_help (listed l) = not (is_some (help_of l))
lacks_help e = false

-- an entry with all those before it
abbrev pub Placed : Type 0
Placed = List Entry × Entry

-- each entry with all those before it, where some stand before the list
abbrev pub placed_after : List Entry → List Entry → List Placed
placed_after before [] = []
placed_after before (e ∷ es) = (before, e) ∷ placed_after (before ++ e ∷ []) es

abbrev pub placed : List Entry → List Placed
placed = placed_after []

-- the last entry that passes a test
abbrev pub last_that : (Entry → Bool) → List Entry → Option Entry
last_that p es = last_or None (filter p es)

-- after these entries a group is open: the last group mark is a start
abbrev pub is_group_open : List Entry → Bool
is_group_open before = option_map_or is_group_start (last_that is_group_mark before) false

-- inside group marks, or one of them
abbrev pub is_in_group : Placed → Bool
is_in_group p = is_group_mark p.1 || is_group_open p.0

-- the entries without those of groups
abbrev pub outside_groups : List Entry → List Entry
outside_groups es = map (λ p. p.1) (filter (λ p. not (is_in_group p)) (placed es))

-- more adjacent starts than adjacent stops stand since the last group start
abbrev pub is_adjacent_in_group : List Entry → Bool
is_adjacent_in_group before = nat_lt (count_by is_adjacent_stop (after_last is_group_start before))
    (count_by is_adjacent_start (after_last is_group_start before))

-- under the group of that number, the first being 1; under the heading of a type; or under nothing
pub data Destination : Type 0 where
  group : ℕ → Destination
  heading : HiTy → Destination
  nowhere : Destination

-- where an entry after this last adjacent mark falls: if the mark is a start, under the mark's heading with help and
-- nowhere without; otherwise under the heading of its own type
abbrev pub heading_after : Option Entry → Entry → Destination
heading_after (Some (adjacent_start t k)) e = if lacks_help e then nowhere else heading k
heading_after mark e = heading (type_of e)

-- inside group marks: under that group, except that in an adjacent block what lacks help falls under nothing
abbrev pub group_destination : Placed → Destination
group_destination p =
    if lacks_help p.1 && is_adjacent_in_group p.0 then nowhere
    else group (count_by is_group_start (p.0 ++ p.1 ∷ []))

-- outside them: a mark under the heading of its own type, any other by the last adjacent mark outside groups
abbrev pub heading_destination : Placed → Destination
heading_destination p =
    if is_mark p.1 then heading (type_of p.1)
    else heading_after (last_that is_adjacent_mark (outside_groups p.0)) p.1

-- where an entry falls
abbrev pub destination : Placed → Destination
destination p = if is_in_group p then group_destination p else heading_destination p

abbrev pub is_group : ℕ → Destination → Bool
is_group n (group m) = n == m
is_group n d = false

abbrev pub is_heading : HiTy → Destination → Bool
is_heading k (heading j) = same_type j k
is_heading k d = false

-- the numbers of the groups, in the order in which they are written
abbrev pub group_numbers : List Entry → List ℕ
group_numbers es = range_with_len 1 (count_by is_group_start es)

-- the entries that fall under a group, and under a heading
abbrev pub group_members : List Entry → ℕ → List Entry
group_members es n = map (λ p. p.1) (filter (λ p. is_group n (destination p)) (placed es))

abbrev pub heading_members : List Entry → HiTy → List Entry
heading_members es k = map (λ p. p.1) (filter (λ p. is_heading k (destination p)) (placed es))

-- the entry is an item with the key of this one
abbrev pub has_key_of : Leaf → Entry → Bool
has_key_of l (listed m) = same_key (key_of l) (key_of m)
has_key_of l e = false

-- a mark, or an item whose key no earlier entry has
abbrev pub is_mark_or_new : Placed → Bool
is_mark_or_new (before, listed l) = not (list_any (has_key_of l) before)
is_mark_or_new (before, note d k) = false
is_mark_or_new (before, e) = true

-- the last of some entries is a mark or an item whose key is new: a note after it is shown
abbrev pub ends_in_mark_or_new : List Entry → Bool
ends_in_mark_or_new before = option_map_or is_mark_or_new (last_or None (placed before)) false

-- shown once: a mark; an item whose key is new; a note directly after a mark or a shown item
abbrev pub is_shown : Placed → Bool
is_shown (before, note d k) = ends_in_mark_or_new before
is_shown p = is_mark_or_new p

-- the places of one group or heading that are shown, and the entries there
abbrev pub shown_places : List Entry → List Placed
shown_places es = filter is_shown (placed es)

abbrev pub shown_entries : List Entry → List Entry
shown_entries es = map (λ p. p.1) (shown_places es)

-- what `items_of_ty` gives: a mark by its own type; any other entry by the last mark before it. If that starts a group
-- or an adjacent block, by the mark's type, and in an adjacent block the entry needs help; else by the entry's own type
abbrev pub is_given_after : Option Entry → HiTy → Entry → Bool
is_given_after (Some (adjacent_start t j)) k e = not (lacks_help e) && same_type j k
is_given_after (Some (group_start d j)) k e = same_type j k
is_given_after mark k e = same_type (type_of e) k

abbrev pub is_given : HiTy → Placed → Bool
is_given k p = if is_mark p.1 then same_type (type_of p.1) k else is_given_after (last_that is_mark p.0) k p.1

abbrev pub items_of_type : List Entry → HiTy → List Entry
items_of_type es k = map (λ p. p.1) (filter (is_given k) (placed es))
