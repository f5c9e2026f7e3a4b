-- Which items are listed, and what `items_of_ty` gives as it goes through a list and keeps the block that was started
-- last.
use Rattle.std.specs.Prelude.{if◌then◌else◌, ◌&&◌, ◌∷◌}
use Rattle.bpaf_items.specs.Words.{Bool, true, false, not, List, [], None, Leaf, positional}
use Rattle.bpaf_items.specs.declared.meta_help.entry.HiTy.{HiTy}
use Rattle.bpaf_items.specs.declared.meta_help.given.State.{State}
use Rattle.bpaf_items.specs.declared.meta_help.given.State.TheVariants.{Outside, Group, Adjacent}
use Rattle.bpaf_items.specs.Listing.ItemList.{Entry, group_start, group_end, adjacent_start, adjacent_stop}
use Rattle.bpaf_items.specs.Listing.Falls.{same_type, is_mark, type_of, lacks_help}

-- the block that was started by the last mark
abbrev pub state_after : State → Entry → State
state_after s (group_start d k) = Group k
state_after s (group_end k) = Outside
state_after s (adjacent_start t k) = Adjacent k
state_after s (adjacent_stop k) = Outside
state_after s e = s

abbrev pub is_given_within : State → HiTy → Entry → Bool
is_given_within Outside k e = same_type (type_of e) k
is_given_within (Group j) k e = same_type j k
is_given_within (Adjacent j) k e = not (lacks_help e) && same_type j k

abbrev pub is_given_in : State → HiTy → Entry → Bool
is_given_in s k e = if is_mark e then same_type (type_of e) k else is_given_within s k e

-- what is given of some items, which are looked at as entries
abbrev pub given_from : {X : Type 0} → (X → Entry) → State → HiTy → List X → List X
given_from f s k [] = []
given_from f s k (x ∷ xs) =
    if is_given_in s k (f x) then x ∷ given_from f (state_after s (f x)) k xs
    else given_from f (state_after s (f x)) k xs

abbrev pub is_listed : Leaf → Bool
is_listed (positional m None) = false
is_listed l = true
