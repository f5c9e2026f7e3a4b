-- The item list of a tree: its items in order, between the marks of groups and of adjacent blocks.
use Rattle.std.specs.Prelude.{◌++◌, ◌∷◌, ◌≡◌}
use Rattle.bpaf_items.specs.Words.{Bool, true, false, List, [], flat_map, Option, Some, None, option_or, Part, Tree, and_of, or_of, optional, required, adjacent, item, many, subsection, suffix, skip, custom_usage, strict, Trees, no_trees, tree, Leaf, any, positional, command, flag, argument}
use Rattle.bpaf_items.specs.declared.meta_help.entry.HiTy.{HiTy}
use Rattle.bpaf_items.specs.declared.meta_help.entry.HiTy.TheVariants as ty

-- the content of a `HelpItem`: an item, the start or the end of a group or of an adjacent block, or a note
-- (`DecorSuffix`)
pub data Entry : Type 0 where
  listed : Leaf → Entry
  note : List Part → HiTy → Entry
  group_start : (title : List Part) → HiTy → Entry
  group_end : HiTy → Entry
  adjacent_start : Tree → HiTy → Entry
  adjacent_stop : HiTy → Entry

-- the type of an item: an Any that may stand anywhere counts as a flag
abbrev pub type_of_item : Leaf → HiTy
type_of_item (any m false h) = ty.Positional
type_of_item (positional m h) = ty.Positional
type_of_item (command n c h t i) = ty.Command
type_of_item l = ty.Flag

-- the front type: an item's type; for an And or an Or the first that a part has; none for Skip; else that of the inner
-- tree
abbrev mutual
  pub front_type : Tree → Option HiTy
  front_type (and_of ts) = first_front_type ts
  front_type (or_of ts) = first_front_type ts
  front_type (optional t) = front_type t
  front_type (required t) = front_type t
  front_type (adjacent t) = front_type t
  front_type (item l) = Some (type_of_item l)
  front_type (many t) = front_type t
  front_type (subsection t d) = front_type t
  front_type (suffix t d) = front_type t
  front_type skip = None
  front_type (custom_usage t d) = front_type t
  front_type (strict t) = front_type t

  pub first_front_type : Trees → Option HiTy
  first_front_type no_trees = None
  first_front_type (tree t ts) = option_or (front_type t) (first_front_type ts)

-- an item as a list shows it: its list of short names is left out
abbrev pub entry_of_item : Leaf → Entry
entry_of_item (flag n s e h) = listed (flag n [] e h)
entry_of_item (argument n s m e h) = listed (argument n [] m e h)
entry_of_item l = listed l

-- a positional without help is not listed
abbrev pub item_entries : Leaf → List Entry
item_entries (positional m None) = []
item_entries l = entry_of_item l ∷ []

-- the entries that a front type gives; none without one
abbrev pub if_typed : Option HiTy → (HiTy → List Entry) → List Entry
if_typed None entries = []
if_typed (Some k) entries = entries k

-- what a tree appends, where groups are allowed or not: an Adjacent, a Subsection or a Suffix gives nothing without a
-- front type, and its marks or its note have that type
abbrev mutual
  pub entries_of : (groups : Bool) → Tree → List Entry
  entries_of g (and_of ts) = entries_of_parts g ts
  entries_of g (or_of ts) = entries_of_parts g ts
  entries_of g (optional t) = entries_of g t
  entries_of g (required t) = entries_of g t
  entries_of g (adjacent t) = if_typed (front_type t) (λ k. adjacent_start t k ∷ entries_of g t ++ adjacent_stop k ∷ [])
  entries_of g (item l) = item_entries l
  entries_of g (many t) = entries_of g t
  entries_of true (subsection t d) =
      if_typed (front_type t) (λ k. group_start d k ∷ entries_of false t ++ group_end k ∷ [])
  entries_of false (subsection t d) = if_typed (front_type t) (λ k. entries_of false t)
  entries_of g (suffix t d) = if_typed (front_type t) (λ k. entries_of g t ++ note d k ∷ [])
  entries_of g skip = []
  entries_of g (custom_usage t d) = entries_of g t
  entries_of g (strict t) = entries_of g t

  pub entries_of_parts : (groups : Bool) → Trees → List Entry
  entries_of_parts g no_trees = []
  entries_of_parts g (tree t ts) = entries_of g t ++ entries_of_parts g ts

-- the item list of a tree
abbrev pub item_list : Tree → List Entry
item_list t = entries_of true t

-- the item lists of some trees, one after another
abbrev pub IsItemList : List Entry → Type 0
IsItemList es = (ts : List Tree) × (es ≡ flat_map item_list ts)
