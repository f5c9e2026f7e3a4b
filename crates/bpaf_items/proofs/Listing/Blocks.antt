-- How the marks of an item list stand: each start before its stop, and no group within a group.
use Rattle.std.specs.Prelude.{if◌then◌else◌, ◌++◌, ◌+◌, ◌∷◌, ◌≡◌}
use Rattle.bpaf_items.proofs.Words.{common_steps, ℕ, Bool, true, false, List, [], refl, sym, subst, arith, flat_map, count_by, Option, Some, None, Part, Tree, and_of, or_of, optional, required, adjacent, item, many, subsection, suffix, skip, custom_usage, strict, Trees, no_trees, tree, Leaf, positional, sum_by-append, sum_by-cons, HiTy, Entry, note, group_start, group_end, adjacent_start, adjacent_stop, front_type, item_entries, entries_of, entries_of_parts, item_list, IsItemList, is_mark, is_adjacent_start, is_adjacent_stop, if_typed}

-- nothing; an entry that is not a mark; an adjacent block; a group, where groups are allowed; two joined
pub data Blocks : (groups : Bool) → List Entry → Type 0 where
  none : {g : Bool} {es : List Entry} → es ≡ [] → Blocks g es
  plain : {g : Bool} {es : List Entry} (e : Entry) → es ≡ e ∷ [] → is_mark e ≡ false → Blocks g es
  block : {g : Bool} {es : List Entry} (t : Tree) (k : HiTy) (inner : List Entry) → es ≡ adjacent_start t k ∷ (inner ++ adjacent_stop k ∷ []) → Blocks g inner → Blocks g es
  grouped : {g : Bool} {es : List Entry} (d : List Part) (k : HiTy) (inner : List Entry) → g ≡ true → es ≡ group_start d k ∷ (inner ++ group_end k ∷ []) → Blocks false inner → Blocks g es
  joined : {g : Bool} {es : List Entry} (front back : List Entry) → es ≡ front ++ back → Blocks g front → Blocks g back → Blocks g es

item_blocks : (g : Bool) (l : Leaf) → Blocks g (item_entries l)
item_blocks g (positional m None) = none refl
item_blocks g l = plain _ refl refl

adjacent_blocks : (g : Bool) (o : Option HiTy) (t : Tree) (es : List Entry) → Blocks g es → Blocks g (if_typed o (λ k. adjacent_start t k ∷ es ++ adjacent_stop k ∷ []))
adjacent_blocks g None t es b = none refl
adjacent_blocks g (Some k) t es b = block t k es refl b

group_blocks : (o : Option HiTy) (d : List Part) (es : List Entry) → Blocks false es → Blocks true (if_typed o (λ k. group_start d k ∷ es ++ group_end k ∷ []))
group_blocks None d es b = none refl
group_blocks (Some k) d es b = grouped d k es refl refl b

noted_blocks : (g : Bool) (o : Option HiTy) (d : List Part) (es : List Entry) → Blocks g es → Blocks g (if_typed o (λ k. es ++ note d k ∷ []))
noted_blocks g None d es b = none refl
noted_blocks g (Some k) d es b = joined es (note d k ∷ []) refl b (plain (note d k) refl refl)

typed_blocks : (g : Bool) (o : Option HiTy) (es : List Entry) → Blocks g es → Blocks g (if_typed o (λ k. es))
typed_blocks g None es b = none refl
typed_blocks g (Some k) es b = b

mutual
  tree_blocks : (g : Bool) (t : Tree) → Blocks g (entries_of g t)
  tree_blocks g (and_of ts) = parts_blocks g ts
  tree_blocks g (or_of ts) = parts_blocks g ts
  tree_blocks g (optional t) = tree_blocks g t
  tree_blocks g (required t) = tree_blocks g t
  tree_blocks g (adjacent t) = adjacent_blocks g (front_type t) t (entries_of g t) (tree_blocks g t)
  tree_blocks g (item l) = item_blocks g l
  tree_blocks g (many t) = tree_blocks g t
  tree_blocks true (subsection t d) = group_blocks (front_type t) d (entries_of false t) (tree_blocks false t)
  tree_blocks false (subsection t d) = typed_blocks false (front_type t) (entries_of false t) (tree_blocks false t)
  tree_blocks g (suffix t d) = noted_blocks g (front_type t) d (entries_of g t) (tree_blocks g t)
  tree_blocks g skip = none refl
  tree_blocks g (custom_usage t d) = tree_blocks g t
  tree_blocks g (strict t) = tree_blocks g t

  parts_blocks : (g : Bool) (ts : Trees) → Blocks g (entries_of_parts g ts)
  parts_blocks g no_trees = none refl
  parts_blocks g (tree t ts) = joined (entries_of g t) (entries_of_parts g ts) refl (tree_blocks g t) (parts_blocks g ts)

list_blocks : (ts : List Tree) → Blocks true (flat_map item_list ts)
list_blocks [] = none refl
list_blocks (t ∷ ts) = joined (item_list t) (flat_map item_list ts) refl (tree_blocks true t) (list_blocks ts)

pub item_list_blocks : (es : List Entry) → IsItemList es → Blocks true es
item_list_blocks es (ts, is) = subst (Blocks true) (sym is) (list_blocks ts)

-- ---- as many stops as starts

abbrev pub starts_in : List Entry → ℕ
starts_in = count_by is_adjacent_start

abbrev pub stops_in : List Entry → ℕ
stops_in = count_by is_adjacent_stop

pub count-append : (p : Entry → Bool) (es fs : List Entry) → count_by p (es ++ fs) ≡ count_by p es + count_by p fs
count-append p es fs = sum_by-append (λ e. if p e then 1 else 0) es fs

pub count-cons : (p : Entry → Bool) (e : Entry) (es : List Entry) → count_by p (e ∷ es) ≡ (if p e then 1 else 0) + count_by p es
count-cons p e es = sum_by-cons (λ x. if p x then 1 else 0) e es

plain_even : (e : Entry) → is_mark e ≡ false → starts_in (e ∷ []) ≡ stops_in (e ∷ [])
plain_even e h1 = grind arith

pub even : {g : Bool} {es : List Entry} → Blocks g es → starts_in es ≡ stops_in es
even (none is) = rw is refl
even (plain e is h) = rw is (plain_even e h)
even (block t k inner is b) = grind (arith, common_steps, even b, count-cons, count-append)
even (grouped d k inner g is b) = grind (arith, common_steps, even b, count-cons, count-append)
even (joined front back is b c) = grind (arith, even b, even c, count-append)
