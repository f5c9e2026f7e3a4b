-- What a usage line may look like.
use Rattle.std.specs.Prelude.{Bool, IsTrue, ⊤, ◌⊎◌}
use Rattle.bpaf_meta.specs.Content.{Name, both, Tree, and_of, or_of, optional, required, adjacent, item, many, subsection, suffix, skip, custom_usage, strict, Trees, no_trees, tree, Leaf, flag, argument}

-- where a tree stands: as the whole; directly in a Strict or a CustomUsage; directly in a Required or an Optional;
-- directly in an And, an Or or a Many
pub data Place : Type 0 where
  whole : Place
  guarded : Place
  bracketed : Place
  among : Place

-- where a Skip may stand, and where an Or may
abbrev pub MayBeSkip : Place → Type 0
MayBeSkip whole = ⊤
MayBeSkip guarded = ⊤
MayBeSkip p = ⊥

abbrev pub IsBracketed : Place → Type 0
IsBracketed bracketed = ⊤
IsBracketed p = ⊥

abbrev pub HasTwoParts : Trees → Type 0
HasTwoParts (tree t (tree v ts)) = ⊤
HasTwoParts ts = ⊥

abbrev pub IsAndOr : Tree → Type 0
IsAndOr (and_of ts) = ⊤
IsAndOr (or_of ts) = ⊤
IsAndOr t = ⊥

-- a short name or a long one, not both
abbrev pub IsOneName : Name → Type 0
IsOneName (both c n) = ⊥
IsOneName n = ⊤

abbrev pub HasOneName : Leaf → Type 0
HasOneName (flag n s e h) = IsOneName n
HasOneName (argument n s m e h) = IsOneName n
HasOneName l = ⊤

-- the usage shape of a tree that stands at a place; commands' own trees are not looked at
abbrev mutual
  pub HasShapeAt : (usage : Bool) → Place → Tree → Type 0
  HasShapeAt u p (and_of ts) = HasTwoParts ts × EachHasShape u ts
  HasShapeAt u p (or_of ts) = IsBracketed p × HasTwoParts ts × EachHasShape u ts
  HasShapeAt u p (optional t) = HasShapeAt u bracketed t
  HasShapeAt u p (required t) = IsAndOr t × HasShapeAt u bracketed t
  HasShapeAt u p (adjacent t) = ⊥
  HasShapeAt u p (item l) = HasOneName l
  HasShapeAt u p (many t) = HasShapeAt u among t
  HasShapeAt u p (subsection t d) = ⊥
  HasShapeAt u p (suffix t d) = ⊥
  HasShapeAt u p skip = MayBeSkip p
  HasShapeAt u p (custom_usage t d) = IsTrue u × HasShapeAt u guarded t
  HasShapeAt u p (strict t) = HasShapeAt u guarded t

  pub EachHasShape : (usage : Bool) → Trees → Type 0
  EachHasShape u no_trees = ⊤
  EachHasShape u (tree t ts) = HasShapeAt u among t × EachHasShape u ts

-- the usage shape of a whole tree
abbrev pub HasUsageShape : (usage : Bool) → Tree → Type 0
HasUsageShape u t = HasShapeAt u whole t

-- there is a Strict in the tree, not counting commands' own trees
abbrev mutual
  pub HasStrict : Tree → Type 0
  HasStrict (and_of ts) = SomeHasStrict ts
  HasStrict (or_of ts) = SomeHasStrict ts
  HasStrict (optional t) = HasStrict t
  HasStrict (required t) = HasStrict t
  HasStrict (adjacent t) = HasStrict t
  HasStrict (item l) = ⊥
  HasStrict (many t) = HasStrict t
  HasStrict (subsection t d) = HasStrict t
  HasStrict (suffix t d) = HasStrict t
  HasStrict skip = ⊥
  HasStrict (custom_usage t d) = HasStrict t
  HasStrict (strict t) = ⊤

  pub SomeHasStrict : Trees → Type 0
  SomeHasStrict no_trees = ⊥
  SomeHasStrict (tree t ts) = HasStrict t ⊎ SomeHasStrict ts

-- there is a CustomUsage in the tree, not counting commands' own trees
abbrev mutual
  pub HasCustomUsage : Tree → Type 0
  HasCustomUsage (and_of ts) = SomeHasCustomUsage ts
  HasCustomUsage (or_of ts) = SomeHasCustomUsage ts
  HasCustomUsage (optional t) = HasCustomUsage t
  HasCustomUsage (required t) = HasCustomUsage t
  HasCustomUsage (adjacent t) = HasCustomUsage t
  HasCustomUsage (item l) = ⊥
  HasCustomUsage (many t) = HasCustomUsage t
  HasCustomUsage (subsection t d) = HasCustomUsage t
  HasCustomUsage (suffix t d) = HasCustomUsage t
  HasCustomUsage skip = ⊥
  HasCustomUsage (custom_usage t d) = ⊤
  HasCustomUsage (strict t) = HasCustomUsage t

  pub SomeHasCustomUsage : Trees → Type 0
  SomeHasCustomUsage no_trees = ⊥
  SomeHasCustomUsage (tree t ts) = HasCustomUsage t ⊎ SomeHasCustomUsage ts

-- a normal form has a Strict only if the tree has one; and if the tree has one, so does the normal form, except
-- perhaps in usage where the tree has a CustomUsage
pub record KeepsStrict (usage : Bool) (t n : Tree) : Type 0 where
  pub none_added : HasStrict n → HasStrict t
  pub none_lost : (IsTrue usage → ¬ HasCustomUsage t) → HasStrict t → HasStrict n
