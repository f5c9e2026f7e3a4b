-- What holds of the documents that an item or a tree writes, for example that they are well nested.
use Rattle.std.specs.Prelude.{⊤, List}
use Rattle.bpaf_doc.specs.Buffer.Parts.{Part, IsWellNested}
use Rattle.bpaf_meta.specs.Content.{Tree, and_of, or_of, optional, required, adjacent, item, many, subsection, suffix, skip, custom_usage, strict, Trees, no_trees, tree, Leaf, any}

-- D holds of the metavar of an Any
abbrev pub HoldsDoc : (D : List Part → Type 0) → Leaf → Type 0
HoldsDoc D (any m a h) = D m
HoldsDoc D l = ⊤

-- D holds of the metavar of each Any and of the document of each CustomUsage, not counting commands' own trees
abbrev mutual
  pub HoldsDocs : (D : List Part → Type 0) → Tree → Type 0
  HoldsDocs D (and_of ts) = EachHoldsDocs D ts
  HoldsDocs D (or_of ts) = EachHoldsDocs D ts
  HoldsDocs D (optional t) = HoldsDocs D t
  HoldsDocs D (required t) = HoldsDocs D t
  HoldsDocs D (adjacent t) = HoldsDocs D t
  HoldsDocs D (item l) = HoldsDoc D l
  HoldsDocs D (many t) = HoldsDocs D t
  HoldsDocs D (subsection t d) = HoldsDocs D t
  HoldsDocs D (suffix t d) = HoldsDocs D t
  HoldsDocs D skip = ⊤
  HoldsDocs D (custom_usage t d) = D d × HoldsDocs D t
  HoldsDocs D (strict t) = HoldsDocs D t

  pub EachHoldsDocs : (D : List Part → Type 0) → Trees → Type 0
  EachHoldsDocs D no_trees = ⊤
  EachHoldsDocs D (tree t ts) = HoldsDocs D t × EachHoldsDocs D ts

-- they are well nested
abbrev pub HasNestedDoc : Leaf → Type 0
HasNestedDoc l = HoldsDoc IsWellNested l

abbrev pub HasNestedDocs : Tree → Type 0
HasNestedDocs t = HoldsDocs IsWellNested t

abbrev pub EachHasNestedDocs : Trees → Type 0
EachHasNestedDocs ts = EachHoldsDocs IsWellNested ts
