-- The documents that help pages write are well nested.
use Rattle.bpaf_items.specs.Words.{ℕ, Bool, ⊤, List, All, Option, Some, None, Part, IsWellNested, Write, with_writes, document_of, Tree, and_of, or_of, optional, required, adjacent, item, many, subsection, suffix, skip, custom_usage, strict, Trees, no_trees, tree, Leaf, any, Head, head}
use Rattle.bpaf_meta.specs.Usage.Nested.{HasNestedDocs}
use Rattle.bpaf_items.specs.Listing.ItemList.{Entry, listed, note, group_start, adjacent_start, item_list, IsItemList}
use Rattle.bpaf_items.specs.Listing.Falls.{help_of}
use Rattle.bpaf_items.specs.Page.EnvTexts.{Texts}
use Rattle.bpaf_items.specs.Page.HelpPage.{groups_writes, help_page_writes}

-- ---- premises

-- the text, if there is one, is well nested
abbrev pub IsNestedText : Option (List Part) → Type 0
IsNestedText None = ⊤
IsNestedText (Some d) = IsWellNested d

-- the metavar of an Any, and the help, are well nested
abbrev pub HasNestedText : Leaf → Type 0
HasNestedText (any m a h) = IsWellNested m × IsNestedText h
HasNestedText l = IsNestedText (help_of l)

-- The texts of the items, and the documents of each Subsection, Suffix and CustomUsage, are well nested; commands' own
-- trees do not count.
abbrev mutual
  pub HasNestedTexts : Tree → Type 0
  HasNestedTexts (and_of ts) = EachHasNestedTexts ts
  HasNestedTexts (or_of ts) = EachHasNestedTexts ts
  HasNestedTexts (optional t) = HasNestedTexts t
  HasNestedTexts (required t) = HasNestedTexts t
  HasNestedTexts (adjacent t) = HasNestedTexts t
  HasNestedTexts (item l) = HasNestedText l
  HasNestedTexts (many t) = HasNestedTexts t
  HasNestedTexts (subsection t d) = IsWellNested d × HasNestedTexts t
  HasNestedTexts (suffix t d) = IsWellNested d × HasNestedTexts t
  HasNestedTexts skip = ⊤
  HasNestedTexts (custom_usage t d) = IsWellNested d × HasNestedTexts t
  HasNestedTexts (strict t) = HasNestedTexts t

  pub EachHasNestedTexts : Trees → Type 0
  EachHasNestedTexts no_trees = ⊤
  EachHasNestedTexts (tree t ts) = HasNestedTexts t × EachHasNestedTexts ts

-- the texts of an info, and those of its help tree
abbrev pub HasNestedHead : Head → Type 0
HasNestedHead (head descr header footer usage help) = IsNestedText descr × IsNestedText header × IsNestedText footer
    × IsNestedText usage × HasNestedTexts help

-- the documents that an entry writes are well nested
abbrev pub HasNestedEntry : Entry → Type 0
HasNestedEntry (listed l) = HasNestedText l
HasNestedEntry (note d k) = IsWellNested d
HasNestedEntry (group_start d k) = IsWellNested d
HasNestedEntry (adjacent_start t k) = HasNestedDocs t
HasNestedEntry e = ⊤

-- ---- laws

-- writes that leave each well-nested document well nested
abbrev pub KeepsNested : List Write → Type 0
KeepsNested ws = (ps : List Part) → IsWellNested ps → IsWellNested (with_writes ps ws)

-- the entries of a tree write what the tree holds
abbrev pub ItemListsAreNested : Type 0
ItemListsAreNested = (t : Tree) → HasNestedTexts t → All HasNestedEntry (item_list t)

abbrev pub GroupsAreNested : Type 0
GroupsAreNested = (include_env : Bool) (texts : Texts) (es : List Entry) → IsItemList es → All HasNestedEntry es
    → KeepsNested (groups_writes include_env texts es)

abbrev pub HelpPagesAreNested : Type 0
HelpPagesAreNested = (path : List (List ℕ)) (i : Head) (t help : Tree) (include_env : Bool) (texts : Texts)
    → HasNestedHead i → HasNestedTexts t → HasNestedTexts help
    → IsWellNested (document_of (help_page_writes path i t help include_env texts))
