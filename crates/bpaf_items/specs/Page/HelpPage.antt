-- The entries of a list under their groups and headings, and the help page.
use Rattle.std.specs.Prelude.{◌++◌, ◌∷◌}
use Rattle.bpaf_items.specs.Words.{ℕ, Bool, true, List, [], flat_map, Option, Some, None, codes, Part, Write, plain, emphasis, inside, doc_writes, path_writes, Tree, Head, head, usage_writes}
use Rattle.bpaf_doc.specs.declared.buffer.Block.{Block}
use Rattle.bpaf_doc.specs.declared.buffer.Block.TheVariants as block
use Rattle.bpaf_items.specs.declared.meta_help.entry.HiTy.{HiTy}
use Rattle.bpaf_items.specs.declared.meta_help.entry.HiTy.TheVariants as ty
use Rattle.bpaf_items.specs.Listing.ItemList.{Entry, item_list}
use Rattle.bpaf_items.specs.Listing.Falls.{group_members, group_numbers, heading_members, shown_entries}
use Rattle.bpaf_items.specs.Page.EnvTexts.{Texts}
use Rattle.bpaf_items.specs.Page.EntryWrites.{entry_writes}

-- a list of entries, each shown once
abbrev pub list_writes : (include_env : Bool) → Texts → List Entry → List Write
list_writes include texts es = flat_map (entry_writes include texts) (shown_entries es)

-- a heading over its entries; nothing without entries
abbrev pub heading_writes : (include_env : Bool) → Texts → (title : List ℕ) → List Entry → List Write
heading_writes include texts title [] = []
heading_writes include texts title (e ∷ es) = inside block.Block (inside block.Section2 (emphasis title ∷ [])
    ++ inside block.DefinitionList (list_writes include texts (e ∷ es)))

-- the members of each group of a list, in order
abbrev pub group_members_writes : (include_env : Bool) → Texts → List Entry → List Write
group_members_writes include texts es = flat_map (λ n. list_writes include texts (group_members es n)) (group_numbers es)

-- the three headings, over the entries of each type
abbrev pub three_headings_writes : (include_env : Bool) → Texts → (HiTy → List Entry) → List Write
three_headings_writes include texts members =
    heading_writes include texts (codes "Available positional items:") (members ty.Positional)
    ++ heading_writes include texts (codes "Available options:") (members ty.Flag)
    ++ heading_writes include texts (codes "Available commands:") (members ty.Command)

-- `write_help_item_groups`: the groups in order, and then the three headings
abbrev pub groups_writes : (include_env : Bool) → Texts → List Entry → List Write
groups_writes include texts es = group_members_writes include texts es ++ three_headings_writes include texts (heading_members es)

-- a document between the marks of a block, if there is one
abbrev pub doc_within : Block → Option (List Part) → List Write
doc_within b None = []
doc_within b (Some d) = inside b (doc_writes d)

-- an info's own usage document, otherwise `Usage: `, the path and the usage of the tree
abbrev pub usage_line_writes : (path : List (List ℕ)) → (usage : Option (List Part)) → Tree → List Write
usage_line_writes path (Some d) t = doc_writes d
usage_line_writes path None t = emphasis (codes "Usage") ∷ plain (codes ": ")
    ∷ inside block.Mono (path_writes path ++ usage_writes true t)

-- `render_help`, without its check
abbrev pub help_page_writes : (path : List (List ℕ)) → Head → Tree → (help : Tree) → (include_env : Bool) → Texts
    → List Write
help_page_writes path (head descr header footer usage own) t help include texts =
    doc_within block.Block descr
    ++ inside block.Block (usage_line_writes path usage t)
    ++ doc_within block.Block header
    ++ groups_writes include texts (item_list t ++ item_list help)
    ++ doc_within block.Block footer

-- the tree of the help flags
abbrev pub help_tree : Head → Tree
help_tree (head descr header footer usage help) = help
