-- The pieces of groups, help pages, collected pages and manual pages of hard trees: groups in adjacent blocks and
-- blocks in groups, notes, repeats with and without help, environment names, empty titles, nested commands. Each
-- computes.
use Rattle.std.specs.Prelude.{◌≡◌, true, false, List, [], ◌∷◌, refl, codes, Some, None}
use Rattle.std.specs.Str.{chars}
use Rattle.unicode.specs.Binary.{is_uppercase}
use Rattle.ucd_table.specs.Rows.{in_ranges}
use Rattle.ucd_derived.specs.UppercaseRanges.{uppercase_ranges}
use lib.Utf8.{encode}
use Rattle.bpaf_doc.specs.declared.buffer.Style.TheVariants as style
use Rattle.bpaf_doc.specs.declared.buffer.Block.TheVariants as block
use Rattle.bpaf_doc.specs.Buffer.Parts.{Part, Text, Start, End}
use Rattle.bpaf_doc.specs.Buffer.Writes.{document_of}
use Rattle.bpaf_meta.specs.Content.{short, long, both, Tree, and_of, or_of, adjacent, item, subsection, suffix, skip, custom_usage, strict, no_trees, tree, any, positional, command, flag, argument, Head, head}
use Rattle.bpaf_items.specs.Listing.ItemList.{item_list}
use Rattle.bpaf_items.specs.Page.EnvTexts.{Texts, no_texts, texts_with}
use Rattle.bpaf_items.specs.Page.HelpPage.{groups_writes, help_page_writes}
use Rattle.bpaf_help.specs.Chapters.{collected_writes, manual_writes}

abbrev Pages : Tree → (Tree → Head) → (help : Tree) → Texts → (groups page collected manual : List Part) → Type 0
Pages t info help texts groups page collected manual =
    (document_of (groups_writes true texts (item_list t)) ≡ groups)
    × (document_of (help_page_writes (codes "app" ∷ codes "B b" ∷ []) (info skip) t help false texts) ≡ page)
    × (document_of (collected_writes (codes "app") t (info help)) ≡ collected)
    × (document_of (manual_writes (codes "app") t (info help)) ≡ manual)

abbrev bare : Tree → Head
bare = head None None None None

pages_0 : Pages (adjacent (and_of (tree (subsection (and_of (tree (item (flag (short 97) ([]) None None)) (tree (adjacent (and_of (tree (item (flag (long (codes "b")) ([]) None None)) (tree (item (flag (long (codes "c")) ([]) None (Some (Text (codes "C") style.Text ∷ [])))) no_trees)))) (tree (item (flag (short 100) ([]) None None)) no_trees)))) (Text (codes "G") style.Text ∷ [])) (tree (item (flag (short 101) ([]) None None)) (tree (item (flag (short 102) ([]) None (Some (Text (codes "F") style.Text ∷ [])))) no_trees))))) bare skip no_texts
    (Start block.Block ∷ Start block.Section2 ∷ Start block.InlineBlock ∷ Text (codes "G") style.Emphasis ∷ End block.InlineBlock ∷ End block.Section2 ∷ Start block.DefinitionList ∷ Start block.ItemTerm ∷ Text (codes "-a") style.Literal ∷ End block.ItemTerm ∷ Start block.Section4 ∷ Start block.Mono ∷ Text (codes "--b") style.Literal ∷ Text (codes " ") style.Text ∷ Text (codes "--c") style.Literal ∷ End block.Mono ∷ End block.Section4 ∷ Start block.ItemTerm ∷ Text (codes "    --c") style.Literal ∷ End block.ItemTerm ∷ Start block.ItemBody ∷ Start block.InlineBlock ∷ Text (codes "C") style.Text ∷ End block.InlineBlock ∷ End block.ItemBody ∷ Start block.Block ∷ End block.Block ∷ Start block.ItemTerm ∷ Text (codes "-d") style.Literal ∷ End block.ItemTerm ∷ End block.DefinitionList ∷ End block.Block ∷ Start block.Block ∷ Start block.Section2 ∷ Text (codes "Available options:") style.Emphasis ∷ End block.Section2 ∷ Start block.DefinitionList ∷ Start block.Section4 ∷ Start block.Mono ∷ Text (codes "-a") style.Literal ∷ Text (codes " ") style.Text ∷ Text (codes "--b") style.Literal ∷ Text (codes " ") style.Text ∷ Text (codes "--c") style.Literal ∷ Text (codes " ") style.Text ∷ Text (codes "-d") style.Literal ∷ Text (codes " ") style.Text ∷ Text (codes "-e") style.Literal ∷ Text (codes " ") style.Text ∷ Text (codes "-f") style.Literal ∷ End block.Mono ∷ End block.Section4 ∷ Start block.ItemTerm ∷ Text (codes "-f") style.Literal ∷ End block.ItemTerm ∷ Start block.ItemBody ∷ Start block.InlineBlock ∷ Text (codes "F") style.Text ∷ End block.InlineBlock ∷ End block.ItemBody ∷ Start block.Block ∷ End block.Block ∷ End block.DefinitionList ∷ End block.Block ∷ [])
    (Start block.Block ∷ Text (codes "Usage") style.Emphasis ∷ Text (codes ": ") style.Text ∷ Start block.Mono ∷ Text (codes "app") style.Literal ∷ Text (codes " ") style.Text ∷ Text (codes "B b") style.Literal ∷ Text (codes " ") style.Text ∷ Start block.Mono ∷ Text (codes "-a") style.Literal ∷ Text (codes " ") style.Text ∷ Text (codes "--b") style.Literal ∷ Text (codes " ") style.Text ∷ Text (codes "--c") style.Literal ∷ Text (codes " ") style.Text ∷ Text (codes "-d") style.Literal ∷ Text (codes " ") style.Text ∷ Text (codes "-e") style.Literal ∷ Text (codes " ") style.Text ∷ Text (codes "-f") style.Literal ∷ End block.Mono ∷ End block.Mono ∷ End block.Block ∷ Start block.Block ∷ Start block.Section2 ∷ Start block.InlineBlock ∷ Text (codes "G") style.Emphasis ∷ End block.InlineBlock ∷ End block.Section2 ∷ Start block.DefinitionList ∷ Start block.ItemTerm ∷ Text (codes "-a") style.Literal ∷ End block.ItemTerm ∷ Start block.Section4 ∷ Start block.Mono ∷ Text (codes "--b") style.Literal ∷ Text (codes " ") style.Text ∷ Text (codes "--c") style.Literal ∷ End block.Mono ∷ End block.Section4 ∷ Start block.ItemTerm ∷ Text (codes "    --c") style.Literal ∷ End block.ItemTerm ∷ Start block.ItemBody ∷ Start block.InlineBlock ∷ Text (codes "C") style.Text ∷ End block.InlineBlock ∷ End block.ItemBody ∷ Start block.Block ∷ End block.Block ∷ Start block.ItemTerm ∷ Text (codes "-d") style.Literal ∷ End block.ItemTerm ∷ End block.DefinitionList ∷ End block.Block ∷ Start block.Block ∷ Start block.Section2 ∷ Text (codes "Available options:") style.Emphasis ∷ End block.Section2 ∷ Start block.DefinitionList ∷ Start block.Section4 ∷ Start block.Mono ∷ Text (codes "-a") style.Literal ∷ Text (codes " ") style.Text ∷ Text (codes "--b") style.Literal ∷ Text (codes " ") style.Text ∷ Text (codes "--c") style.Literal ∷ Text (codes " ") style.Text ∷ Text (codes "-d") style.Literal ∷ Text (codes " ") style.Text ∷ Text (codes "-e") style.Literal ∷ Text (codes " ") style.Text ∷ Text (codes "-f") style.Literal ∷ End block.Mono ∷ End block.Section4 ∷ Start block.ItemTerm ∷ Text (codes "-f") style.Literal ∷ End block.ItemTerm ∷ Start block.ItemBody ∷ Start block.InlineBlock ∷ Text (codes "F") style.Text ∷ End block.InlineBlock ∷ End block.ItemBody ∷ Start block.Block ∷ End block.Block ∷ End block.DefinitionList ∷ End block.Block ∷ [])
    (Start block.Header ∷ Text (codes "app") style.Text ∷ End block.Header ∷ Start block.InlineBlock ∷ Start block.Block ∷ Text (codes "Usage") style.Emphasis ∷ Text (codes ": ") style.Text ∷ Start block.Mono ∷ Text (codes "app") style.Literal ∷ Text (codes " ") style.Text ∷ Start block.Mono ∷ Text (codes "-a") style.Literal ∷ Text (codes " ") style.Text ∷ Text (codes "--b") style.Literal ∷ Text (codes " ") style.Text ∷ Text (codes "--c") style.Literal ∷ Text (codes " ") style.Text ∷ Text (codes "-d") style.Literal ∷ Text (codes " ") style.Text ∷ Text (codes "-e") style.Literal ∷ Text (codes " ") style.Text ∷ Text (codes "-f") style.Literal ∷ End block.Mono ∷ End block.Mono ∷ End block.Block ∷ Start block.Block ∷ Start block.Section2 ∷ Start block.InlineBlock ∷ Text (codes "G") style.Emphasis ∷ End block.InlineBlock ∷ End block.Section2 ∷ Start block.DefinitionList ∷ Start block.ItemTerm ∷ Text (codes "-a") style.Literal ∷ End block.ItemTerm ∷ Start block.Section4 ∷ Start block.Mono ∷ Text (codes "--b") style.Literal ∷ Text (codes " ") style.Text ∷ Text (codes "--c") style.Literal ∷ End block.Mono ∷ End block.Section4 ∷ Start block.ItemTerm ∷ Text (codes "    --c") style.Literal ∷ End block.ItemTerm ∷ Start block.ItemBody ∷ Start block.InlineBlock ∷ Text (codes "C") style.Text ∷ End block.InlineBlock ∷ End block.ItemBody ∷ Start block.Block ∷ End block.Block ∷ Start block.ItemTerm ∷ Text (codes "-d") style.Literal ∷ End block.ItemTerm ∷ End block.DefinitionList ∷ End block.Block ∷ Start block.Block ∷ Start block.Section2 ∷ Text (codes "Available options:") style.Emphasis ∷ End block.Section2 ∷ Start block.DefinitionList ∷ Start block.Section4 ∷ Start block.Mono ∷ Text (codes "-a") style.Literal ∷ Text (codes " ") style.Text ∷ Text (codes "--b") style.Literal ∷ Text (codes " ") style.Text ∷ Text (codes "--c") style.Literal ∷ Text (codes " ") style.Text ∷ Text (codes "-d") style.Literal ∷ Text (codes " ") style.Text ∷ Text (codes "-e") style.Literal ∷ Text (codes " ") style.Text ∷ Text (codes "-f") style.Literal ∷ End block.Mono ∷ End block.Section4 ∷ Start block.ItemTerm ∷ Text (codes "-f") style.Literal ∷ End block.ItemTerm ∷ Start block.ItemBody ∷ Start block.InlineBlock ∷ Text (codes "F") style.Text ∷ End block.InlineBlock ∷ End block.ItemBody ∷ Start block.Block ∷ End block.Block ∷ End block.DefinitionList ∷ End block.Block ∷ End block.InlineBlock ∷ [])
    (Start block.Header ∷ Text (codes "SYNOPSIS") style.Text ∷ End block.Header ∷ Text (codes "app") style.Literal ∷ Text (codes " ") style.Text ∷ Start block.Mono ∷ Text (codes "-a") style.Literal ∷ Text (codes " ") style.Text ∷ Text (codes "--b") style.Literal ∷ Text (codes " ") style.Text ∷ Text (codes "--c") style.Literal ∷ Text (codes " ") style.Text ∷ Text (codes "-d") style.Literal ∷ Text (codes " ") style.Text ∷ Text (codes "-e") style.Literal ∷ Text (codes " ") style.Text ∷ Text (codes "-f") style.Literal ∷ End block.Mono ∷ Start block.Block ∷ Start block.Section2 ∷ Start block.InlineBlock ∷ Text (codes "G") style.Emphasis ∷ End block.InlineBlock ∷ End block.Section2 ∷ Start block.DefinitionList ∷ Start block.ItemTerm ∷ Text (codes "-a") style.Literal ∷ End block.ItemTerm ∷ Start block.Section4 ∷ Start block.Mono ∷ Text (codes "--b") style.Literal ∷ Text (codes " ") style.Text ∷ Text (codes "--c") style.Literal ∷ End block.Mono ∷ End block.Section4 ∷ Start block.ItemTerm ∷ Text (codes "    --c") style.Literal ∷ End block.ItemTerm ∷ Start block.ItemBody ∷ Start block.InlineBlock ∷ Text (codes "C") style.Text ∷ End block.InlineBlock ∷ End block.ItemBody ∷ Start block.Block ∷ End block.Block ∷ Start block.ItemTerm ∷ Text (codes "-d") style.Literal ∷ End block.ItemTerm ∷ End block.DefinitionList ∷ End block.Block ∷ Start block.Block ∷ Start block.Section2 ∷ Text (codes "Available options:") style.Emphasis ∷ End block.Section2 ∷ Start block.DefinitionList ∷ Start block.Section4 ∷ Start block.Mono ∷ Text (codes "-a") style.Literal ∷ Text (codes " ") style.Text ∷ Text (codes "--b") style.Literal ∷ Text (codes " ") style.Text ∷ Text (codes "--c") style.Literal ∷ Text (codes " ") style.Text ∷ Text (codes "-d") style.Literal ∷ Text (codes " ") style.Text ∷ Text (codes "-e") style.Literal ∷ Text (codes " ") style.Text ∷ Text (codes "-f") style.Literal ∷ End block.Mono ∷ End block.Section4 ∷ Start block.ItemTerm ∷ Text (codes "-f") style.Literal ∷ End block.ItemTerm ∷ Start block.ItemBody ∷ Start block.InlineBlock ∷ Text (codes "F") style.Text ∷ End block.InlineBlock ∷ End block.ItemBody ∷ Start block.Block ∷ End block.Block ∷ End block.DefinitionList ∷ End block.Block ∷ [])
unfolding is_uppercase chars in_ranges uppercase_ranges encode
pages_0 = (refl, refl, refl, refl)

abbrev titled : Tree
titled = (subsection (and_of (tree (adjacent (and_of (tree (item (flag (long (codes "x")) ([]) (Some (codes "V")) (Some (Text (codes "X") style.Text ∷ [])))) (tree (item (positional (codes "P") None)) (tree (item (argument (short 121) ([]) (codes "N") None None)) no_trees))))) (tree (item (flag (short 121) ([]) None None)) no_trees))) (Text (codes "T\nmore") style.Text ∷ Text (codes "x") style.Literal ∷ []))

pages_1 : document_of (groups_writes true no_texts (item_list titled)) ≡ (Start block.Block ∷ Start block.Section2 ∷ Start block.InlineBlock ∷ Text (codes "T") style.Emphasis ∷ Start block.Section3 ∷ Text (codes "more") style.Text ∷ Text (codes "x") style.Literal ∷ End block.Section3 ∷ End block.InlineBlock ∷ End block.Section2 ∷ Start block.DefinitionList ∷ Start block.Section4 ∷ Start block.Mono ∷ Text (codes "--x") style.Literal ∷ Text (codes " ") style.Text ∷ Text (codes "P") style.Metavar ∷ Text (codes " ") style.Text ∷ Text (codes "-y") style.Literal ∷ Text (codes "=") style.Text ∷ Text (codes "N") style.Metavar ∷ End block.Mono ∷ End block.Section4 ∷ Start block.ItemTerm ∷ Text (codes "    --x") style.Literal ∷ End block.ItemTerm ∷ Start block.ItemBody ∷ Start block.InlineBlock ∷ Text (codes "X") style.Text ∷ End block.InlineBlock ∷ End block.ItemBody ∷ Start block.ItemTerm ∷ End block.ItemTerm ∷ Start block.ItemBody ∷ Text (codes "[env:V: not set]") style.Text ∷ End block.ItemBody ∷ Start block.Block ∷ End block.Block ∷ Start block.ItemTerm ∷ Text (codes "-y") style.Literal ∷ End block.ItemTerm ∷ End block.DefinitionList ∷ End block.Block ∷ [])
    × document_of (manual_writes (codes "app") titled (head None None None None (item (flag (short 104) ([]) None (Some (Text (codes "Help") style.Text ∷ [])))))) ≡ (Start block.Header ∷ Text (codes "SYNOPSIS") style.Text ∷ End block.Header ∷ Text (codes "app") style.Literal ∷ Text (codes " ") style.Text ∷ Start block.Mono ∷ Text (codes "--x") style.Literal ∷ Text (codes " ") style.Text ∷ Text (codes "P") style.Metavar ∷ Text (codes " ") style.Text ∷ Text (codes "-y") style.Literal ∷ Text (codes "=") style.Text ∷ Text (codes "N") style.Metavar ∷ Text (codes " ") style.Text ∷ Text (codes "-y") style.Literal ∷ End block.Mono ∷ Start block.Block ∷ Start block.Section2 ∷ Start block.InlineBlock ∷ Text (codes "T") style.Emphasis ∷ Start block.Section3 ∷ Text (codes "more") style.Text ∷ Text (codes "x") style.Literal ∷ End block.Section3 ∷ End block.InlineBlock ∷ End block.Section2 ∷ Start block.DefinitionList ∷ Start block.Section4 ∷ Start block.Mono ∷ Text (codes "--x") style.Literal ∷ Text (codes " ") style.Text ∷ Text (codes "P") style.Metavar ∷ Text (codes " ") style.Text ∷ Text (codes "-y") style.Literal ∷ Text (codes "=") style.Text ∷ Text (codes "N") style.Metavar ∷ End block.Mono ∷ End block.Section4 ∷ Start block.ItemTerm ∷ Text (codes "    --x") style.Literal ∷ End block.ItemTerm ∷ Start block.ItemBody ∷ Start block.InlineBlock ∷ Text (codes "X") style.Text ∷ End block.InlineBlock ∷ End block.ItemBody ∷ Start block.ItemTerm ∷ End block.ItemTerm ∷ Start block.ItemBody ∷ Text (codes "Uses environment variable ") style.Text ∷ Text (codes "V") style.Literal ∷ End block.ItemBody ∷ Start block.Block ∷ End block.Block ∷ Start block.ItemTerm ∷ Text (codes "-y") style.Literal ∷ End block.ItemTerm ∷ End block.DefinitionList ∷ End block.Block ∷ Start block.Block ∷ Start block.Section2 ∷ Text (codes "Available options:") style.Emphasis ∷ End block.Section2 ∷ Start block.DefinitionList ∷ Start block.ItemTerm ∷ Text (codes "-h") style.Literal ∷ End block.ItemTerm ∷ Start block.ItemBody ∷ Start block.InlineBlock ∷ Text (codes "Help") style.Text ∷ End block.InlineBlock ∷ End block.ItemBody ∷ End block.DefinitionList ∷ End block.Block ∷ [])
unfolding is_uppercase chars in_ranges uppercase_ranges encode
pages_1 = (refl, refl)

pages_2 : Pages (and_of (tree (item (flag (short 97) ([]) (Some (codes "V")) (Some (Text (codes "A") style.Text ∷ [])))) (tree (item (argument (short 98) ([]) (codes "FILE") (Some (codes "V")) (Some (Text (codes "B") style.Text ∷ [])))) (tree (item (argument (short 99) ([]) (codes "N") (Some (codes "W")) None)) (tree (item (flag (short 100) ([]) (Some (codes "W")) None)) no_trees))))) bare skip (texts_with no_texts (codes "V") (codes "\"7\""))
    (Start block.Block ∷ Start block.Section2 ∷ Text (codes "Available options:") style.Emphasis ∷ End block.Section2 ∷ Start block.DefinitionList ∷ Start block.ItemTerm ∷ Text (codes "-a") style.Literal ∷ End block.ItemTerm ∷ Start block.ItemBody ∷ Start block.InlineBlock ∷ Text (codes "A") style.Text ∷ End block.InlineBlock ∷ End block.ItemBody ∷ Start block.ItemTerm ∷ End block.ItemTerm ∷ Start block.ItemBody ∷ Text (codes "[env:V: set]") style.Text ∷ End block.ItemBody ∷ Start block.ItemTerm ∷ Text (codes "-b") style.Literal ∷ Text (codes "=") style.Text ∷ Text (codes "FILE") style.Metavar ∷ End block.ItemTerm ∷ Start block.ItemBody ∷ Start block.InlineBlock ∷ Text (codes "B") style.Text ∷ End block.InlineBlock ∷ End block.ItemBody ∷ Start block.ItemTerm ∷ End block.ItemTerm ∷ Start block.ItemBody ∷ Text (codes "[env:V = \"7\"]") style.Text ∷ End block.ItemBody ∷ Start block.ItemTerm ∷ Text (codes "-c") style.Literal ∷ Text (codes "=") style.Text ∷ Text (codes "N") style.Metavar ∷ End block.ItemTerm ∷ Start block.ItemBody ∷ Text (codes "[env:W: N/A]") style.Text ∷ End block.ItemBody ∷ Start block.ItemTerm ∷ Text (codes "-d") style.Literal ∷ End block.ItemTerm ∷ Start block.ItemBody ∷ Text (codes "[env:W: not set]") style.Text ∷ End block.ItemBody ∷ End block.DefinitionList ∷ End block.Block ∷ [])
    (Start block.Block ∷ Text (codes "Usage") style.Emphasis ∷ Text (codes ": ") style.Text ∷ Start block.Mono ∷ Text (codes "app") style.Literal ∷ Text (codes " ") style.Text ∷ Text (codes "B b") style.Literal ∷ Text (codes " ") style.Text ∷ Start block.Mono ∷ Text (codes "-a") style.Literal ∷ Text (codes " ") style.Text ∷ Text (codes "-b") style.Literal ∷ Text (codes "=") style.Text ∷ Text (codes "FILE") style.Metavar ∷ Text (codes " ") style.Text ∷ Text (codes "-c") style.Literal ∷ Text (codes "=") style.Text ∷ Text (codes "N") style.Metavar ∷ Text (codes " ") style.Text ∷ Text (codes "-d") style.Literal ∷ End block.Mono ∷ End block.Mono ∷ End block.Block ∷ Start block.Block ∷ Start block.Section2 ∷ Text (codes "Available options:") style.Emphasis ∷ End block.Section2 ∷ Start block.DefinitionList ∷ Start block.ItemTerm ∷ Text (codes "-a") style.Literal ∷ End block.ItemTerm ∷ Start block.ItemBody ∷ Start block.InlineBlock ∷ Text (codes "A") style.Text ∷ End block.InlineBlock ∷ End block.ItemBody ∷ Start block.ItemTerm ∷ End block.ItemTerm ∷ Start block.ItemBody ∷ Text (codes "Uses environment variable ") style.Text ∷ Text (codes "V") style.Literal ∷ End block.ItemBody ∷ Start block.ItemTerm ∷ Text (codes "-b") style.Literal ∷ Text (codes "=") style.Text ∷ Text (codes "FILE") style.Metavar ∷ End block.ItemTerm ∷ Start block.ItemBody ∷ Start block.InlineBlock ∷ Text (codes "B") style.Text ∷ End block.InlineBlock ∷ End block.ItemBody ∷ Start block.ItemTerm ∷ End block.ItemTerm ∷ Start block.ItemBody ∷ Text (codes "Uses environment variable ") style.Text ∷ Text (codes "V") style.Literal ∷ End block.ItemBody ∷ Start block.ItemTerm ∷ Text (codes "-c") style.Literal ∷ Text (codes "=") style.Text ∷ Text (codes "N") style.Metavar ∷ End block.ItemTerm ∷ Start block.ItemBody ∷ Text (codes "Uses environment variable ") style.Text ∷ Text (codes "W") style.Literal ∷ End block.ItemBody ∷ Start block.ItemTerm ∷ Text (codes "-d") style.Literal ∷ End block.ItemTerm ∷ Start block.ItemBody ∷ Text (codes "Uses environment variable ") style.Text ∷ Text (codes "W") style.Literal ∷ End block.ItemBody ∷ End block.DefinitionList ∷ End block.Block ∷ [])
    (Start block.Header ∷ Text (codes "app") style.Text ∷ End block.Header ∷ Start block.InlineBlock ∷ Start block.Block ∷ Text (codes "Usage") style.Emphasis ∷ Text (codes ": ") style.Text ∷ Start block.Mono ∷ Text (codes "app") style.Literal ∷ Text (codes " ") style.Text ∷ Start block.Mono ∷ Text (codes "-a") style.Literal ∷ Text (codes " ") style.Text ∷ Text (codes "-b") style.Literal ∷ Text (codes "=") style.Text ∷ Text (codes "FILE") style.Metavar ∷ Text (codes " ") style.Text ∷ Text (codes "-c") style.Literal ∷ Text (codes "=") style.Text ∷ Text (codes "N") style.Metavar ∷ Text (codes " ") style.Text ∷ Text (codes "-d") style.Literal ∷ End block.Mono ∷ End block.Mono ∷ End block.Block ∷ Start block.Block ∷ Start block.Section2 ∷ Text (codes "Available options:") style.Emphasis ∷ End block.Section2 ∷ Start block.DefinitionList ∷ Start block.ItemTerm ∷ Text (codes "-a") style.Literal ∷ End block.ItemTerm ∷ Start block.ItemBody ∷ Start block.InlineBlock ∷ Text (codes "A") style.Text ∷ End block.InlineBlock ∷ End block.ItemBody ∷ Start block.ItemTerm ∷ End block.ItemTerm ∷ Start block.ItemBody ∷ Text (codes "Uses environment variable ") style.Text ∷ Text (codes "V") style.Literal ∷ End block.ItemBody ∷ Start block.ItemTerm ∷ Text (codes "-b") style.Literal ∷ Text (codes "=") style.Text ∷ Text (codes "FILE") style.Metavar ∷ End block.ItemTerm ∷ Start block.ItemBody ∷ Start block.InlineBlock ∷ Text (codes "B") style.Text ∷ End block.InlineBlock ∷ End block.ItemBody ∷ Start block.ItemTerm ∷ End block.ItemTerm ∷ Start block.ItemBody ∷ Text (codes "Uses environment variable ") style.Text ∷ Text (codes "V") style.Literal ∷ End block.ItemBody ∷ Start block.ItemTerm ∷ Text (codes "-c") style.Literal ∷ Text (codes "=") style.Text ∷ Text (codes "N") style.Metavar ∷ End block.ItemTerm ∷ Start block.ItemBody ∷ Text (codes "Uses environment variable ") style.Text ∷ Text (codes "W") style.Literal ∷ End block.ItemBody ∷ Start block.ItemTerm ∷ Text (codes "-d") style.Literal ∷ End block.ItemTerm ∷ Start block.ItemBody ∷ Text (codes "Uses environment variable ") style.Text ∷ Text (codes "W") style.Literal ∷ End block.ItemBody ∷ End block.DefinitionList ∷ End block.Block ∷ End block.InlineBlock ∷ [])
    (Start block.Header ∷ Text (codes "SYNOPSIS") style.Text ∷ End block.Header ∷ Text (codes "app") style.Literal ∷ Text (codes " ") style.Text ∷ Start block.Mono ∷ Text (codes "-a") style.Literal ∷ Text (codes " ") style.Text ∷ Text (codes "-b") style.Literal ∷ Text (codes "=") style.Text ∷ Text (codes "FILE") style.Metavar ∷ Text (codes " ") style.Text ∷ Text (codes "-c") style.Literal ∷ Text (codes "=") style.Text ∷ Text (codes "N") style.Metavar ∷ Text (codes " ") style.Text ∷ Text (codes "-d") style.Literal ∷ End block.Mono ∷ Start block.Block ∷ Start block.Section2 ∷ Text (codes "Available options:") style.Emphasis ∷ End block.Section2 ∷ Start block.DefinitionList ∷ Start block.ItemTerm ∷ Text (codes "-a") style.Literal ∷ End block.ItemTerm ∷ Start block.ItemBody ∷ Start block.InlineBlock ∷ Text (codes "A") style.Text ∷ End block.InlineBlock ∷ End block.ItemBody ∷ Start block.ItemTerm ∷ End block.ItemTerm ∷ Start block.ItemBody ∷ Text (codes "Uses environment variable ") style.Text ∷ Text (codes "V") style.Literal ∷ End block.ItemBody ∷ Start block.ItemTerm ∷ Text (codes "-b") style.Literal ∷ Text (codes "=") style.Text ∷ Text (codes "FILE") style.Metavar ∷ End block.ItemTerm ∷ Start block.ItemBody ∷ Start block.InlineBlock ∷ Text (codes "B") style.Text ∷ End block.InlineBlock ∷ End block.ItemBody ∷ Start block.ItemTerm ∷ End block.ItemTerm ∷ Start block.ItemBody ∷ Text (codes "Uses environment variable ") style.Text ∷ Text (codes "V") style.Literal ∷ End block.ItemBody ∷ Start block.ItemTerm ∷ Text (codes "-c") style.Literal ∷ Text (codes "=") style.Text ∷ Text (codes "N") style.Metavar ∷ End block.ItemTerm ∷ Start block.ItemBody ∷ Text (codes "Uses environment variable ") style.Text ∷ Text (codes "W") style.Literal ∷ End block.ItemBody ∷ Start block.ItemTerm ∷ Text (codes "-d") style.Literal ∷ End block.ItemTerm ∷ Start block.ItemBody ∷ Text (codes "Uses environment variable ") style.Text ∷ Text (codes "W") style.Literal ∷ End block.ItemBody ∷ End block.DefinitionList ∷ End block.Block ∷ [])
unfolding is_uppercase chars in_ranges uppercase_ranges encode
pages_2 = (refl, refl, refl, refl)

pages_3 : Pages (suffix (item (positional (codes "P") None)) (Text (codes "S") style.Text ∷ [])) bare skip no_texts
    (Start block.Block ∷ Start block.Section2 ∷ Text (codes "Available positional items:") style.Emphasis ∷ End block.Section2 ∷ Start block.DefinitionList ∷ End block.DefinitionList ∷ End block.Block ∷ [])
    (Start block.Block ∷ Text (codes "Usage") style.Emphasis ∷ Text (codes ": ") style.Text ∷ Start block.Mono ∷ Text (codes "app") style.Literal ∷ Text (codes " ") style.Text ∷ Text (codes "B b") style.Literal ∷ Text (codes " ") style.Text ∷ Start block.Mono ∷ Text (codes "P") style.Metavar ∷ End block.Mono ∷ End block.Mono ∷ End block.Block ∷ Start block.Block ∷ Start block.Section2 ∷ Text (codes "Available positional items:") style.Emphasis ∷ End block.Section2 ∷ Start block.DefinitionList ∷ End block.DefinitionList ∷ End block.Block ∷ [])
    (Start block.Header ∷ Text (codes "app") style.Text ∷ End block.Header ∷ Start block.InlineBlock ∷ Start block.Block ∷ Text (codes "Usage") style.Emphasis ∷ Text (codes ": ") style.Text ∷ Start block.Mono ∷ Text (codes "app") style.Literal ∷ Text (codes " ") style.Text ∷ Start block.Mono ∷ Text (codes "P") style.Metavar ∷ End block.Mono ∷ End block.Mono ∷ End block.Block ∷ Start block.Block ∷ Start block.Section2 ∷ Text (codes "Available positional items:") style.Emphasis ∷ End block.Section2 ∷ Start block.DefinitionList ∷ End block.DefinitionList ∷ End block.Block ∷ End block.InlineBlock ∷ [])
    (Start block.Header ∷ Text (codes "SYNOPSIS") style.Text ∷ End block.Header ∷ Text (codes "app") style.Literal ∷ Text (codes " ") style.Text ∷ Start block.Mono ∷ Text (codes "P") style.Metavar ∷ End block.Mono ∷ Start block.Block ∷ Start block.Section2 ∷ Text (codes "Available positional items:") style.Emphasis ∷ End block.Section2 ∷ Start block.DefinitionList ∷ End block.DefinitionList ∷ End block.Block ∷ [])
unfolding is_uppercase chars in_ranges uppercase_ranges encode
pages_3 = (refl, refl, refl, refl)

pages_4 : Pages (suffix (suffix (item (flag (short 97) ([]) None (Some (Text (codes "A") style.Text ∷ [])))) (Text (codes "S") style.Text ∷ [])) (Text (codes "S2") style.Text ∷ [])) bare skip no_texts
    (Start block.Block ∷ Start block.Section2 ∷ Text (codes "Available options:") style.Emphasis ∷ End block.Section2 ∷ Start block.DefinitionList ∷ Start block.ItemTerm ∷ Text (codes "-a") style.Literal ∷ End block.ItemTerm ∷ Start block.ItemBody ∷ Start block.InlineBlock ∷ Text (codes "A") style.Text ∷ End block.InlineBlock ∷ End block.ItemBody ∷ Start block.ItemTerm ∷ End block.ItemTerm ∷ Start block.ItemBody ∷ Start block.InlineBlock ∷ Text (codes "S") style.Text ∷ End block.InlineBlock ∷ End block.ItemBody ∷ End block.DefinitionList ∷ End block.Block ∷ [])
    (Start block.Block ∷ Text (codes "Usage") style.Emphasis ∷ Text (codes ": ") style.Text ∷ Start block.Mono ∷ Text (codes "app") style.Literal ∷ Text (codes " ") style.Text ∷ Text (codes "B b") style.Literal ∷ Text (codes " ") style.Text ∷ Start block.Mono ∷ Text (codes "-a") style.Literal ∷ End block.Mono ∷ End block.Mono ∷ End block.Block ∷ Start block.Block ∷ Start block.Section2 ∷ Text (codes "Available options:") style.Emphasis ∷ End block.Section2 ∷ Start block.DefinitionList ∷ Start block.ItemTerm ∷ Text (codes "-a") style.Literal ∷ End block.ItemTerm ∷ Start block.ItemBody ∷ Start block.InlineBlock ∷ Text (codes "A") style.Text ∷ End block.InlineBlock ∷ End block.ItemBody ∷ Start block.ItemTerm ∷ End block.ItemTerm ∷ Start block.ItemBody ∷ Start block.InlineBlock ∷ Text (codes "S") style.Text ∷ End block.InlineBlock ∷ End block.ItemBody ∷ End block.DefinitionList ∷ End block.Block ∷ [])
    (Start block.Header ∷ Text (codes "app") style.Text ∷ End block.Header ∷ Start block.InlineBlock ∷ Start block.Block ∷ Text (codes "Usage") style.Emphasis ∷ Text (codes ": ") style.Text ∷ Start block.Mono ∷ Text (codes "app") style.Literal ∷ Text (codes " ") style.Text ∷ Start block.Mono ∷ Text (codes "-a") style.Literal ∷ End block.Mono ∷ End block.Mono ∷ End block.Block ∷ Start block.Block ∷ Start block.Section2 ∷ Text (codes "Available options:") style.Emphasis ∷ End block.Section2 ∷ Start block.DefinitionList ∷ Start block.ItemTerm ∷ Text (codes "-a") style.Literal ∷ End block.ItemTerm ∷ Start block.ItemBody ∷ Start block.InlineBlock ∷ Text (codes "A") style.Text ∷ End block.InlineBlock ∷ End block.ItemBody ∷ Start block.ItemTerm ∷ End block.ItemTerm ∷ Start block.ItemBody ∷ Start block.InlineBlock ∷ Text (codes "S") style.Text ∷ End block.InlineBlock ∷ End block.ItemBody ∷ End block.DefinitionList ∷ End block.Block ∷ End block.InlineBlock ∷ [])
    (Start block.Header ∷ Text (codes "SYNOPSIS") style.Text ∷ End block.Header ∷ Text (codes "app") style.Literal ∷ Text (codes " ") style.Text ∷ Start block.Mono ∷ Text (codes "-a") style.Literal ∷ End block.Mono ∷ Start block.Block ∷ Start block.Section2 ∷ Text (codes "Available options:") style.Emphasis ∷ End block.Section2 ∷ Start block.DefinitionList ∷ Start block.ItemTerm ∷ Text (codes "-a") style.Literal ∷ End block.ItemTerm ∷ Start block.ItemBody ∷ Start block.InlineBlock ∷ Text (codes "A") style.Text ∷ End block.InlineBlock ∷ End block.ItemBody ∷ Start block.ItemTerm ∷ End block.ItemTerm ∷ Start block.ItemBody ∷ Start block.InlineBlock ∷ Text (codes "S") style.Text ∷ End block.InlineBlock ∷ End block.ItemBody ∷ End block.DefinitionList ∷ End block.Block ∷ [])
unfolding is_uppercase chars in_ranges uppercase_ranges encode
pages_4 = (refl, refl, refl, refl)

pages_5 : Pages (and_of (tree (item (flag (short 97) ([]) None (Some (Text (codes "A") style.Text ∷ [])))) (tree (suffix (item (flag (short 97) ([]) None (Some (Text (codes "A") style.Text ∷ [])))) (Text (codes "S") style.Text ∷ [])) no_trees))) bare skip no_texts
    (Start block.Block ∷ Start block.Section2 ∷ Text (codes "Available options:") style.Emphasis ∷ End block.Section2 ∷ Start block.DefinitionList ∷ Start block.ItemTerm ∷ Text (codes "-a") style.Literal ∷ End block.ItemTerm ∷ Start block.ItemBody ∷ Start block.InlineBlock ∷ Text (codes "A") style.Text ∷ End block.InlineBlock ∷ End block.ItemBody ∷ End block.DefinitionList ∷ End block.Block ∷ [])
    (Start block.Block ∷ Text (codes "Usage") style.Emphasis ∷ Text (codes ": ") style.Text ∷ Start block.Mono ∷ Text (codes "app") style.Literal ∷ Text (codes " ") style.Text ∷ Text (codes "B b") style.Literal ∷ Text (codes " ") style.Text ∷ Start block.Mono ∷ Text (codes "-a") style.Literal ∷ Text (codes " ") style.Text ∷ Text (codes "-a") style.Literal ∷ End block.Mono ∷ End block.Mono ∷ End block.Block ∷ Start block.Block ∷ Start block.Section2 ∷ Text (codes "Available options:") style.Emphasis ∷ End block.Section2 ∷ Start block.DefinitionList ∷ Start block.ItemTerm ∷ Text (codes "-a") style.Literal ∷ End block.ItemTerm ∷ Start block.ItemBody ∷ Start block.InlineBlock ∷ Text (codes "A") style.Text ∷ End block.InlineBlock ∷ End block.ItemBody ∷ End block.DefinitionList ∷ End block.Block ∷ [])
    (Start block.Header ∷ Text (codes "app") style.Text ∷ End block.Header ∷ Start block.InlineBlock ∷ Start block.Block ∷ Text (codes "Usage") style.Emphasis ∷ Text (codes ": ") style.Text ∷ Start block.Mono ∷ Text (codes "app") style.Literal ∷ Text (codes " ") style.Text ∷ Start block.Mono ∷ Text (codes "-a") style.Literal ∷ Text (codes " ") style.Text ∷ Text (codes "-a") style.Literal ∷ End block.Mono ∷ End block.Mono ∷ End block.Block ∷ Start block.Block ∷ Start block.Section2 ∷ Text (codes "Available options:") style.Emphasis ∷ End block.Section2 ∷ Start block.DefinitionList ∷ Start block.ItemTerm ∷ Text (codes "-a") style.Literal ∷ End block.ItemTerm ∷ Start block.ItemBody ∷ Start block.InlineBlock ∷ Text (codes "A") style.Text ∷ End block.InlineBlock ∷ End block.ItemBody ∷ End block.DefinitionList ∷ End block.Block ∷ End block.InlineBlock ∷ [])
    (Start block.Header ∷ Text (codes "SYNOPSIS") style.Text ∷ End block.Header ∷ Text (codes "app") style.Literal ∷ Text (codes " ") style.Text ∷ Start block.Mono ∷ Text (codes "-a") style.Literal ∷ Text (codes " ") style.Text ∷ Text (codes "-a") style.Literal ∷ End block.Mono ∷ Start block.Block ∷ Start block.Section2 ∷ Text (codes "Available options:") style.Emphasis ∷ End block.Section2 ∷ Start block.DefinitionList ∷ Start block.ItemTerm ∷ Text (codes "-a") style.Literal ∷ End block.ItemTerm ∷ Start block.ItemBody ∷ Start block.InlineBlock ∷ Text (codes "A") style.Text ∷ End block.InlineBlock ∷ End block.ItemBody ∷ End block.DefinitionList ∷ End block.Block ∷ [])
unfolding is_uppercase chars in_ranges uppercase_ranges encode
pages_5 = (refl, refl, refl, refl)

pages_6 : Pages (and_of (tree (subsection (item (flag (short 97) ([]) None (Some (Text (codes "A") style.Text ∷ [])))) (Text (codes "G") style.Text ∷ [])) (tree (item (flag (short 97) ([]) None (Some (Text (codes "A") style.Text ∷ [])))) (tree (subsection (item (flag (short 97) ([]) None (Some (Text (codes "A") style.Text ∷ [])))) (Text (codes "G") style.Text ∷ [])) (tree (item (flag (short 97) ([]) None None)) no_trees))))) bare skip no_texts
    (Start block.Block ∷ Start block.Section2 ∷ Start block.InlineBlock ∷ Text (codes "G") style.Emphasis ∷ End block.InlineBlock ∷ End block.Section2 ∷ Start block.DefinitionList ∷ Start block.ItemTerm ∷ Text (codes "-a") style.Literal ∷ End block.ItemTerm ∷ Start block.ItemBody ∷ Start block.InlineBlock ∷ Text (codes "A") style.Text ∷ End block.InlineBlock ∷ End block.ItemBody ∷ End block.DefinitionList ∷ End block.Block ∷ Start block.Block ∷ Start block.Section2 ∷ Start block.InlineBlock ∷ Text (codes "G") style.Emphasis ∷ End block.InlineBlock ∷ End block.Section2 ∷ Start block.DefinitionList ∷ Start block.ItemTerm ∷ Text (codes "-a") style.Literal ∷ End block.ItemTerm ∷ Start block.ItemBody ∷ Start block.InlineBlock ∷ Text (codes "A") style.Text ∷ End block.InlineBlock ∷ End block.ItemBody ∷ End block.DefinitionList ∷ End block.Block ∷ Start block.Block ∷ Start block.Section2 ∷ Text (codes "Available options:") style.Emphasis ∷ End block.Section2 ∷ Start block.DefinitionList ∷ Start block.ItemTerm ∷ Text (codes "-a") style.Literal ∷ End block.ItemTerm ∷ Start block.ItemBody ∷ Start block.InlineBlock ∷ Text (codes "A") style.Text ∷ End block.InlineBlock ∷ End block.ItemBody ∷ Start block.ItemTerm ∷ Text (codes "-a") style.Literal ∷ End block.ItemTerm ∷ End block.DefinitionList ∷ End block.Block ∷ [])
    (Start block.Block ∷ Text (codes "Usage") style.Emphasis ∷ Text (codes ": ") style.Text ∷ Start block.Mono ∷ Text (codes "app") style.Literal ∷ Text (codes " ") style.Text ∷ Text (codes "B b") style.Literal ∷ Text (codes " ") style.Text ∷ Start block.Mono ∷ Text (codes "-a") style.Literal ∷ Text (codes " ") style.Text ∷ Text (codes "-a") style.Literal ∷ Text (codes " ") style.Text ∷ Text (codes "-a") style.Literal ∷ Text (codes " ") style.Text ∷ Text (codes "-a") style.Literal ∷ End block.Mono ∷ End block.Mono ∷ End block.Block ∷ Start block.Block ∷ Start block.Section2 ∷ Start block.InlineBlock ∷ Text (codes "G") style.Emphasis ∷ End block.InlineBlock ∷ End block.Section2 ∷ Start block.DefinitionList ∷ Start block.ItemTerm ∷ Text (codes "-a") style.Literal ∷ End block.ItemTerm ∷ Start block.ItemBody ∷ Start block.InlineBlock ∷ Text (codes "A") style.Text ∷ End block.InlineBlock ∷ End block.ItemBody ∷ End block.DefinitionList ∷ End block.Block ∷ Start block.Block ∷ Start block.Section2 ∷ Start block.InlineBlock ∷ Text (codes "G") style.Emphasis ∷ End block.InlineBlock ∷ End block.Section2 ∷ Start block.DefinitionList ∷ Start block.ItemTerm ∷ Text (codes "-a") style.Literal ∷ End block.ItemTerm ∷ Start block.ItemBody ∷ Start block.InlineBlock ∷ Text (codes "A") style.Text ∷ End block.InlineBlock ∷ End block.ItemBody ∷ End block.DefinitionList ∷ End block.Block ∷ Start block.Block ∷ Start block.Section2 ∷ Text (codes "Available options:") style.Emphasis ∷ End block.Section2 ∷ Start block.DefinitionList ∷ Start block.ItemTerm ∷ Text (codes "-a") style.Literal ∷ End block.ItemTerm ∷ Start block.ItemBody ∷ Start block.InlineBlock ∷ Text (codes "A") style.Text ∷ End block.InlineBlock ∷ End block.ItemBody ∷ Start block.ItemTerm ∷ Text (codes "-a") style.Literal ∷ End block.ItemTerm ∷ End block.DefinitionList ∷ End block.Block ∷ [])
    (Start block.Header ∷ Text (codes "app") style.Text ∷ End block.Header ∷ Start block.InlineBlock ∷ Start block.Block ∷ Text (codes "Usage") style.Emphasis ∷ Text (codes ": ") style.Text ∷ Start block.Mono ∷ Text (codes "app") style.Literal ∷ Text (codes " ") style.Text ∷ Start block.Mono ∷ Text (codes "-a") style.Literal ∷ Text (codes " ") style.Text ∷ Text (codes "-a") style.Literal ∷ Text (codes " ") style.Text ∷ Text (codes "-a") style.Literal ∷ Text (codes " ") style.Text ∷ Text (codes "-a") style.Literal ∷ End block.Mono ∷ End block.Mono ∷ End block.Block ∷ Start block.Block ∷ Start block.Section2 ∷ Start block.InlineBlock ∷ Text (codes "G") style.Emphasis ∷ End block.InlineBlock ∷ End block.Section2 ∷ Start block.DefinitionList ∷ Start block.ItemTerm ∷ Text (codes "-a") style.Literal ∷ End block.ItemTerm ∷ Start block.ItemBody ∷ Start block.InlineBlock ∷ Text (codes "A") style.Text ∷ End block.InlineBlock ∷ End block.ItemBody ∷ End block.DefinitionList ∷ End block.Block ∷ Start block.Block ∷ Start block.Section2 ∷ Start block.InlineBlock ∷ Text (codes "G") style.Emphasis ∷ End block.InlineBlock ∷ End block.Section2 ∷ Start block.DefinitionList ∷ Start block.ItemTerm ∷ Text (codes "-a") style.Literal ∷ End block.ItemTerm ∷ Start block.ItemBody ∷ Start block.InlineBlock ∷ Text (codes "A") style.Text ∷ End block.InlineBlock ∷ End block.ItemBody ∷ End block.DefinitionList ∷ End block.Block ∷ Start block.Block ∷ Start block.Section2 ∷ Text (codes "Available options:") style.Emphasis ∷ End block.Section2 ∷ Start block.DefinitionList ∷ Start block.ItemTerm ∷ Text (codes "-a") style.Literal ∷ End block.ItemTerm ∷ Start block.ItemBody ∷ Start block.InlineBlock ∷ Text (codes "A") style.Text ∷ End block.InlineBlock ∷ End block.ItemBody ∷ Start block.ItemTerm ∷ Text (codes "-a") style.Literal ∷ End block.ItemTerm ∷ End block.DefinitionList ∷ End block.Block ∷ End block.InlineBlock ∷ [])
    (Start block.Header ∷ Text (codes "SYNOPSIS") style.Text ∷ End block.Header ∷ Text (codes "app") style.Literal ∷ Text (codes " ") style.Text ∷ Start block.Mono ∷ Text (codes "-a") style.Literal ∷ Text (codes " ") style.Text ∷ Text (codes "-a") style.Literal ∷ Text (codes " ") style.Text ∷ Text (codes "-a") style.Literal ∷ Text (codes " ") style.Text ∷ Text (codes "-a") style.Literal ∷ End block.Mono ∷ Start block.Block ∷ Start block.Section2 ∷ Start block.InlineBlock ∷ Text (codes "G") style.Emphasis ∷ End block.InlineBlock ∷ End block.Section2 ∷ Start block.DefinitionList ∷ Start block.ItemTerm ∷ Text (codes "-a") style.Literal ∷ End block.ItemTerm ∷ Start block.ItemBody ∷ Start block.InlineBlock ∷ Text (codes "A") style.Text ∷ End block.InlineBlock ∷ End block.ItemBody ∷ End block.DefinitionList ∷ End block.Block ∷ Start block.Block ∷ Start block.Section2 ∷ Start block.InlineBlock ∷ Text (codes "G") style.Emphasis ∷ End block.InlineBlock ∷ End block.Section2 ∷ Start block.DefinitionList ∷ Start block.ItemTerm ∷ Text (codes "-a") style.Literal ∷ End block.ItemTerm ∷ Start block.ItemBody ∷ Start block.InlineBlock ∷ Text (codes "A") style.Text ∷ End block.InlineBlock ∷ End block.ItemBody ∷ End block.DefinitionList ∷ End block.Block ∷ Start block.Block ∷ Start block.Section2 ∷ Text (codes "Available options:") style.Emphasis ∷ End block.Section2 ∷ Start block.DefinitionList ∷ Start block.ItemTerm ∷ Text (codes "-a") style.Literal ∷ End block.ItemTerm ∷ Start block.ItemBody ∷ Start block.InlineBlock ∷ Text (codes "A") style.Text ∷ End block.InlineBlock ∷ End block.ItemBody ∷ Start block.ItemTerm ∷ Text (codes "-a") style.Literal ∷ End block.ItemTerm ∷ End block.DefinitionList ∷ End block.Block ∷ [])
unfolding is_uppercase chars in_ranges uppercase_ranges encode
pages_6 = (refl, refl, refl, refl)

pages_7 : Pages (subsection (and_of (tree (item (command (codes "run") (Some 114) (Some (Text (codes "R") style.Text ∷ [])) (and_of (tree (item (flag (short 110) ([]) None (Some (Text (codes "N") style.Text ∷ [])))) (tree (item (command (codes "deep") None None skip (head None None None None skip))) no_trees))) (head (Some (Text (codes "Runs") style.Text ∷ [])) (Some (Text (codes "H") style.Text ∷ [])) (Some (Text (codes "F") style.Text ∷ [])) (Some (Text (codes "own") style.Text ∷ [])) (item (flag (short 104) ([]) None (Some (Text (codes "hh") style.Text ∷ []))))))) (tree (item (command (codes "x") None None skip (head None None None None skip))) no_trees))) ([])) bare skip no_texts
    (Start block.Block ∷ Start block.Section2 ∷ Start block.InlineBlock ∷ End block.InlineBlock ∷ End block.Section2 ∷ Start block.DefinitionList ∷ Start block.ItemTerm ∷ Text (codes "run") style.Literal ∷ Text (codes ", ") style.Text ∷ Text (codes "r") style.Literal ∷ End block.ItemTerm ∷ Start block.ItemBody ∷ Start block.InlineBlock ∷ Text (codes "R") style.Text ∷ End block.InlineBlock ∷ End block.ItemBody ∷ Start block.ItemTerm ∷ Text (codes "x") style.Literal ∷ End block.ItemTerm ∷ End block.DefinitionList ∷ End block.Block ∷ [])
    (Start block.Block ∷ Text (codes "Usage") style.Emphasis ∷ Text (codes ": ") style.Text ∷ Start block.Mono ∷ Text (codes "app") style.Literal ∷ Text (codes " ") style.Text ∷ Text (codes "B b") style.Literal ∷ Text (codes " ") style.Text ∷ Start block.Mono ∷ Text (codes "COMMAND ...") style.Metavar ∷ Text (codes " ") style.Text ∷ Text (codes "COMMAND ...") style.Metavar ∷ End block.Mono ∷ End block.Mono ∷ End block.Block ∷ Start block.Block ∷ Start block.Section2 ∷ Start block.InlineBlock ∷ End block.InlineBlock ∷ End block.Section2 ∷ Start block.DefinitionList ∷ Start block.ItemTerm ∷ Text (codes "run") style.Literal ∷ Text (codes ", ") style.Text ∷ Text (codes "r") style.Literal ∷ End block.ItemTerm ∷ Start block.ItemBody ∷ Start block.InlineBlock ∷ Text (codes "R") style.Text ∷ End block.InlineBlock ∷ End block.ItemBody ∷ Start block.ItemTerm ∷ Text (codes "x") style.Literal ∷ End block.ItemTerm ∷ End block.DefinitionList ∷ End block.Block ∷ [])
    (Start block.Block ∷ Start block.Header ∷ Text (codes "Command summary") style.Text ∷ End block.Header ∷ End block.Block ∷ Start block.ItemBody ∷ Text (42 ∷ 32 ∷ 91 ∷ 96 ∷ 97 ∷ 112 ∷ 112 ∷ 96 ∷ 226 ∷ 134 ∷ 180 ∷ 93 ∷ 40 ∷ 35 ∷ 97 ∷ 112 ∷ 112 ∷ 41 ∷ []) style.Text ∷ End block.ItemBody ∷ Start block.ItemBody ∷ Text (42 ∷ 32 ∷ 91 ∷ 96 ∷ 97 ∷ 112 ∷ 112 ∷ 32 ∷ 114 ∷ 117 ∷ 110 ∷ 96 ∷ 226 ∷ 134 ∷ 180 ∷ 93 ∷ 40 ∷ 35 ∷ 97 ∷ 112 ∷ 112 ∷ 45 ∷ 114 ∷ 117 ∷ 110 ∷ 41 ∷ []) style.Text ∷ End block.ItemBody ∷ Start block.ItemBody ∷ Text (42 ∷ 32 ∷ 91 ∷ 96 ∷ 97 ∷ 112 ∷ 112 ∷ 32 ∷ 114 ∷ 117 ∷ 110 ∷ 32 ∷ 100 ∷ 101 ∷ 101 ∷ 112 ∷ 96 ∷ 226 ∷ 134 ∷ 180 ∷ 93 ∷ 40 ∷ 35 ∷ 97 ∷ 112 ∷ 112 ∷ 45 ∷ 114 ∷ 117 ∷ 110 ∷ 45 ∷ 100 ∷ 101 ∷ 101 ∷ 112 ∷ 41 ∷ []) style.Text ∷ End block.ItemBody ∷ Start block.ItemBody ∷ Text (42 ∷ 32 ∷ 91 ∷ 96 ∷ 97 ∷ 112 ∷ 112 ∷ 32 ∷ 120 ∷ 96 ∷ 226 ∷ 134 ∷ 180 ∷ 93 ∷ 40 ∷ 35 ∷ 97 ∷ 112 ∷ 112 ∷ 45 ∷ 120 ∷ 41 ∷ []) style.Text ∷ End block.ItemBody ∷ Start block.Header ∷ Text (codes "app") style.Text ∷ End block.Header ∷ Start block.InlineBlock ∷ Start block.Block ∷ Text (codes "Usage") style.Emphasis ∷ Text (codes ": ") style.Text ∷ Start block.Mono ∷ Text (codes "app") style.Literal ∷ Text (codes " ") style.Text ∷ Start block.Mono ∷ Text (codes "COMMAND ...") style.Metavar ∷ Text (codes " ") style.Text ∷ Text (codes "COMMAND ...") style.Metavar ∷ End block.Mono ∷ End block.Mono ∷ End block.Block ∷ Start block.Block ∷ Start block.Section2 ∷ Start block.InlineBlock ∷ End block.InlineBlock ∷ End block.Section2 ∷ Start block.DefinitionList ∷ Start block.ItemTerm ∷ Text (codes "run") style.Literal ∷ Text (codes ", ") style.Text ∷ Text (codes "r") style.Literal ∷ End block.ItemTerm ∷ Start block.ItemBody ∷ Start block.InlineBlock ∷ Text (codes "R") style.Text ∷ End block.InlineBlock ∷ End block.ItemBody ∷ Start block.ItemTerm ∷ Text (codes "x") style.Literal ∷ End block.ItemTerm ∷ End block.DefinitionList ∷ End block.Block ∷ End block.InlineBlock ∷ Start block.Header ∷ Text (codes "app run") style.Text ∷ End block.Header ∷ Start block.InlineBlock ∷ Start block.Block ∷ Start block.InlineBlock ∷ Text (codes "Runs") style.Text ∷ End block.InlineBlock ∷ End block.Block ∷ Start block.Block ∷ Start block.InlineBlock ∷ Text (codes "own") style.Text ∷ End block.InlineBlock ∷ End block.Block ∷ Start block.Block ∷ Start block.InlineBlock ∷ Text (codes "H") style.Text ∷ End block.InlineBlock ∷ End block.Block ∷ Start block.Block ∷ Start block.Section2 ∷ Text (codes "Available options:") style.Emphasis ∷ End block.Section2 ∷ Start block.DefinitionList ∷ Start block.ItemTerm ∷ Text (codes "-n") style.Literal ∷ End block.ItemTerm ∷ Start block.ItemBody ∷ Start block.InlineBlock ∷ Text (codes "N") style.Text ∷ End block.InlineBlock ∷ End block.ItemBody ∷ Start block.ItemTerm ∷ Text (codes "-h") style.Literal ∷ End block.ItemTerm ∷ Start block.ItemBody ∷ Start block.InlineBlock ∷ Text (codes "hh") style.Text ∷ End block.InlineBlock ∷ End block.ItemBody ∷ End block.DefinitionList ∷ End block.Block ∷ Start block.Block ∷ Start block.Section2 ∷ Text (codes "Available commands:") style.Emphasis ∷ End block.Section2 ∷ Start block.DefinitionList ∷ Start block.ItemTerm ∷ Text (codes "deep") style.Literal ∷ End block.ItemTerm ∷ End block.DefinitionList ∷ End block.Block ∷ Start block.Block ∷ Start block.InlineBlock ∷ Text (codes "F") style.Text ∷ End block.InlineBlock ∷ End block.Block ∷ End block.InlineBlock ∷ Start block.Header ∷ Text (codes "app run deep") style.Text ∷ End block.Header ∷ Start block.InlineBlock ∷ Start block.Block ∷ Text (codes "Usage") style.Emphasis ∷ Text (codes ": ") style.Text ∷ Start block.Mono ∷ Text (codes "app") style.Literal ∷ Text (codes " ") style.Text ∷ Text (codes "run") style.Literal ∷ Text (codes " ") style.Text ∷ Text (codes "deep") style.Literal ∷ Text (codes " ") style.Text ∷ Start block.Mono ∷ End block.Mono ∷ End block.Mono ∷ End block.Block ∷ End block.InlineBlock ∷ Start block.Header ∷ Text (codes "app x") style.Text ∷ End block.Header ∷ Start block.InlineBlock ∷ Start block.Block ∷ Text (codes "Usage") style.Emphasis ∷ Text (codes ": ") style.Text ∷ Start block.Mono ∷ Text (codes "app") style.Literal ∷ Text (codes " ") style.Text ∷ Text (codes "x") style.Literal ∷ Text (codes " ") style.Text ∷ Start block.Mono ∷ End block.Mono ∷ End block.Mono ∷ End block.Block ∷ End block.InlineBlock ∷ [])
    (Start block.Block ∷ Start block.Header ∷ Text (codes "SYNOPSIS") style.Text ∷ End block.Header ∷ End block.Block ∷ Start block.Meta ∷ Text (codes "app") style.Literal ∷ Text (codes " ") style.Text ∷ Start block.Mono ∷ Text (codes "COMMAND ...") style.Metavar ∷ Text (codes " ") style.Text ∷ Text (codes "COMMAND ...") style.Metavar ∷ End block.Mono ∷ Text (codes "\n") style.Text ∷ Text (codes "app") style.Literal ∷ Text (codes " ") style.Text ∷ Text (codes "run") style.Literal ∷ Text (codes " ") style.Text ∷ Start block.Mono ∷ Text (codes "-n") style.Literal ∷ Text (codes " ") style.Text ∷ Text (codes "COMMAND ...") style.Metavar ∷ End block.Mono ∷ Text (codes "\n") style.Text ∷ Text (codes "app") style.Literal ∷ Text (codes " ") style.Text ∷ Text (codes "run") style.Literal ∷ Text (codes " ") style.Text ∷ Text (codes "deep") style.Literal ∷ Text (codes " ") style.Text ∷ Start block.Mono ∷ End block.Mono ∷ Text (codes "\n") style.Text ∷ Text (codes "app") style.Literal ∷ Text (codes " ") style.Text ∷ Text (codes "x") style.Literal ∷ Text (codes " ") style.Text ∷ Start block.Mono ∷ End block.Mono ∷ Text (codes "\n") style.Text ∷ End block.Meta ∷ Start block.Header ∷ Text (codes "app") style.Literal ∷ Text (codes " ") style.Text ∷ End block.Header ∷ Start block.Header ∷ Text (codes "SYNOPSIS") style.Text ∷ End block.Header ∷ Text (codes "app") style.Literal ∷ Text (codes " ") style.Text ∷ Start block.Mono ∷ Text (codes "COMMAND ...") style.Metavar ∷ Text (codes " ") style.Text ∷ Text (codes "COMMAND ...") style.Metavar ∷ End block.Mono ∷ Start block.Block ∷ Start block.Section2 ∷ Start block.InlineBlock ∷ End block.InlineBlock ∷ End block.Section2 ∷ Start block.DefinitionList ∷ Start block.ItemTerm ∷ Text (codes "run") style.Literal ∷ Text (codes ", ") style.Text ∷ Text (codes "r") style.Literal ∷ End block.ItemTerm ∷ Start block.ItemBody ∷ Start block.InlineBlock ∷ Text (codes "R") style.Text ∷ End block.InlineBlock ∷ End block.ItemBody ∷ Start block.ItemTerm ∷ Text (codes "x") style.Literal ∷ End block.ItemTerm ∷ End block.DefinitionList ∷ End block.Block ∷ Start block.Header ∷ Text (codes "app") style.Literal ∷ Text (codes " ") style.Text ∷ Text (codes "run") style.Literal ∷ Text (codes " ") style.Text ∷ End block.Header ∷ Start block.Header ∷ Text (codes "NAME") style.Text ∷ End block.Header ∷ Text (codes "app - ") style.Text ∷ Start block.InlineBlock ∷ Text (codes "Runs") style.Text ∷ End block.InlineBlock ∷ Start block.Header ∷ Text (codes "SYNOPSIS") style.Text ∷ End block.Header ∷ Text (codes "app") style.Literal ∷ Text (codes " ") style.Text ∷ Text (codes "run") style.Literal ∷ Text (codes " ") style.Text ∷ Start block.Mono ∷ Text (codes "-n") style.Literal ∷ Text (codes " ") style.Text ∷ Text (codes "COMMAND ...") style.Metavar ∷ End block.Mono ∷ Start block.Block ∷ Start block.InlineBlock ∷ Text (codes "H") style.Text ∷ End block.InlineBlock ∷ End block.Block ∷ Start block.Block ∷ Start block.Section2 ∷ Text (codes "Available options:") style.Emphasis ∷ End block.Section2 ∷ Start block.DefinitionList ∷ Start block.ItemTerm ∷ Text (codes "-n") style.Literal ∷ End block.ItemTerm ∷ Start block.ItemBody ∷ Start block.InlineBlock ∷ Text (codes "N") style.Text ∷ End block.InlineBlock ∷ End block.ItemBody ∷ Start block.ItemTerm ∷ Text (codes "-h") style.Literal ∷ End block.ItemTerm ∷ Start block.ItemBody ∷ Start block.InlineBlock ∷ Text (codes "hh") style.Text ∷ End block.InlineBlock ∷ End block.ItemBody ∷ End block.DefinitionList ∷ End block.Block ∷ Start block.Block ∷ Start block.Section2 ∷ Text (codes "Available commands:") style.Emphasis ∷ End block.Section2 ∷ Start block.DefinitionList ∷ Start block.ItemTerm ∷ Text (codes "deep") style.Literal ∷ End block.ItemTerm ∷ End block.DefinitionList ∷ End block.Block ∷ Start block.Block ∷ Start block.InlineBlock ∷ Text (codes "F") style.Text ∷ End block.InlineBlock ∷ End block.Block ∷ Start block.Header ∷ Text (codes "app") style.Literal ∷ Text (codes " ") style.Text ∷ Text (codes "run") style.Literal ∷ Text (codes " ") style.Text ∷ Text (codes "deep") style.Literal ∷ Text (codes " ") style.Text ∷ End block.Header ∷ Start block.Header ∷ Text (codes "SYNOPSIS") style.Text ∷ End block.Header ∷ Text (codes "app") style.Literal ∷ Text (codes " ") style.Text ∷ Text (codes "run") style.Literal ∷ Text (codes " ") style.Text ∷ Text (codes "deep") style.Literal ∷ Text (codes " ") style.Text ∷ Start block.Mono ∷ End block.Mono ∷ Start block.Header ∷ Text (codes "app") style.Literal ∷ Text (codes " ") style.Text ∷ Text (codes "x") style.Literal ∷ Text (codes " ") style.Text ∷ End block.Header ∷ Start block.Header ∷ Text (codes "SYNOPSIS") style.Text ∷ End block.Header ∷ Text (codes "app") style.Literal ∷ Text (codes " ") style.Text ∷ Text (codes "x") style.Literal ∷ Text (codes " ") style.Text ∷ Start block.Mono ∷ End block.Mono ∷ [])
unfolding is_uppercase chars in_ranges uppercase_ranges encode
pages_7 = (refl, refl, refl, refl)

pages_8 : Pages (and_of (tree (item (flag (short 118) ([]) None None)) (tree (item (command (codes "Get Up") None (Some (Text (codes "G") style.Text ∷ [])) (item (command (codes "In") None None (item (flag (short 105) ([]) None None)) (head None None None None skip))) (head None None None None skip))) no_trees))) (head (Some (Text (codes "About") style.Text ∷ [])) (Some (Text (codes "Head") style.Text ∷ [])) (Some (Text (codes "Foot") style.Text ∷ [])) None) (item (flag (long (codes "help")) ([]) None (Some (Text (codes "Helps") style.Text ∷ [])))) no_texts
    (Start block.Block ∷ Start block.Section2 ∷ Text (codes "Available options:") style.Emphasis ∷ End block.Section2 ∷ Start block.DefinitionList ∷ Start block.ItemTerm ∷ Text (codes "-v") style.Literal ∷ End block.ItemTerm ∷ End block.DefinitionList ∷ End block.Block ∷ Start block.Block ∷ Start block.Section2 ∷ Text (codes "Available commands:") style.Emphasis ∷ End block.Section2 ∷ Start block.DefinitionList ∷ Start block.ItemTerm ∷ Text (codes "Get Up") style.Literal ∷ End block.ItemTerm ∷ Start block.ItemBody ∷ Start block.InlineBlock ∷ Text (codes "G") style.Text ∷ End block.InlineBlock ∷ End block.ItemBody ∷ End block.DefinitionList ∷ End block.Block ∷ [])
    (Start block.Block ∷ Start block.InlineBlock ∷ Text (codes "About") style.Text ∷ End block.InlineBlock ∷ End block.Block ∷ Start block.Block ∷ Text (codes "Usage") style.Emphasis ∷ Text (codes ": ") style.Text ∷ Start block.Mono ∷ Text (codes "app") style.Literal ∷ Text (codes " ") style.Text ∷ Text (codes "B b") style.Literal ∷ Text (codes " ") style.Text ∷ Start block.Mono ∷ Text (codes "-v") style.Literal ∷ Text (codes " ") style.Text ∷ Text (codes "COMMAND ...") style.Metavar ∷ End block.Mono ∷ End block.Mono ∷ End block.Block ∷ Start block.Block ∷ Start block.InlineBlock ∷ Text (codes "Head") style.Text ∷ End block.InlineBlock ∷ End block.Block ∷ Start block.Block ∷ Start block.Section2 ∷ Text (codes "Available options:") style.Emphasis ∷ End block.Section2 ∷ Start block.DefinitionList ∷ Start block.ItemTerm ∷ Text (codes "-v") style.Literal ∷ End block.ItemTerm ∷ Start block.ItemTerm ∷ Text (codes "    --help") style.Literal ∷ End block.ItemTerm ∷ Start block.ItemBody ∷ Start block.InlineBlock ∷ Text (codes "Helps") style.Text ∷ End block.InlineBlock ∷ End block.ItemBody ∷ End block.DefinitionList ∷ End block.Block ∷ Start block.Block ∷ Start block.Section2 ∷ Text (codes "Available commands:") style.Emphasis ∷ End block.Section2 ∷ Start block.DefinitionList ∷ Start block.ItemTerm ∷ Text (codes "Get Up") style.Literal ∷ End block.ItemTerm ∷ Start block.ItemBody ∷ Start block.InlineBlock ∷ Text (codes "G") style.Text ∷ End block.InlineBlock ∷ End block.ItemBody ∷ End block.DefinitionList ∷ End block.Block ∷ Start block.Block ∷ Start block.InlineBlock ∷ Text (codes "Foot") style.Text ∷ End block.InlineBlock ∷ End block.Block ∷ [])
    (Start block.Block ∷ Start block.Header ∷ Text (codes "Command summary") style.Text ∷ End block.Header ∷ End block.Block ∷ Start block.ItemBody ∷ Text (42 ∷ 32 ∷ 91 ∷ 96 ∷ 97 ∷ 112 ∷ 112 ∷ 96 ∷ 226 ∷ 134 ∷ 180 ∷ 93 ∷ 40 ∷ 35 ∷ 97 ∷ 112 ∷ 112 ∷ 41 ∷ []) style.Text ∷ End block.ItemBody ∷ Start block.ItemBody ∷ Text (42 ∷ 32 ∷ 91 ∷ 96 ∷ 97 ∷ 112 ∷ 112 ∷ 32 ∷ 71 ∷ 101 ∷ 116 ∷ 32 ∷ 85 ∷ 112 ∷ 96 ∷ 226 ∷ 134 ∷ 180 ∷ 93 ∷ 40 ∷ 35 ∷ 97 ∷ 112 ∷ 112 ∷ 45 ∷ 103 ∷ 101 ∷ 116 ∷ 45 ∷ 117 ∷ 112 ∷ 41 ∷ []) style.Text ∷ End block.ItemBody ∷ Start block.ItemBody ∷ Text (42 ∷ 32 ∷ 91 ∷ 96 ∷ 97 ∷ 112 ∷ 112 ∷ 32 ∷ 71 ∷ 101 ∷ 116 ∷ 32 ∷ 85 ∷ 112 ∷ 32 ∷ 73 ∷ 110 ∷ 96 ∷ 226 ∷ 134 ∷ 180 ∷ 93 ∷ 40 ∷ 35 ∷ 97 ∷ 112 ∷ 112 ∷ 45 ∷ 103 ∷ 101 ∷ 116 ∷ 45 ∷ 117 ∷ 112 ∷ 45 ∷ 105 ∷ 110 ∷ 41 ∷ []) style.Text ∷ End block.ItemBody ∷ Start block.Header ∷ Text (codes "app") style.Text ∷ End block.Header ∷ Start block.InlineBlock ∷ Start block.Block ∷ Start block.InlineBlock ∷ Text (codes "About") style.Text ∷ End block.InlineBlock ∷ End block.Block ∷ Start block.Block ∷ Text (codes "Usage") style.Emphasis ∷ Text (codes ": ") style.Text ∷ Start block.Mono ∷ Text (codes "app") style.Literal ∷ Text (codes " ") style.Text ∷ Start block.Mono ∷ Text (codes "-v") style.Literal ∷ Text (codes " ") style.Text ∷ Text (codes "COMMAND ...") style.Metavar ∷ End block.Mono ∷ End block.Mono ∷ End block.Block ∷ Start block.Block ∷ Start block.InlineBlock ∷ Text (codes "Head") style.Text ∷ End block.InlineBlock ∷ End block.Block ∷ Start block.Block ∷ Start block.Section2 ∷ Text (codes "Available options:") style.Emphasis ∷ End block.Section2 ∷ Start block.DefinitionList ∷ Start block.ItemTerm ∷ Text (codes "-v") style.Literal ∷ End block.ItemTerm ∷ Start block.ItemTerm ∷ Text (codes "    --help") style.Literal ∷ End block.ItemTerm ∷ Start block.ItemBody ∷ Start block.InlineBlock ∷ Text (codes "Helps") style.Text ∷ End block.InlineBlock ∷ End block.ItemBody ∷ End block.DefinitionList ∷ End block.Block ∷ Start block.Block ∷ Start block.Section2 ∷ Text (codes "Available commands:") style.Emphasis ∷ End block.Section2 ∷ Start block.DefinitionList ∷ Start block.ItemTerm ∷ Text (codes "Get Up") style.Literal ∷ End block.ItemTerm ∷ Start block.ItemBody ∷ Start block.InlineBlock ∷ Text (codes "G") style.Text ∷ End block.InlineBlock ∷ End block.ItemBody ∷ End block.DefinitionList ∷ End block.Block ∷ Start block.Block ∷ Start block.InlineBlock ∷ Text (codes "Foot") style.Text ∷ End block.InlineBlock ∷ End block.Block ∷ End block.InlineBlock ∷ Start block.Header ∷ Text (codes "app Get Up") style.Text ∷ End block.Header ∷ Start block.InlineBlock ∷ Start block.Block ∷ Text (codes "Usage") style.Emphasis ∷ Text (codes ": ") style.Text ∷ Start block.Mono ∷ Text (codes "app") style.Literal ∷ Text (codes " ") style.Text ∷ Text (codes "Get Up") style.Literal ∷ Text (codes " ") style.Text ∷ Start block.Mono ∷ Text (codes "COMMAND ...") style.Metavar ∷ End block.Mono ∷ End block.Mono ∷ End block.Block ∷ Start block.Block ∷ Start block.Section2 ∷ Text (codes "Available commands:") style.Emphasis ∷ End block.Section2 ∷ Start block.DefinitionList ∷ Start block.ItemTerm ∷ Text (codes "In") style.Literal ∷ End block.ItemTerm ∷ End block.DefinitionList ∷ End block.Block ∷ End block.InlineBlock ∷ Start block.Header ∷ Text (codes "app Get Up In") style.Text ∷ End block.Header ∷ Start block.InlineBlock ∷ Start block.Block ∷ Text (codes "Usage") style.Emphasis ∷ Text (codes ": ") style.Text ∷ Start block.Mono ∷ Text (codes "app") style.Literal ∷ Text (codes " ") style.Text ∷ Text (codes "Get Up") style.Literal ∷ Text (codes " ") style.Text ∷ Text (codes "In") style.Literal ∷ Text (codes " ") style.Text ∷ Start block.Mono ∷ Text (codes "-i") style.Literal ∷ End block.Mono ∷ End block.Mono ∷ End block.Block ∷ Start block.Block ∷ Start block.Section2 ∷ Text (codes "Available options:") style.Emphasis ∷ End block.Section2 ∷ Start block.DefinitionList ∷ Start block.ItemTerm ∷ Text (codes "-i") style.Literal ∷ End block.ItemTerm ∷ End block.DefinitionList ∷ End block.Block ∷ End block.InlineBlock ∷ [])
    (Start block.Block ∷ Start block.Header ∷ Text (codes "SYNOPSIS") style.Text ∷ End block.Header ∷ End block.Block ∷ Start block.Meta ∷ Text (codes "app") style.Literal ∷ Text (codes " ") style.Text ∷ Start block.Mono ∷ Text (codes "-v") style.Literal ∷ Text (codes " ") style.Text ∷ Text (codes "COMMAND ...") style.Metavar ∷ End block.Mono ∷ Text (codes "\n") style.Text ∷ Text (codes "app") style.Literal ∷ Text (codes " ") style.Text ∷ Text (codes "Get Up") style.Literal ∷ Text (codes " ") style.Text ∷ Start block.Mono ∷ Text (codes "COMMAND ...") style.Metavar ∷ End block.Mono ∷ Text (codes "\n") style.Text ∷ Text (codes "app") style.Literal ∷ Text (codes " ") style.Text ∷ Text (codes "Get Up") style.Literal ∷ Text (codes " ") style.Text ∷ Text (codes "In") style.Literal ∷ Text (codes " ") style.Text ∷ Start block.Mono ∷ Text (codes "-i") style.Literal ∷ End block.Mono ∷ Text (codes "\n") style.Text ∷ End block.Meta ∷ Start block.Header ∷ Text (codes "app") style.Literal ∷ Text (codes " ") style.Text ∷ End block.Header ∷ Start block.Header ∷ Text (codes "NAME") style.Text ∷ End block.Header ∷ Text (codes "app - ") style.Text ∷ Start block.InlineBlock ∷ Text (codes "About") style.Text ∷ End block.InlineBlock ∷ Start block.Header ∷ Text (codes "SYNOPSIS") style.Text ∷ End block.Header ∷ Text (codes "app") style.Literal ∷ Text (codes " ") style.Text ∷ Start block.Mono ∷ Text (codes "-v") style.Literal ∷ Text (codes " ") style.Text ∷ Text (codes "COMMAND ...") style.Metavar ∷ End block.Mono ∷ Start block.Block ∷ Start block.InlineBlock ∷ Text (codes "Head") style.Text ∷ End block.InlineBlock ∷ End block.Block ∷ Start block.Block ∷ Start block.Section2 ∷ Text (codes "Available options:") style.Emphasis ∷ End block.Section2 ∷ Start block.DefinitionList ∷ Start block.ItemTerm ∷ Text (codes "-v") style.Literal ∷ End block.ItemTerm ∷ Start block.ItemTerm ∷ Text (codes "    --help") style.Literal ∷ End block.ItemTerm ∷ Start block.ItemBody ∷ Start block.InlineBlock ∷ Text (codes "Helps") style.Text ∷ End block.InlineBlock ∷ End block.ItemBody ∷ End block.DefinitionList ∷ End block.Block ∷ Start block.Block ∷ Start block.Section2 ∷ Text (codes "Available commands:") style.Emphasis ∷ End block.Section2 ∷ Start block.DefinitionList ∷ Start block.ItemTerm ∷ Text (codes "Get Up") style.Literal ∷ End block.ItemTerm ∷ Start block.ItemBody ∷ Start block.InlineBlock ∷ Text (codes "G") style.Text ∷ End block.InlineBlock ∷ End block.ItemBody ∷ End block.DefinitionList ∷ End block.Block ∷ Start block.Block ∷ Start block.InlineBlock ∷ Text (codes "Foot") style.Text ∷ End block.InlineBlock ∷ End block.Block ∷ Start block.Header ∷ Text (codes "app") style.Literal ∷ Text (codes " ") style.Text ∷ Text (codes "Get Up") style.Literal ∷ Text (codes " ") style.Text ∷ End block.Header ∷ Start block.Header ∷ Text (codes "SYNOPSIS") style.Text ∷ End block.Header ∷ Text (codes "app") style.Literal ∷ Text (codes " ") style.Text ∷ Text (codes "Get Up") style.Literal ∷ Text (codes " ") style.Text ∷ Start block.Mono ∷ Text (codes "COMMAND ...") style.Metavar ∷ End block.Mono ∷ Start block.Block ∷ Start block.Section2 ∷ Text (codes "Available commands:") style.Emphasis ∷ End block.Section2 ∷ Start block.DefinitionList ∷ Start block.ItemTerm ∷ Text (codes "In") style.Literal ∷ End block.ItemTerm ∷ End block.DefinitionList ∷ End block.Block ∷ Start block.Header ∷ Text (codes "app") style.Literal ∷ Text (codes " ") style.Text ∷ Text (codes "Get Up") style.Literal ∷ Text (codes " ") style.Text ∷ Text (codes "In") style.Literal ∷ Text (codes " ") style.Text ∷ End block.Header ∷ Start block.Header ∷ Text (codes "SYNOPSIS") style.Text ∷ End block.Header ∷ Text (codes "app") style.Literal ∷ Text (codes " ") style.Text ∷ Text (codes "Get Up") style.Literal ∷ Text (codes " ") style.Text ∷ Text (codes "In") style.Literal ∷ Text (codes " ") style.Text ∷ Start block.Mono ∷ Text (codes "-i") style.Literal ∷ End block.Mono ∷ Start block.Block ∷ Start block.Section2 ∷ Text (codes "Available options:") style.Emphasis ∷ End block.Section2 ∷ Start block.DefinitionList ∷ Start block.ItemTerm ∷ Text (codes "-i") style.Literal ∷ End block.ItemTerm ∷ End block.DefinitionList ∷ End block.Block ∷ [])
unfolding is_uppercase chars in_ranges uppercase_ranges encode
pages_8 = (refl, refl, refl, refl)

pages_9 : Pages (and_of (tree (adjacent (item (flag (short 97) ([]) None (Some (Text (codes "A") style.Text ∷ []))))) (tree (subsection (suffix (adjacent (item (flag (short 98) ([]) None None))) (Text (codes "N") style.Text ∷ [])) (Text (codes "e") style.Emphasis ∷ [])) no_trees))) bare (item (flag (short 97) ([]) None (Some (Text (codes "A") style.Text ∷ [])))) no_texts
    (Start block.Block ∷ Start block.Section2 ∷ Start block.InlineBlock ∷ Text (codes "e") style.Emphasis ∷ End block.InlineBlock ∷ End block.Section2 ∷ Start block.DefinitionList ∷ Start block.Section4 ∷ Start block.Mono ∷ Text (codes "-b") style.Literal ∷ End block.Mono ∷ End block.Section4 ∷ Start block.Block ∷ End block.Block ∷ Start block.ItemTerm ∷ End block.ItemTerm ∷ Start block.ItemBody ∷ Start block.InlineBlock ∷ Text (codes "N") style.Text ∷ End block.InlineBlock ∷ End block.ItemBody ∷ End block.DefinitionList ∷ End block.Block ∷ Start block.Block ∷ Start block.Section2 ∷ Text (codes "Available options:") style.Emphasis ∷ End block.Section2 ∷ Start block.DefinitionList ∷ Start block.Section4 ∷ Start block.Mono ∷ Text (codes "-a") style.Literal ∷ End block.Mono ∷ End block.Section4 ∷ Start block.ItemTerm ∷ Text (codes "-a") style.Literal ∷ End block.ItemTerm ∷ Start block.ItemBody ∷ Start block.InlineBlock ∷ Text (codes "A") style.Text ∷ End block.InlineBlock ∷ End block.ItemBody ∷ Start block.Block ∷ End block.Block ∷ End block.DefinitionList ∷ End block.Block ∷ [])
    (Start block.Block ∷ Text (codes "Usage") style.Emphasis ∷ Text (codes ": ") style.Text ∷ Start block.Mono ∷ Text (codes "app") style.Literal ∷ Text (codes " ") style.Text ∷ Text (codes "B b") style.Literal ∷ Text (codes " ") style.Text ∷ Start block.Mono ∷ Text (codes "-a") style.Literal ∷ Text (codes " ") style.Text ∷ Text (codes "-b") style.Literal ∷ End block.Mono ∷ End block.Mono ∷ End block.Block ∷ Start block.Block ∷ Start block.Section2 ∷ Start block.InlineBlock ∷ Text (codes "e") style.Emphasis ∷ End block.InlineBlock ∷ End block.Section2 ∷ Start block.DefinitionList ∷ Start block.Section4 ∷ Start block.Mono ∷ Text (codes "-b") style.Literal ∷ End block.Mono ∷ End block.Section4 ∷ Start block.Block ∷ End block.Block ∷ Start block.ItemTerm ∷ End block.ItemTerm ∷ Start block.ItemBody ∷ Start block.InlineBlock ∷ Text (codes "N") style.Text ∷ End block.InlineBlock ∷ End block.ItemBody ∷ End block.DefinitionList ∷ End block.Block ∷ Start block.Block ∷ Start block.Section2 ∷ Text (codes "Available options:") style.Emphasis ∷ End block.Section2 ∷ Start block.DefinitionList ∷ Start block.Section4 ∷ Start block.Mono ∷ Text (codes "-a") style.Literal ∷ End block.Mono ∷ End block.Section4 ∷ Start block.ItemTerm ∷ Text (codes "-a") style.Literal ∷ End block.ItemTerm ∷ Start block.ItemBody ∷ Start block.InlineBlock ∷ Text (codes "A") style.Text ∷ End block.InlineBlock ∷ End block.ItemBody ∷ Start block.Block ∷ End block.Block ∷ End block.DefinitionList ∷ End block.Block ∷ [])
    (Start block.Header ∷ Text (codes "app") style.Text ∷ End block.Header ∷ Start block.InlineBlock ∷ Start block.Block ∷ Text (codes "Usage") style.Emphasis ∷ Text (codes ": ") style.Text ∷ Start block.Mono ∷ Text (codes "app") style.Literal ∷ Text (codes " ") style.Text ∷ Start block.Mono ∷ Text (codes "-a") style.Literal ∷ Text (codes " ") style.Text ∷ Text (codes "-b") style.Literal ∷ End block.Mono ∷ End block.Mono ∷ End block.Block ∷ Start block.Block ∷ Start block.Section2 ∷ Start block.InlineBlock ∷ Text (codes "e") style.Emphasis ∷ End block.InlineBlock ∷ End block.Section2 ∷ Start block.DefinitionList ∷ Start block.Section4 ∷ Start block.Mono ∷ Text (codes "-b") style.Literal ∷ End block.Mono ∷ End block.Section4 ∷ Start block.Block ∷ End block.Block ∷ Start block.ItemTerm ∷ End block.ItemTerm ∷ Start block.ItemBody ∷ Start block.InlineBlock ∷ Text (codes "N") style.Text ∷ End block.InlineBlock ∷ End block.ItemBody ∷ End block.DefinitionList ∷ End block.Block ∷ Start block.Block ∷ Start block.Section2 ∷ Text (codes "Available options:") style.Emphasis ∷ End block.Section2 ∷ Start block.DefinitionList ∷ Start block.Section4 ∷ Start block.Mono ∷ Text (codes "-a") style.Literal ∷ End block.Mono ∷ End block.Section4 ∷ Start block.ItemTerm ∷ Text (codes "-a") style.Literal ∷ End block.ItemTerm ∷ Start block.ItemBody ∷ Start block.InlineBlock ∷ Text (codes "A") style.Text ∷ End block.InlineBlock ∷ End block.ItemBody ∷ Start block.Block ∷ End block.Block ∷ End block.DefinitionList ∷ End block.Block ∷ End block.InlineBlock ∷ [])
    (Start block.Header ∷ Text (codes "SYNOPSIS") style.Text ∷ End block.Header ∷ Text (codes "app") style.Literal ∷ Text (codes " ") style.Text ∷ Start block.Mono ∷ Text (codes "-a") style.Literal ∷ Text (codes " ") style.Text ∷ Text (codes "-b") style.Literal ∷ End block.Mono ∷ Start block.Block ∷ Start block.Section2 ∷ Start block.InlineBlock ∷ Text (codes "e") style.Emphasis ∷ End block.InlineBlock ∷ End block.Section2 ∷ Start block.DefinitionList ∷ Start block.Section4 ∷ Start block.Mono ∷ Text (codes "-b") style.Literal ∷ End block.Mono ∷ End block.Section4 ∷ Start block.Block ∷ End block.Block ∷ Start block.ItemTerm ∷ End block.ItemTerm ∷ Start block.ItemBody ∷ Start block.InlineBlock ∷ Text (codes "N") style.Text ∷ End block.InlineBlock ∷ End block.ItemBody ∷ End block.DefinitionList ∷ End block.Block ∷ Start block.Block ∷ Start block.Section2 ∷ Text (codes "Available options:") style.Emphasis ∷ End block.Section2 ∷ Start block.DefinitionList ∷ Start block.Section4 ∷ Start block.Mono ∷ Text (codes "-a") style.Literal ∷ End block.Mono ∷ End block.Section4 ∷ Start block.ItemTerm ∷ Text (codes "-a") style.Literal ∷ End block.ItemTerm ∷ Start block.ItemBody ∷ Start block.InlineBlock ∷ Text (codes "A") style.Text ∷ End block.InlineBlock ∷ End block.ItemBody ∷ Start block.Block ∷ End block.Block ∷ End block.DefinitionList ∷ End block.Block ∷ [])
unfolding is_uppercase chars in_ranges uppercase_ranges encode
pages_9 = (refl, refl, refl, refl)

pages_10 : Pages (adjacent (adjacent (and_of (tree (item (flag (short 97) ([]) None (Some (Text (codes "A") style.Text ∷ [])))) (tree (item (positional (codes "X") (Some (Text (codes "x") style.Text ∷ [])))) no_trees))))) bare skip no_texts
    (Start block.Block ∷ Start block.Section2 ∷ Text (codes "Available options:") style.Emphasis ∷ End block.Section2 ∷ Start block.DefinitionList ∷ Start block.Section4 ∷ Start block.Mono ∷ Text (codes "-a") style.Literal ∷ Text (codes " ") style.Text ∷ Text (codes "X") style.Metavar ∷ End block.Mono ∷ End block.Section4 ∷ Start block.Section4 ∷ Start block.Mono ∷ Text (codes "-a") style.Literal ∷ Text (codes " ") style.Text ∷ Text (codes "X") style.Metavar ∷ End block.Mono ∷ End block.Section4 ∷ Start block.ItemTerm ∷ Text (codes "-a") style.Literal ∷ End block.ItemTerm ∷ Start block.ItemBody ∷ Start block.InlineBlock ∷ Text (codes "A") style.Text ∷ End block.InlineBlock ∷ End block.ItemBody ∷ Start block.ItemTerm ∷ Text (codes "X") style.Metavar ∷ End block.ItemTerm ∷ Start block.ItemBody ∷ Start block.InlineBlock ∷ Text (codes "x") style.Text ∷ End block.InlineBlock ∷ End block.ItemBody ∷ Start block.Block ∷ End block.Block ∷ Start block.Block ∷ End block.Block ∷ End block.DefinitionList ∷ End block.Block ∷ [])
    (Start block.Block ∷ Text (codes "Usage") style.Emphasis ∷ Text (codes ": ") style.Text ∷ Start block.Mono ∷ Text (codes "app") style.Literal ∷ Text (codes " ") style.Text ∷ Text (codes "B b") style.Literal ∷ Text (codes " ") style.Text ∷ Start block.Mono ∷ Text (codes "-a") style.Literal ∷ Text (codes " ") style.Text ∷ Text (codes "X") style.Metavar ∷ End block.Mono ∷ End block.Mono ∷ End block.Block ∷ Start block.Block ∷ Start block.Section2 ∷ Text (codes "Available options:") style.Emphasis ∷ End block.Section2 ∷ Start block.DefinitionList ∷ Start block.Section4 ∷ Start block.Mono ∷ Text (codes "-a") style.Literal ∷ Text (codes " ") style.Text ∷ Text (codes "X") style.Metavar ∷ End block.Mono ∷ End block.Section4 ∷ Start block.Section4 ∷ Start block.Mono ∷ Text (codes "-a") style.Literal ∷ Text (codes " ") style.Text ∷ Text (codes "X") style.Metavar ∷ End block.Mono ∷ End block.Section4 ∷ Start block.ItemTerm ∷ Text (codes "-a") style.Literal ∷ End block.ItemTerm ∷ Start block.ItemBody ∷ Start block.InlineBlock ∷ Text (codes "A") style.Text ∷ End block.InlineBlock ∷ End block.ItemBody ∷ Start block.ItemTerm ∷ Text (codes "X") style.Metavar ∷ End block.ItemTerm ∷ Start block.ItemBody ∷ Start block.InlineBlock ∷ Text (codes "x") style.Text ∷ End block.InlineBlock ∷ End block.ItemBody ∷ Start block.Block ∷ End block.Block ∷ Start block.Block ∷ End block.Block ∷ End block.DefinitionList ∷ End block.Block ∷ [])
    (Start block.Header ∷ Text (codes "app") style.Text ∷ End block.Header ∷ Start block.InlineBlock ∷ Start block.Block ∷ Text (codes "Usage") style.Emphasis ∷ Text (codes ": ") style.Text ∷ Start block.Mono ∷ Text (codes "app") style.Literal ∷ Text (codes " ") style.Text ∷ Start block.Mono ∷ Text (codes "-a") style.Literal ∷ Text (codes " ") style.Text ∷ Text (codes "X") style.Metavar ∷ End block.Mono ∷ End block.Mono ∷ End block.Block ∷ Start block.Block ∷ Start block.Section2 ∷ Text (codes "Available options:") style.Emphasis ∷ End block.Section2 ∷ Start block.DefinitionList ∷ Start block.Section4 ∷ Start block.Mono ∷ Text (codes "-a") style.Literal ∷ Text (codes " ") style.Text ∷ Text (codes "X") style.Metavar ∷ End block.Mono ∷ End block.Section4 ∷ Start block.Section4 ∷ Start block.Mono ∷ Text (codes "-a") style.Literal ∷ Text (codes " ") style.Text ∷ Text (codes "X") style.Metavar ∷ End block.Mono ∷ End block.Section4 ∷ Start block.ItemTerm ∷ Text (codes "-a") style.Literal ∷ End block.ItemTerm ∷ Start block.ItemBody ∷ Start block.InlineBlock ∷ Text (codes "A") style.Text ∷ End block.InlineBlock ∷ End block.ItemBody ∷ Start block.ItemTerm ∷ Text (codes "X") style.Metavar ∷ End block.ItemTerm ∷ Start block.ItemBody ∷ Start block.InlineBlock ∷ Text (codes "x") style.Text ∷ End block.InlineBlock ∷ End block.ItemBody ∷ Start block.Block ∷ End block.Block ∷ Start block.Block ∷ End block.Block ∷ End block.DefinitionList ∷ End block.Block ∷ End block.InlineBlock ∷ [])
    (Start block.Header ∷ Text (codes "SYNOPSIS") style.Text ∷ End block.Header ∷ Text (codes "app") style.Literal ∷ Text (codes " ") style.Text ∷ Start block.Mono ∷ Text (codes "-a") style.Literal ∷ Text (codes " ") style.Text ∷ Text (codes "X") style.Metavar ∷ End block.Mono ∷ Start block.Block ∷ Start block.Section2 ∷ Text (codes "Available options:") style.Emphasis ∷ End block.Section2 ∷ Start block.DefinitionList ∷ Start block.Section4 ∷ Start block.Mono ∷ Text (codes "-a") style.Literal ∷ Text (codes " ") style.Text ∷ Text (codes "X") style.Metavar ∷ End block.Mono ∷ End block.Section4 ∷ Start block.Section4 ∷ Start block.Mono ∷ Text (codes "-a") style.Literal ∷ Text (codes " ") style.Text ∷ Text (codes "X") style.Metavar ∷ End block.Mono ∷ End block.Section4 ∷ Start block.ItemTerm ∷ Text (codes "-a") style.Literal ∷ End block.ItemTerm ∷ Start block.ItemBody ∷ Start block.InlineBlock ∷ Text (codes "A") style.Text ∷ End block.InlineBlock ∷ End block.ItemBody ∷ Start block.ItemTerm ∷ Text (codes "X") style.Metavar ∷ End block.ItemTerm ∷ Start block.ItemBody ∷ Start block.InlineBlock ∷ Text (codes "x") style.Text ∷ End block.InlineBlock ∷ End block.ItemBody ∷ Start block.Block ∷ End block.Block ∷ Start block.Block ∷ End block.Block ∷ End block.DefinitionList ∷ End block.Block ∷ [])
unfolding is_uppercase chars in_ranges uppercase_ranges encode
pages_10 = (refl, refl, refl, refl)

pages_11 : Pages (and_of (tree (adjacent (or_of (tree (subsection (item (positional (codes "X") (Some (Text (codes "h") style.Text ∷ [])))) (Text (codes "") style.Text ∷ [])) (tree (item (command (codes "X") None (Some (Text (codes "h") style.Text ∷ [])) skip (head None None None None skip))) no_trees)))) (tree (item (any (Text (codes "m") style.Text ∷ []) true None)) (tree (item (any (Text (codes "m") style.Text ∷ []) false None)) no_trees)))) bare skip no_texts
    (Start block.Block ∷ Start block.Section2 ∷ Start block.InlineBlock ∷ Text (codes "") style.Emphasis ∷ End block.InlineBlock ∷ End block.Section2 ∷ Start block.DefinitionList ∷ Start block.ItemTerm ∷ Text (codes "X") style.Metavar ∷ End block.ItemTerm ∷ Start block.ItemBody ∷ Start block.InlineBlock ∷ Text (codes "h") style.Text ∷ End block.InlineBlock ∷ End block.ItemBody ∷ End block.DefinitionList ∷ End block.Block ∷ Start block.Block ∷ Start block.Section2 ∷ Text (codes "Available positional items:") style.Emphasis ∷ End block.Section2 ∷ Start block.DefinitionList ∷ Start block.Section4 ∷ Start block.Mono ∷ Text (codes "(") style.Text ∷ Text (codes "X") style.Metavar ∷ Text (codes " | ") style.Text ∷ Text (codes "COMMAND ...") style.Metavar ∷ Text (codes ")") style.Text ∷ End block.Mono ∷ End block.Section4 ∷ Start block.ItemTerm ∷ Text (codes "X") style.Literal ∷ End block.ItemTerm ∷ Start block.ItemBody ∷ Start block.InlineBlock ∷ Text (codes "h") style.Text ∷ End block.InlineBlock ∷ End block.ItemBody ∷ Start block.Block ∷ End block.Block ∷ Start block.ItemTerm ∷ Start block.InlineBlock ∷ Text (codes "m") style.Text ∷ End block.InlineBlock ∷ End block.ItemTerm ∷ End block.DefinitionList ∷ End block.Block ∷ Start block.Block ∷ Start block.Section2 ∷ Text (codes "Available options:") style.Emphasis ∷ End block.Section2 ∷ Start block.DefinitionList ∷ Start block.ItemTerm ∷ Start block.InlineBlock ∷ Text (codes "m") style.Text ∷ End block.InlineBlock ∷ End block.ItemTerm ∷ End block.DefinitionList ∷ End block.Block ∷ [])
    (Start block.Block ∷ Text (codes "Usage") style.Emphasis ∷ Text (codes ": ") style.Text ∷ Start block.Mono ∷ Text (codes "app") style.Literal ∷ Text (codes " ") style.Text ∷ Text (codes "B b") style.Literal ∷ Text (codes " ") style.Text ∷ Start block.Mono ∷ Text (codes "(") style.Text ∷ Text (codes "X") style.Metavar ∷ Text (codes " | ") style.Text ∷ Text (codes "COMMAND ...") style.Metavar ∷ Text (codes ") ") style.Text ∷ Start block.InlineBlock ∷ Text (codes "m") style.Text ∷ End block.InlineBlock ∷ Text (codes " ") style.Text ∷ Start block.InlineBlock ∷ Text (codes "m") style.Text ∷ End block.InlineBlock ∷ End block.Mono ∷ End block.Mono ∷ End block.Block ∷ Start block.Block ∷ Start block.Section2 ∷ Start block.InlineBlock ∷ Text (codes "") style.Emphasis ∷ End block.InlineBlock ∷ End block.Section2 ∷ Start block.DefinitionList ∷ Start block.ItemTerm ∷ Text (codes "X") style.Metavar ∷ End block.ItemTerm ∷ Start block.ItemBody ∷ Start block.InlineBlock ∷ Text (codes "h") style.Text ∷ End block.InlineBlock ∷ End block.ItemBody ∷ End block.DefinitionList ∷ End block.Block ∷ Start block.Block ∷ Start block.Section2 ∷ Text (codes "Available positional items:") style.Emphasis ∷ End block.Section2 ∷ Start block.DefinitionList ∷ Start block.Section4 ∷ Start block.Mono ∷ Text (codes "(") style.Text ∷ Text (codes "X") style.Metavar ∷ Text (codes " | ") style.Text ∷ Text (codes "COMMAND ...") style.Metavar ∷ Text (codes ")") style.Text ∷ End block.Mono ∷ End block.Section4 ∷ Start block.ItemTerm ∷ Text (codes "X") style.Literal ∷ End block.ItemTerm ∷ Start block.ItemBody ∷ Start block.InlineBlock ∷ Text (codes "h") style.Text ∷ End block.InlineBlock ∷ End block.ItemBody ∷ Start block.Block ∷ End block.Block ∷ Start block.ItemTerm ∷ Start block.InlineBlock ∷ Text (codes "m") style.Text ∷ End block.InlineBlock ∷ End block.ItemTerm ∷ End block.DefinitionList ∷ End block.Block ∷ Start block.Block ∷ Start block.Section2 ∷ Text (codes "Available options:") style.Emphasis ∷ End block.Section2 ∷ Start block.DefinitionList ∷ Start block.ItemTerm ∷ Start block.InlineBlock ∷ Text (codes "m") style.Text ∷ End block.InlineBlock ∷ End block.ItemTerm ∷ End block.DefinitionList ∷ End block.Block ∷ [])
    (Start block.Block ∷ Start block.Header ∷ Text (codes "Command summary") style.Text ∷ End block.Header ∷ End block.Block ∷ Start block.ItemBody ∷ Text (42 ∷ 32 ∷ 91 ∷ 96 ∷ 97 ∷ 112 ∷ 112 ∷ 96 ∷ 226 ∷ 134 ∷ 180 ∷ 93 ∷ 40 ∷ 35 ∷ 97 ∷ 112 ∷ 112 ∷ 41 ∷ []) style.Text ∷ End block.ItemBody ∷ Start block.ItemBody ∷ Text (42 ∷ 32 ∷ 91 ∷ 96 ∷ 97 ∷ 112 ∷ 112 ∷ 32 ∷ 88 ∷ 96 ∷ 226 ∷ 134 ∷ 180 ∷ 93 ∷ 40 ∷ 35 ∷ 97 ∷ 112 ∷ 112 ∷ 45 ∷ 120 ∷ 41 ∷ []) style.Text ∷ End block.ItemBody ∷ Start block.Header ∷ Text (codes "app") style.Text ∷ End block.Header ∷ Start block.InlineBlock ∷ Start block.Block ∷ Text (codes "Usage") style.Emphasis ∷ Text (codes ": ") style.Text ∷ Start block.Mono ∷ Text (codes "app") style.Literal ∷ Text (codes " ") style.Text ∷ Start block.Mono ∷ Text (codes "(") style.Text ∷ Text (codes "X") style.Metavar ∷ Text (codes " | ") style.Text ∷ Text (codes "COMMAND ...") style.Metavar ∷ Text (codes ") ") style.Text ∷ Start block.InlineBlock ∷ Text (codes "m") style.Text ∷ End block.InlineBlock ∷ Text (codes " ") style.Text ∷ Start block.InlineBlock ∷ Text (codes "m") style.Text ∷ End block.InlineBlock ∷ End block.Mono ∷ End block.Mono ∷ End block.Block ∷ Start block.Block ∷ Start block.Section2 ∷ Start block.InlineBlock ∷ Text (codes "") style.Emphasis ∷ End block.InlineBlock ∷ End block.Section2 ∷ Start block.DefinitionList ∷ Start block.ItemTerm ∷ Text (codes "X") style.Metavar ∷ End block.ItemTerm ∷ Start block.ItemBody ∷ Start block.InlineBlock ∷ Text (codes "h") style.Text ∷ End block.InlineBlock ∷ End block.ItemBody ∷ End block.DefinitionList ∷ End block.Block ∷ Start block.Block ∷ Start block.Section2 ∷ Text (codes "Available positional items:") style.Emphasis ∷ End block.Section2 ∷ Start block.DefinitionList ∷ Start block.Section4 ∷ Start block.Mono ∷ Text (codes "(") style.Text ∷ Text (codes "X") style.Metavar ∷ Text (codes " | ") style.Text ∷ Text (codes "COMMAND ...") style.Metavar ∷ Text (codes ")") style.Text ∷ End block.Mono ∷ End block.Section4 ∷ Start block.ItemTerm ∷ Text (codes "X") style.Literal ∷ End block.ItemTerm ∷ Start block.ItemBody ∷ Start block.InlineBlock ∷ Text (codes "h") style.Text ∷ End block.InlineBlock ∷ End block.ItemBody ∷ Start block.Block ∷ End block.Block ∷ Start block.ItemTerm ∷ Start block.InlineBlock ∷ Text (codes "m") style.Text ∷ End block.InlineBlock ∷ End block.ItemTerm ∷ End block.DefinitionList ∷ End block.Block ∷ Start block.Block ∷ Start block.Section2 ∷ Text (codes "Available options:") style.Emphasis ∷ End block.Section2 ∷ Start block.DefinitionList ∷ Start block.ItemTerm ∷ Start block.InlineBlock ∷ Text (codes "m") style.Text ∷ End block.InlineBlock ∷ End block.ItemTerm ∷ End block.DefinitionList ∷ End block.Block ∷ End block.InlineBlock ∷ Start block.Header ∷ Text (codes "app X") style.Text ∷ End block.Header ∷ Start block.InlineBlock ∷ Start block.Block ∷ Text (codes "Usage") style.Emphasis ∷ Text (codes ": ") style.Text ∷ Start block.Mono ∷ Text (codes "app") style.Literal ∷ Text (codes " ") style.Text ∷ Text (codes "X") style.Literal ∷ Text (codes " ") style.Text ∷ Start block.Mono ∷ End block.Mono ∷ End block.Mono ∷ End block.Block ∷ End block.InlineBlock ∷ [])
    (Start block.Block ∷ Start block.Header ∷ Text (codes "SYNOPSIS") style.Text ∷ End block.Header ∷ End block.Block ∷ Start block.Meta ∷ Text (codes "app") style.Literal ∷ Text (codes " ") style.Text ∷ Start block.Mono ∷ Text (codes "(") style.Text ∷ Text (codes "X") style.Metavar ∷ Text (codes " | ") style.Text ∷ Text (codes "COMMAND ...") style.Metavar ∷ Text (codes ") ") style.Text ∷ Start block.InlineBlock ∷ Text (codes "m") style.Text ∷ End block.InlineBlock ∷ Text (codes " ") style.Text ∷ Start block.InlineBlock ∷ Text (codes "m") style.Text ∷ End block.InlineBlock ∷ End block.Mono ∷ Text (codes "\n") style.Text ∷ Text (codes "app") style.Literal ∷ Text (codes " ") style.Text ∷ Text (codes "X") style.Literal ∷ Text (codes " ") style.Text ∷ Start block.Mono ∷ End block.Mono ∷ Text (codes "\n") style.Text ∷ End block.Meta ∷ Start block.Header ∷ Text (codes "app") style.Literal ∷ Text (codes " ") style.Text ∷ End block.Header ∷ Start block.Header ∷ Text (codes "SYNOPSIS") style.Text ∷ End block.Header ∷ Text (codes "app") style.Literal ∷ Text (codes " ") style.Text ∷ Start block.Mono ∷ Text (codes "(") style.Text ∷ Text (codes "X") style.Metavar ∷ Text (codes " | ") style.Text ∷ Text (codes "COMMAND ...") style.Metavar ∷ Text (codes ") ") style.Text ∷ Start block.InlineBlock ∷ Text (codes "m") style.Text ∷ End block.InlineBlock ∷ Text (codes " ") style.Text ∷ Start block.InlineBlock ∷ Text (codes "m") style.Text ∷ End block.InlineBlock ∷ End block.Mono ∷ Start block.Block ∷ Start block.Section2 ∷ Start block.InlineBlock ∷ Text (codes "") style.Emphasis ∷ End block.InlineBlock ∷ End block.Section2 ∷ Start block.DefinitionList ∷ Start block.ItemTerm ∷ Text (codes "X") style.Metavar ∷ End block.ItemTerm ∷ Start block.ItemBody ∷ Start block.InlineBlock ∷ Text (codes "h") style.Text ∷ End block.InlineBlock ∷ End block.ItemBody ∷ End block.DefinitionList ∷ End block.Block ∷ Start block.Block ∷ Start block.Section2 ∷ Text (codes "Available positional items:") style.Emphasis ∷ End block.Section2 ∷ Start block.DefinitionList ∷ Start block.Section4 ∷ Start block.Mono ∷ Text (codes "(") style.Text ∷ Text (codes "X") style.Metavar ∷ Text (codes " | ") style.Text ∷ Text (codes "COMMAND ...") style.Metavar ∷ Text (codes ")") style.Text ∷ End block.Mono ∷ End block.Section4 ∷ Start block.ItemTerm ∷ Text (codes "X") style.Literal ∷ End block.ItemTerm ∷ Start block.ItemBody ∷ Start block.InlineBlock ∷ Text (codes "h") style.Text ∷ End block.InlineBlock ∷ End block.ItemBody ∷ Start block.Block ∷ End block.Block ∷ Start block.ItemTerm ∷ Start block.InlineBlock ∷ Text (codes "m") style.Text ∷ End block.InlineBlock ∷ End block.ItemTerm ∷ End block.DefinitionList ∷ End block.Block ∷ Start block.Block ∷ Start block.Section2 ∷ Text (codes "Available options:") style.Emphasis ∷ End block.Section2 ∷ Start block.DefinitionList ∷ Start block.ItemTerm ∷ Start block.InlineBlock ∷ Text (codes "m") style.Text ∷ End block.InlineBlock ∷ End block.ItemTerm ∷ End block.DefinitionList ∷ End block.Block ∷ Start block.Header ∷ Text (codes "app") style.Literal ∷ Text (codes " ") style.Text ∷ Text (codes "X") style.Literal ∷ Text (codes " ") style.Text ∷ End block.Header ∷ Start block.Header ∷ Text (codes "SYNOPSIS") style.Text ∷ End block.Header ∷ Text (codes "app") style.Literal ∷ Text (codes " ") style.Text ∷ Text (codes "X") style.Literal ∷ Text (codes " ") style.Text ∷ Start block.Mono ∷ End block.Mono ∷ [])
unfolding is_uppercase chars in_ranges uppercase_ranges encode
pages_11 = (refl, refl, refl, refl)

pages_12 : Pages (subsection (subsection (suffix (adjacent (subsection (item (argument (both 111 (codes "out")) ([]) (codes "out file") (Some (codes "V")) (Some (Text (codes "o") style.Text ∷ [])))) (Text (codes "J") style.Text ∷ []))) ([])) (Text (codes "I") style.Text ∷ [])) (Text (codes "O") style.Text ∷ [])) bare skip no_texts
    (Start block.Block ∷ Start block.Section2 ∷ Start block.InlineBlock ∷ Text (codes "O") style.Emphasis ∷ End block.InlineBlock ∷ End block.Section2 ∷ Start block.DefinitionList ∷ Start block.Section4 ∷ Start block.Mono ∷ Text (codes "-o") style.Literal ∷ Text (codes "=") style.Text ∷ Text (codes "<out file>") style.Metavar ∷ End block.Mono ∷ End block.Section4 ∷ Start block.ItemTerm ∷ Text (codes "-o") style.Literal ∷ Text (codes ", ") style.Text ∷ Text (codes "--out") style.Literal ∷ Text (codes "=") style.Text ∷ Text (codes "<out file>") style.Metavar ∷ End block.ItemTerm ∷ Start block.ItemBody ∷ Start block.InlineBlock ∷ Text (codes "o") style.Text ∷ End block.InlineBlock ∷ End block.ItemBody ∷ Start block.ItemTerm ∷ End block.ItemTerm ∷ Start block.ItemBody ∷ Text (codes "[env:V: N/A]") style.Text ∷ End block.ItemBody ∷ Start block.Block ∷ End block.Block ∷ Start block.ItemTerm ∷ End block.ItemTerm ∷ Start block.ItemBody ∷ Start block.InlineBlock ∷ End block.InlineBlock ∷ End block.ItemBody ∷ End block.DefinitionList ∷ End block.Block ∷ [])
    (Start block.Block ∷ Text (codes "Usage") style.Emphasis ∷ Text (codes ": ") style.Text ∷ Start block.Mono ∷ Text (codes "app") style.Literal ∷ Text (codes " ") style.Text ∷ Text (codes "B b") style.Literal ∷ Text (codes " ") style.Text ∷ Start block.Mono ∷ Text (codes "-o") style.Literal ∷ Text (codes "=") style.Text ∷ Text (codes "<out file>") style.Metavar ∷ End block.Mono ∷ End block.Mono ∷ End block.Block ∷ Start block.Block ∷ Start block.Section2 ∷ Start block.InlineBlock ∷ Text (codes "O") style.Emphasis ∷ End block.InlineBlock ∷ End block.Section2 ∷ Start block.DefinitionList ∷ Start block.Section4 ∷ Start block.Mono ∷ Text (codes "-o") style.Literal ∷ Text (codes "=") style.Text ∷ Text (codes "<out file>") style.Metavar ∷ End block.Mono ∷ End block.Section4 ∷ Start block.ItemTerm ∷ Text (codes "-o") style.Literal ∷ Text (codes ", ") style.Text ∷ Text (codes "--out") style.Literal ∷ Text (codes "=") style.Text ∷ Text (codes "<out file>") style.Metavar ∷ End block.ItemTerm ∷ Start block.ItemBody ∷ Start block.InlineBlock ∷ Text (codes "o") style.Text ∷ End block.InlineBlock ∷ End block.ItemBody ∷ Start block.ItemTerm ∷ End block.ItemTerm ∷ Start block.ItemBody ∷ Text (codes "Uses environment variable ") style.Text ∷ Text (codes "V") style.Literal ∷ End block.ItemBody ∷ Start block.Block ∷ End block.Block ∷ Start block.ItemTerm ∷ End block.ItemTerm ∷ Start block.ItemBody ∷ Start block.InlineBlock ∷ End block.InlineBlock ∷ End block.ItemBody ∷ End block.DefinitionList ∷ End block.Block ∷ [])
    (Start block.Header ∷ Text (codes "app") style.Text ∷ End block.Header ∷ Start block.InlineBlock ∷ Start block.Block ∷ Text (codes "Usage") style.Emphasis ∷ Text (codes ": ") style.Text ∷ Start block.Mono ∷ Text (codes "app") style.Literal ∷ Text (codes " ") style.Text ∷ Start block.Mono ∷ Text (codes "-o") style.Literal ∷ Text (codes "=") style.Text ∷ Text (codes "<out file>") style.Metavar ∷ End block.Mono ∷ End block.Mono ∷ End block.Block ∷ Start block.Block ∷ Start block.Section2 ∷ Start block.InlineBlock ∷ Text (codes "O") style.Emphasis ∷ End block.InlineBlock ∷ End block.Section2 ∷ Start block.DefinitionList ∷ Start block.Section4 ∷ Start block.Mono ∷ Text (codes "-o") style.Literal ∷ Text (codes "=") style.Text ∷ Text (codes "<out file>") style.Metavar ∷ End block.Mono ∷ End block.Section4 ∷ Start block.ItemTerm ∷ Text (codes "-o") style.Literal ∷ Text (codes ", ") style.Text ∷ Text (codes "--out") style.Literal ∷ Text (codes "=") style.Text ∷ Text (codes "<out file>") style.Metavar ∷ End block.ItemTerm ∷ Start block.ItemBody ∷ Start block.InlineBlock ∷ Text (codes "o") style.Text ∷ End block.InlineBlock ∷ End block.ItemBody ∷ Start block.ItemTerm ∷ End block.ItemTerm ∷ Start block.ItemBody ∷ Text (codes "Uses environment variable ") style.Text ∷ Text (codes "V") style.Literal ∷ End block.ItemBody ∷ Start block.Block ∷ End block.Block ∷ Start block.ItemTerm ∷ End block.ItemTerm ∷ Start block.ItemBody ∷ Start block.InlineBlock ∷ End block.InlineBlock ∷ End block.ItemBody ∷ End block.DefinitionList ∷ End block.Block ∷ End block.InlineBlock ∷ [])
    (Start block.Header ∷ Text (codes "SYNOPSIS") style.Text ∷ End block.Header ∷ Text (codes "app") style.Literal ∷ Text (codes " ") style.Text ∷ Start block.Mono ∷ Text (codes "-o") style.Literal ∷ Text (codes "=") style.Text ∷ Text (codes "<out file>") style.Metavar ∷ End block.Mono ∷ Start block.Block ∷ Start block.Section2 ∷ Start block.InlineBlock ∷ Text (codes "O") style.Emphasis ∷ End block.InlineBlock ∷ End block.Section2 ∷ Start block.DefinitionList ∷ Start block.Section4 ∷ Start block.Mono ∷ Text (codes "-o") style.Literal ∷ Text (codes "=") style.Text ∷ Text (codes "<out file>") style.Metavar ∷ End block.Mono ∷ End block.Section4 ∷ Start block.ItemTerm ∷ Text (codes "-o") style.Literal ∷ Text (codes ", ") style.Text ∷ Text (codes "--out") style.Literal ∷ Text (codes "=") style.Text ∷ Text (codes "<out file>") style.Metavar ∷ End block.ItemTerm ∷ Start block.ItemBody ∷ Start block.InlineBlock ∷ Text (codes "o") style.Text ∷ End block.InlineBlock ∷ End block.ItemBody ∷ Start block.ItemTerm ∷ End block.ItemTerm ∷ Start block.ItemBody ∷ Text (codes "Uses environment variable ") style.Text ∷ Text (codes "V") style.Literal ∷ End block.ItemBody ∷ Start block.Block ∷ End block.Block ∷ Start block.ItemTerm ∷ End block.ItemTerm ∷ Start block.ItemBody ∷ Start block.InlineBlock ∷ End block.InlineBlock ∷ End block.ItemBody ∷ End block.DefinitionList ∷ End block.Block ∷ [])
unfolding is_uppercase chars in_ranges uppercase_ranges encode
pages_12 = (refl, refl, refl, refl)

pages_13 : Pages (or_of (tree (adjacent skip) (tree (subsection (and_of no_trees) (Text (codes "G") style.Text ∷ [])) (tree (suffix (or_of no_trees) (Text (codes "S") style.Text ∷ [])) (tree (subsection (item (positional (codes "Q") None)) (Text (codes "K") style.Text ∷ [])) no_trees))))) bare skip no_texts
    (Start block.Block ∷ Start block.Section2 ∷ Start block.InlineBlock ∷ Text (codes "K") style.Emphasis ∷ End block.InlineBlock ∷ End block.Section2 ∷ Start block.DefinitionList ∷ End block.DefinitionList ∷ End block.Block ∷ [])
    (Start block.Block ∷ Text (codes "Usage") style.Emphasis ∷ Text (codes ": ") style.Text ∷ Start block.Mono ∷ Text (codes "app") style.Literal ∷ Text (codes " ") style.Text ∷ Text (codes "B b") style.Literal ∷ Text (codes " ") style.Text ∷ Start block.Mono ∷ Text (codes "Q") style.Metavar ∷ End block.Mono ∷ End block.Mono ∷ End block.Block ∷ Start block.Block ∷ Start block.Section2 ∷ Start block.InlineBlock ∷ Text (codes "K") style.Emphasis ∷ End block.InlineBlock ∷ End block.Section2 ∷ Start block.DefinitionList ∷ End block.DefinitionList ∷ End block.Block ∷ [])
    (Start block.Header ∷ Text (codes "app") style.Text ∷ End block.Header ∷ Start block.InlineBlock ∷ Start block.Block ∷ Text (codes "Usage") style.Emphasis ∷ Text (codes ": ") style.Text ∷ Start block.Mono ∷ Text (codes "app") style.Literal ∷ Text (codes " ") style.Text ∷ Start block.Mono ∷ Text (codes "Q") style.Metavar ∷ End block.Mono ∷ End block.Mono ∷ End block.Block ∷ Start block.Block ∷ Start block.Section2 ∷ Start block.InlineBlock ∷ Text (codes "K") style.Emphasis ∷ End block.InlineBlock ∷ End block.Section2 ∷ Start block.DefinitionList ∷ End block.DefinitionList ∷ End block.Block ∷ End block.InlineBlock ∷ [])
    (Start block.Header ∷ Text (codes "SYNOPSIS") style.Text ∷ End block.Header ∷ Text (codes "app") style.Literal ∷ Text (codes " ") style.Text ∷ Start block.Mono ∷ Text (codes "Q") style.Metavar ∷ End block.Mono ∷ Start block.Block ∷ Start block.Section2 ∷ Start block.InlineBlock ∷ Text (codes "K") style.Emphasis ∷ End block.InlineBlock ∷ End block.Section2 ∷ Start block.DefinitionList ∷ End block.DefinitionList ∷ End block.Block ∷ [])
unfolding is_uppercase chars in_ranges uppercase_ranges encode
pages_13 = (refl, refl, refl, refl)

pages_14 : Pages (and_of (tree (custom_usage (item (flag (short 97) ([]) None (Some (Text (codes "A") style.Text ∷ [])))) ([])) (tree (custom_usage (adjacent (and_of (tree (item (flag (short 98) ([]) None (Some (Text (codes "B") style.Text ∷ [])))) (tree (custom_usage (item (flag (short 99) ([]) None None)) (Text (codes "q") style.Text ∷ [])) no_trees)))) (Text (codes "zz") style.Text ∷ [])) (tree (strict (item (positional (codes "P") (Some (Text (codes "p") style.Text ∷ []))))) no_trees)))) (head None None None (Some (Text (codes "use") style.Text ∷ Text (codes "me") style.Literal ∷ []))) skip no_texts
    (Start block.Block ∷ Start block.Section2 ∷ Text (codes "Available positional items:") style.Emphasis ∷ End block.Section2 ∷ Start block.DefinitionList ∷ Start block.ItemTerm ∷ Text (codes "P") style.Metavar ∷ End block.ItemTerm ∷ Start block.ItemBody ∷ Start block.InlineBlock ∷ Text (codes "p") style.Text ∷ End block.InlineBlock ∷ End block.ItemBody ∷ End block.DefinitionList ∷ End block.Block ∷ Start block.Block ∷ Start block.Section2 ∷ Text (codes "Available options:") style.Emphasis ∷ End block.Section2 ∷ Start block.DefinitionList ∷ Start block.ItemTerm ∷ Text (codes "-a") style.Literal ∷ End block.ItemTerm ∷ Start block.ItemBody ∷ Start block.InlineBlock ∷ Text (codes "A") style.Text ∷ End block.InlineBlock ∷ End block.ItemBody ∷ Start block.Section4 ∷ Start block.Mono ∷ Text (codes "-b") style.Literal ∷ Text (codes " ") style.Text ∷ Start block.InlineBlock ∷ Text (codes "q") style.Text ∷ End block.InlineBlock ∷ End block.Mono ∷ End block.Section4 ∷ Start block.ItemTerm ∷ Text (codes "-b") style.Literal ∷ End block.ItemTerm ∷ Start block.ItemBody ∷ Start block.InlineBlock ∷ Text (codes "B") style.Text ∷ End block.InlineBlock ∷ End block.ItemBody ∷ Start block.Block ∷ End block.Block ∷ End block.DefinitionList ∷ End block.Block ∷ [])
    (Start block.Block ∷ Start block.InlineBlock ∷ Text (codes "use") style.Text ∷ Text (codes "me") style.Literal ∷ End block.InlineBlock ∷ End block.Block ∷ Start block.Block ∷ Start block.Section2 ∷ Text (codes "Available positional items:") style.Emphasis ∷ End block.Section2 ∷ Start block.DefinitionList ∷ Start block.ItemTerm ∷ Text (codes "P") style.Metavar ∷ End block.ItemTerm ∷ Start block.ItemBody ∷ Start block.InlineBlock ∷ Text (codes "p") style.Text ∷ End block.InlineBlock ∷ End block.ItemBody ∷ End block.DefinitionList ∷ End block.Block ∷ Start block.Block ∷ Start block.Section2 ∷ Text (codes "Available options:") style.Emphasis ∷ End block.Section2 ∷ Start block.DefinitionList ∷ Start block.ItemTerm ∷ Text (codes "-a") style.Literal ∷ End block.ItemTerm ∷ Start block.ItemBody ∷ Start block.InlineBlock ∷ Text (codes "A") style.Text ∷ End block.InlineBlock ∷ End block.ItemBody ∷ Start block.Section4 ∷ Start block.Mono ∷ Text (codes "-b") style.Literal ∷ Text (codes " ") style.Text ∷ Start block.InlineBlock ∷ Text (codes "q") style.Text ∷ End block.InlineBlock ∷ End block.Mono ∷ End block.Section4 ∷ Start block.ItemTerm ∷ Text (codes "-b") style.Literal ∷ End block.ItemTerm ∷ Start block.ItemBody ∷ Start block.InlineBlock ∷ Text (codes "B") style.Text ∷ End block.InlineBlock ∷ End block.ItemBody ∷ Start block.Block ∷ End block.Block ∷ End block.DefinitionList ∷ End block.Block ∷ [])
    (Start block.Header ∷ Text (codes "app") style.Text ∷ End block.Header ∷ Start block.InlineBlock ∷ Start block.Block ∷ Start block.InlineBlock ∷ Text (codes "use") style.Text ∷ Text (codes "me") style.Literal ∷ End block.InlineBlock ∷ End block.Block ∷ Start block.Block ∷ Start block.Section2 ∷ Text (codes "Available positional items:") style.Emphasis ∷ End block.Section2 ∷ Start block.DefinitionList ∷ Start block.ItemTerm ∷ Text (codes "P") style.Metavar ∷ End block.ItemTerm ∷ Start block.ItemBody ∷ Start block.InlineBlock ∷ Text (codes "p") style.Text ∷ End block.InlineBlock ∷ End block.ItemBody ∷ End block.DefinitionList ∷ End block.Block ∷ Start block.Block ∷ Start block.Section2 ∷ Text (codes "Available options:") style.Emphasis ∷ End block.Section2 ∷ Start block.DefinitionList ∷ Start block.ItemTerm ∷ Text (codes "-a") style.Literal ∷ End block.ItemTerm ∷ Start block.ItemBody ∷ Start block.InlineBlock ∷ Text (codes "A") style.Text ∷ End block.InlineBlock ∷ End block.ItemBody ∷ Start block.Section4 ∷ Start block.Mono ∷ Text (codes "-b") style.Literal ∷ Text (codes " ") style.Text ∷ Start block.InlineBlock ∷ Text (codes "q") style.Text ∷ End block.InlineBlock ∷ End block.Mono ∷ End block.Section4 ∷ Start block.ItemTerm ∷ Text (codes "-b") style.Literal ∷ End block.ItemTerm ∷ Start block.ItemBody ∷ Start block.InlineBlock ∷ Text (codes "B") style.Text ∷ End block.InlineBlock ∷ End block.ItemBody ∷ Start block.Block ∷ End block.Block ∷ End block.DefinitionList ∷ End block.Block ∷ End block.InlineBlock ∷ [])
    (Start block.Header ∷ Text (codes "SYNOPSIS") style.Text ∷ End block.Header ∷ Text (codes "app") style.Literal ∷ Text (codes " ") style.Text ∷ Start block.Mono ∷ Start block.InlineBlock ∷ Text (codes "zz") style.Text ∷ End block.InlineBlock ∷ Text (codes " ") style.Text ∷ Text (codes "--") style.Literal ∷ Text (codes " ") style.Text ∷ Text (codes "P") style.Metavar ∷ End block.Mono ∷ Start block.Block ∷ Start block.Section2 ∷ Text (codes "Available positional items:") style.Emphasis ∷ End block.Section2 ∷ Start block.DefinitionList ∷ Start block.ItemTerm ∷ Text (codes "P") style.Metavar ∷ End block.ItemTerm ∷ Start block.ItemBody ∷ Start block.InlineBlock ∷ Text (codes "p") style.Text ∷ End block.InlineBlock ∷ End block.ItemBody ∷ End block.DefinitionList ∷ End block.Block ∷ Start block.Block ∷ Start block.Section2 ∷ Text (codes "Available options:") style.Emphasis ∷ End block.Section2 ∷ Start block.DefinitionList ∷ Start block.ItemTerm ∷ Text (codes "-a") style.Literal ∷ End block.ItemTerm ∷ Start block.ItemBody ∷ Start block.InlineBlock ∷ Text (codes "A") style.Text ∷ End block.InlineBlock ∷ End block.ItemBody ∷ Start block.Section4 ∷ Start block.Mono ∷ Text (codes "-b") style.Literal ∷ Text (codes " ") style.Text ∷ Start block.InlineBlock ∷ Text (codes "q") style.Text ∷ End block.InlineBlock ∷ End block.Mono ∷ End block.Section4 ∷ Start block.ItemTerm ∷ Text (codes "-b") style.Literal ∷ End block.ItemTerm ∷ Start block.ItemBody ∷ Start block.InlineBlock ∷ Text (codes "B") style.Text ∷ End block.InlineBlock ∷ End block.ItemBody ∷ Start block.Block ∷ End block.Block ∷ End block.DefinitionList ∷ End block.Block ∷ [])
unfolding is_uppercase chars in_ranges uppercase_ranges encode
pages_14 = (refl, refl, refl, refl)

pages_15 : Pages (and_of (tree (item (flag (short 104) ([]) None (Some (Text (codes "H") style.Text ∷ [])))) (tree (subsection (item (flag (short 118) ([]) None None)) (Text (codes "HG") style.Text ∷ [])) no_trees))) bare (subsection (item (flag (short 104) ([]) None (Some (Text (codes "H") style.Text ∷ [])))) (Text (codes "HG") style.Text ∷ [])) no_texts
    (Start block.Block ∷ Start block.Section2 ∷ Start block.InlineBlock ∷ Text (codes "HG") style.Emphasis ∷ End block.InlineBlock ∷ End block.Section2 ∷ Start block.DefinitionList ∷ Start block.ItemTerm ∷ Text (codes "-v") style.Literal ∷ End block.ItemTerm ∷ End block.DefinitionList ∷ End block.Block ∷ Start block.Block ∷ Start block.Section2 ∷ Text (codes "Available options:") style.Emphasis ∷ End block.Section2 ∷ Start block.DefinitionList ∷ Start block.ItemTerm ∷ Text (codes "-h") style.Literal ∷ End block.ItemTerm ∷ Start block.ItemBody ∷ Start block.InlineBlock ∷ Text (codes "H") style.Text ∷ End block.InlineBlock ∷ End block.ItemBody ∷ End block.DefinitionList ∷ End block.Block ∷ [])
    (Start block.Block ∷ Text (codes "Usage") style.Emphasis ∷ Text (codes ": ") style.Text ∷ Start block.Mono ∷ Text (codes "app") style.Literal ∷ Text (codes " ") style.Text ∷ Text (codes "B b") style.Literal ∷ Text (codes " ") style.Text ∷ Start block.Mono ∷ Text (codes "-h") style.Literal ∷ Text (codes " ") style.Text ∷ Text (codes "-v") style.Literal ∷ End block.Mono ∷ End block.Mono ∷ End block.Block ∷ Start block.Block ∷ Start block.Section2 ∷ Start block.InlineBlock ∷ Text (codes "HG") style.Emphasis ∷ End block.InlineBlock ∷ End block.Section2 ∷ Start block.DefinitionList ∷ Start block.ItemTerm ∷ Text (codes "-v") style.Literal ∷ End block.ItemTerm ∷ End block.DefinitionList ∷ End block.Block ∷ Start block.Block ∷ Start block.Section2 ∷ Start block.InlineBlock ∷ Text (codes "HG") style.Emphasis ∷ End block.InlineBlock ∷ End block.Section2 ∷ Start block.DefinitionList ∷ Start block.ItemTerm ∷ Text (codes "-h") style.Literal ∷ End block.ItemTerm ∷ Start block.ItemBody ∷ Start block.InlineBlock ∷ Text (codes "H") style.Text ∷ End block.InlineBlock ∷ End block.ItemBody ∷ End block.DefinitionList ∷ End block.Block ∷ Start block.Block ∷ Start block.Section2 ∷ Text (codes "Available options:") style.Emphasis ∷ End block.Section2 ∷ Start block.DefinitionList ∷ Start block.ItemTerm ∷ Text (codes "-h") style.Literal ∷ End block.ItemTerm ∷ Start block.ItemBody ∷ Start block.InlineBlock ∷ Text (codes "H") style.Text ∷ End block.InlineBlock ∷ End block.ItemBody ∷ End block.DefinitionList ∷ End block.Block ∷ [])
    (Start block.Header ∷ Text (codes "app") style.Text ∷ End block.Header ∷ Start block.InlineBlock ∷ Start block.Block ∷ Text (codes "Usage") style.Emphasis ∷ Text (codes ": ") style.Text ∷ Start block.Mono ∷ Text (codes "app") style.Literal ∷ Text (codes " ") style.Text ∷ Start block.Mono ∷ Text (codes "-h") style.Literal ∷ Text (codes " ") style.Text ∷ Text (codes "-v") style.Literal ∷ End block.Mono ∷ End block.Mono ∷ End block.Block ∷ Start block.Block ∷ Start block.Section2 ∷ Start block.InlineBlock ∷ Text (codes "HG") style.Emphasis ∷ End block.InlineBlock ∷ End block.Section2 ∷ Start block.DefinitionList ∷ Start block.ItemTerm ∷ Text (codes "-v") style.Literal ∷ End block.ItemTerm ∷ End block.DefinitionList ∷ End block.Block ∷ Start block.Block ∷ Start block.Section2 ∷ Start block.InlineBlock ∷ Text (codes "HG") style.Emphasis ∷ End block.InlineBlock ∷ End block.Section2 ∷ Start block.DefinitionList ∷ Start block.ItemTerm ∷ Text (codes "-h") style.Literal ∷ End block.ItemTerm ∷ Start block.ItemBody ∷ Start block.InlineBlock ∷ Text (codes "H") style.Text ∷ End block.InlineBlock ∷ End block.ItemBody ∷ End block.DefinitionList ∷ End block.Block ∷ Start block.Block ∷ Start block.Section2 ∷ Text (codes "Available options:") style.Emphasis ∷ End block.Section2 ∷ Start block.DefinitionList ∷ Start block.ItemTerm ∷ Text (codes "-h") style.Literal ∷ End block.ItemTerm ∷ Start block.ItemBody ∷ Start block.InlineBlock ∷ Text (codes "H") style.Text ∷ End block.InlineBlock ∷ End block.ItemBody ∷ End block.DefinitionList ∷ End block.Block ∷ End block.InlineBlock ∷ [])
    (Start block.Header ∷ Text (codes "SYNOPSIS") style.Text ∷ End block.Header ∷ Text (codes "app") style.Literal ∷ Text (codes " ") style.Text ∷ Start block.Mono ∷ Text (codes "-h") style.Literal ∷ Text (codes " ") style.Text ∷ Text (codes "-v") style.Literal ∷ End block.Mono ∷ Start block.Block ∷ Start block.Section2 ∷ Start block.InlineBlock ∷ Text (codes "HG") style.Emphasis ∷ End block.InlineBlock ∷ End block.Section2 ∷ Start block.DefinitionList ∷ Start block.ItemTerm ∷ Text (codes "-v") style.Literal ∷ End block.ItemTerm ∷ End block.DefinitionList ∷ End block.Block ∷ Start block.Block ∷ Start block.Section2 ∷ Start block.InlineBlock ∷ Text (codes "HG") style.Emphasis ∷ End block.InlineBlock ∷ End block.Section2 ∷ Start block.DefinitionList ∷ Start block.ItemTerm ∷ Text (codes "-h") style.Literal ∷ End block.ItemTerm ∷ Start block.ItemBody ∷ Start block.InlineBlock ∷ Text (codes "H") style.Text ∷ End block.InlineBlock ∷ End block.ItemBody ∷ End block.DefinitionList ∷ End block.Block ∷ Start block.Block ∷ Start block.Section2 ∷ Text (codes "Available options:") style.Emphasis ∷ End block.Section2 ∷ Start block.DefinitionList ∷ Start block.ItemTerm ∷ Text (codes "-h") style.Literal ∷ End block.ItemTerm ∷ Start block.ItemBody ∷ Start block.InlineBlock ∷ Text (codes "H") style.Text ∷ End block.InlineBlock ∷ End block.ItemBody ∷ End block.DefinitionList ∷ End block.Block ∷ [])
unfolding is_uppercase chars in_ranges uppercase_ranges encode
pages_15 = (refl, refl, refl, refl)

pages_16 : Pages (and_of (tree (adjacent (and_of (tree (suffix (item (flag (short 97) ([]) None None)) (Text (codes "note") style.Text ∷ [])) (tree (item (flag (short 97) ([]) None (Some (Text (codes "h") style.Text ∷ [])))) no_trees)))) (tree (suffix (item (flag (short 97) ([]) None (Some (Text (codes "h") style.Text ∷ [])))) (Text (codes "n2") style.Text ∷ [])) no_trees))) bare skip no_texts
    (Start block.Block ∷ Start block.Section2 ∷ Text (codes "Available options:") style.Emphasis ∷ End block.Section2 ∷ Start block.DefinitionList ∷ Start block.Section4 ∷ Start block.Mono ∷ Text (codes "-a") style.Literal ∷ Text (codes " ") style.Text ∷ Text (codes "-a") style.Literal ∷ End block.Mono ∷ End block.Section4 ∷ Start block.ItemTerm ∷ End block.ItemTerm ∷ Start block.ItemBody ∷ Start block.InlineBlock ∷ Text (codes "note") style.Text ∷ End block.InlineBlock ∷ End block.ItemBody ∷ Start block.ItemTerm ∷ Text (codes "-a") style.Literal ∷ End block.ItemTerm ∷ Start block.ItemBody ∷ Start block.InlineBlock ∷ Text (codes "h") style.Text ∷ End block.InlineBlock ∷ End block.ItemBody ∷ Start block.Block ∷ End block.Block ∷ End block.DefinitionList ∷ End block.Block ∷ [])
    (Start block.Block ∷ Text (codes "Usage") style.Emphasis ∷ Text (codes ": ") style.Text ∷ Start block.Mono ∷ Text (codes "app") style.Literal ∷ Text (codes " ") style.Text ∷ Text (codes "B b") style.Literal ∷ Text (codes " ") style.Text ∷ Start block.Mono ∷ Text (codes "-a") style.Literal ∷ Text (codes " ") style.Text ∷ Text (codes "-a") style.Literal ∷ Text (codes " ") style.Text ∷ Text (codes "-a") style.Literal ∷ End block.Mono ∷ End block.Mono ∷ End block.Block ∷ Start block.Block ∷ Start block.Section2 ∷ Text (codes "Available options:") style.Emphasis ∷ End block.Section2 ∷ Start block.DefinitionList ∷ Start block.Section4 ∷ Start block.Mono ∷ Text (codes "-a") style.Literal ∷ Text (codes " ") style.Text ∷ Text (codes "-a") style.Literal ∷ End block.Mono ∷ End block.Section4 ∷ Start block.ItemTerm ∷ End block.ItemTerm ∷ Start block.ItemBody ∷ Start block.InlineBlock ∷ Text (codes "note") style.Text ∷ End block.InlineBlock ∷ End block.ItemBody ∷ Start block.ItemTerm ∷ Text (codes "-a") style.Literal ∷ End block.ItemTerm ∷ Start block.ItemBody ∷ Start block.InlineBlock ∷ Text (codes "h") style.Text ∷ End block.InlineBlock ∷ End block.ItemBody ∷ Start block.Block ∷ End block.Block ∷ End block.DefinitionList ∷ End block.Block ∷ [])
    (Start block.Header ∷ Text (codes "app") style.Text ∷ End block.Header ∷ Start block.InlineBlock ∷ Start block.Block ∷ Text (codes "Usage") style.Emphasis ∷ Text (codes ": ") style.Text ∷ Start block.Mono ∷ Text (codes "app") style.Literal ∷ Text (codes " ") style.Text ∷ Start block.Mono ∷ Text (codes "-a") style.Literal ∷ Text (codes " ") style.Text ∷ Text (codes "-a") style.Literal ∷ Text (codes " ") style.Text ∷ Text (codes "-a") style.Literal ∷ End block.Mono ∷ End block.Mono ∷ End block.Block ∷ Start block.Block ∷ Start block.Section2 ∷ Text (codes "Available options:") style.Emphasis ∷ End block.Section2 ∷ Start block.DefinitionList ∷ Start block.Section4 ∷ Start block.Mono ∷ Text (codes "-a") style.Literal ∷ Text (codes " ") style.Text ∷ Text (codes "-a") style.Literal ∷ End block.Mono ∷ End block.Section4 ∷ Start block.ItemTerm ∷ End block.ItemTerm ∷ Start block.ItemBody ∷ Start block.InlineBlock ∷ Text (codes "note") style.Text ∷ End block.InlineBlock ∷ End block.ItemBody ∷ Start block.ItemTerm ∷ Text (codes "-a") style.Literal ∷ End block.ItemTerm ∷ Start block.ItemBody ∷ Start block.InlineBlock ∷ Text (codes "h") style.Text ∷ End block.InlineBlock ∷ End block.ItemBody ∷ Start block.Block ∷ End block.Block ∷ End block.DefinitionList ∷ End block.Block ∷ End block.InlineBlock ∷ [])
    (Start block.Header ∷ Text (codes "SYNOPSIS") style.Text ∷ End block.Header ∷ Text (codes "app") style.Literal ∷ Text (codes " ") style.Text ∷ Start block.Mono ∷ Text (codes "-a") style.Literal ∷ Text (codes " ") style.Text ∷ Text (codes "-a") style.Literal ∷ Text (codes " ") style.Text ∷ Text (codes "-a") style.Literal ∷ End block.Mono ∷ Start block.Block ∷ Start block.Section2 ∷ Text (codes "Available options:") style.Emphasis ∷ End block.Section2 ∷ Start block.DefinitionList ∷ Start block.Section4 ∷ Start block.Mono ∷ Text (codes "-a") style.Literal ∷ Text (codes " ") style.Text ∷ Text (codes "-a") style.Literal ∷ End block.Mono ∷ End block.Section4 ∷ Start block.ItemTerm ∷ End block.ItemTerm ∷ Start block.ItemBody ∷ Start block.InlineBlock ∷ Text (codes "note") style.Text ∷ End block.InlineBlock ∷ End block.ItemBody ∷ Start block.ItemTerm ∷ Text (codes "-a") style.Literal ∷ End block.ItemTerm ∷ Start block.ItemBody ∷ Start block.InlineBlock ∷ Text (codes "h") style.Text ∷ End block.InlineBlock ∷ End block.ItemBody ∷ Start block.Block ∷ End block.Block ∷ End block.DefinitionList ∷ End block.Block ∷ [])
unfolding is_uppercase chars in_ranges uppercase_ranges encode
pages_16 = (refl, refl, refl, refl)
