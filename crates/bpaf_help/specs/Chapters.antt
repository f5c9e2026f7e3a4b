-- The chapters of an application, the page that collects them, and the manual page.
use Rattle.std.specs.Prelude.{◌≡◌, ℕ, true, false, if◌then◌else◌, List, [], ◌∷◌, ◌++◌, flat_map, map, All, ◌==◌, Option, Some, None, codes, encode_utf8}
use Rattle.std.specs.List.{join_with_byte}
use Rattle.std.specs.Str.{str_to_ascii_lowercase}
use Rattle.bpaf_roff.specs.Escaping.{blank, dash, newline}
use Rattle.bpaf_doc.specs.declared.buffer.Block.TheVariants as block
use Rattle.bpaf_doc.specs.Buffer.Parts.{Part}
use Rattle.bpaf_doc.specs.Buffer.Writes.{Write, plain, inside, doc_writes, path_writes, document_of}
use Rattle.bpaf_meta.specs.Content.{Tree, and_of, or_of, optional, required, adjacent, item, many, subsection, suffix, skip, custom_usage, strict, Trees, no_trees, tree, Leaf, command, Head, head}
use Rattle.bpaf_meta.specs.Meta.Misplaced.{IsWellPlaced, IsFirstMisplaced}
use Rattle.bpaf_meta.specs.Usage.Writes.{usage_writes}
use Rattle.bpaf_items.specs.Listing.ItemList.{Entry, listed, item_list}
use Rattle.bpaf_items.specs.Page.EnvTexts.{no_texts}
use Rattle.bpaf_items.specs.Page.EntryWrites.{body}
use Rattle.bpaf_items.specs.Page.HelpPage.{groups_writes, doc_within, help_page_writes, help_tree}

-- an application or one of its commands: the path of names to it, its info and its tree
pub record Chapter : Type 0 where
  pub path : List (List ℕ)
  pub info : Head
  pub content : Tree

-- the chapters of the commands of a tree, in order, each before those of its own tree; the path leads to the tree
abbrev mutual
  pub command_chapters : (path : List (List ℕ)) → Tree → List Chapter
  command_chapters path (and_of ts) = part_chapters path ts
  command_chapters path (or_of ts) = part_chapters path ts
  command_chapters path (optional t) = command_chapters path t
  command_chapters path (required t) = command_chapters path t
  command_chapters path (adjacent t) = command_chapters path t
  command_chapters path (item l) = item_chapters path l
  command_chapters path (many t) = command_chapters path t
  command_chapters path (subsection t d) = command_chapters path t
  command_chapters path (suffix t d) = command_chapters path t
  command_chapters path skip = []
  command_chapters path (custom_usage t d) = command_chapters path t
  command_chapters path (strict t) = command_chapters path t

  pub part_chapters : (path : List (List ℕ)) → Trees → List Chapter
  part_chapters path no_trees = []
  part_chapters path (tree t ts) = command_chapters path t ++ part_chapters path ts

  pub item_chapters : (path : List (List ℕ)) → Leaf → List Chapter
  item_chapters path (command n c h t i) = record { path = path ++ n ∷ []; info = i; content = t }
      ∷ command_chapters (path ++ n ∷ []) t
  item_chapters path l = []

-- `extract_sections`: the chapter of the tree itself, and then those of its commands
abbrev pub chapters_of : (path : List (List ℕ)) → Head → Tree → List Chapter
chapters_of path i t = record { path = path; info = i; content = t } ∷ command_chapters path t

-- the chapters of the command that an entry is, if it is one
abbrev pub entry_chapters : (path : List (List ℕ)) → Entry → List Chapter
entry_chapters path (listed l) = item_chapters path l
entry_chapters path e = []

-- the chapters of the commands of a tree are those of the commands that its item list has, in order
abbrev pub ChaptersAreListed : Type 0
ChaptersAreListed = (path : List (List ℕ)) (t : Tree)
    → flat_map (entry_chapters path) (item_list t) ≡ command_chapters path t

-- no item of any chapter is misplaced
abbrev pub AreWellPlaced : List Chapter → Type 0
AreWellPlaced = All (λ c. IsWellPlaced c.content)

-- the item is the first misplaced one of the first chapter that has any
pub record IsFirstMisplacedOf (chapters : List Chapter) (l : Leaf) : Type 0 where
  pub front : List Chapter
  pub faulty : Chapter
  pub back : List Chapter
  pub order : chapters ≡ front ++ faulty ∷ back
  pub well_placed : AreWellPlaced front
  pub first : IsFirstMisplaced faulty.content l

abbrev pub spaced : List (List ℕ) → List ℕ
spaced = join_with_byte blank

-- a blank as `-`
abbrev pub dashed_byte : ℕ → ℕ
dashed_byte c = if c == blank then dash else c

-- the path joined by `-`, with ASCII letters in lower case and blanks as `-`
abbrev pub anchor : List (List ℕ) → List ℕ
anchor path = map dashed_byte (str_to_ascii_lowercase (join_with_byte dash path))

-- what a line of the command summary says: the path, and a link to its chapter
abbrev pub summary_text : List (List ℕ) → List ℕ
summary_text path = codes "* [`" ++ spaced path ++ codes "`" ++ encode_utf8 0x21b4 ++ codes "](#" ++ anchor path
    ++ codes ")"

abbrev pub summary_line : Chapter → List Write
summary_line c = body (plain (summary_text c.path) ∷ [])

-- writes for two or more chapters only
abbrev pub if_many : List Chapter → List Write → List Write
if_many (c ∷ d ∷ cs) ws = ws
if_many cs ws = []

-- the summary above the pages
abbrev pub summary_writes : List Chapter → List Write
summary_writes chapters = inside block.Block (inside block.Header (plain (codes "Command summary") ∷ []))
    ++ flat_map summary_line chapters

-- the help page of a chapter, with the help tree of its own info and without environment texts
abbrev pub own_page_writes : Chapter → List Write
own_page_writes c = help_page_writes c.path c.info c.content (help_tree c.info) false no_texts

-- the same under its path
abbrev pub chapter_page : Chapter → List Write
chapter_page c = inside block.Header (plain (spaced c.path) ∷ []) ++ doc_writes (document_of (own_page_writes c))

-- `collect_html`: a summary where there are two or more chapters, then the help page of each
abbrev pub collected_writes : (app : List ℕ) → Tree → Head → List Write
collected_writes app t i =
    let chapters : List Chapter = chapters_of (app ∷ []) i t in
    if_many chapters (summary_writes chapters) ++ flat_map chapter_page chapters

-- a line of the manual page's synopsis
abbrev pub synopsis_line : Chapter → List Write
synopsis_line c = path_writes c.path ++ usage_writes true c.content ++ plain (newline ∷ []) ∷ []

abbrev pub manual_name : (app : List ℕ) → (descr : Option (List Part)) → List Write
manual_name app None = []
manual_name app (Some d) = inside block.Header (plain (codes "NAME") ∷ [])
    ++ plain app ∷ plain (codes " - ") ∷ doc_writes d

-- a chapter of the manual page, after its own header; the usage document of the info is not used
abbrev pub manual_chapter : (app : List ℕ) → (path : List (List ℕ)) → Tree → Head → List Write
manual_chapter app path t (head descr header footer usage help) =
    manual_name app descr
    ++ inside block.Header (plain (codes "SYNOPSIS") ∷ []) ++ path_writes path ++ usage_writes true t
    ++ doc_within block.Block header
    ++ groups_writes false no_texts (item_list t ++ item_list help)
    ++ doc_within block.Block footer

-- what is above the chapters of the manual page
abbrev pub synopsis_writes : List Chapter → List Write
synopsis_writes chapters = inside block.Block (inside block.Header (plain (codes "SYNOPSIS") ∷ []))
    ++ inside block.Meta (flat_map synopsis_line chapters)

-- what `render_manpage` writes
abbrev pub manual_writes : (app : List ℕ) → Tree → Head → List Write
manual_writes app t i =
    let chapters : List Chapter = chapters_of (app ∷ []) i t in
    if_many chapters (synopsis_writes chapters)
    ++ flat_map (λ c. if_many chapters (inside block.Header (path_writes c.path))
    ++ manual_chapter app c.path c.content c.info) chapters
