-- The definitions at small trees and lists.
use Rattle.std.specs.Prelude.{◌≡◌, ◌≢◌, All, true, false, List, [], ◌∷◌, ◌++◌, refl, codes, Some, None, map}
use Rattle.std.specs.declared.cmp.Ordering.TheVariants as order
use Rattle.std.proofs.lemmas.List.Elements.{All-nil, All-cons}
use Rattle.bpaf_doc.specs.declared.buffer.Style.TheVariants as style
use lib.Utf8.{encode}
use Rattle.bpaf_roff.specs.declared.roff.Font.TheVariants as font
use Rattle.bpaf_doc.specs.declared.buffer.Block.TheVariants as block
use Rattle.bpaf_doc.specs.Buffer.Parts.{Part, Text, Start, End}
use Rattle.bpaf_doc.specs.Buffer.Writes.{start, end, parts, plain, literal, document_of}
use Rattle.bpaf_doc.specs.Manpage.Reader.{Control, Span, LineEnd}
use Rattle.bpaf_doc.specs.Manpage.Events.{page_events}
use Rattle.bpaf_meta.specs.Content.{short, long, both, Tree, and_of, or_of, adjacent, item, subsection, suffix, skip, no_trees, tree, Leaf, positional, command, flag, Head, head}
use Rattle.bpaf_meta.specs.Meta.Misplaced.{misplaced_items}
use Rattle.bpaf_items.specs.declared.meta_help.entry.HiTy.TheVariants as ty
use Rattle.bpaf_items.specs.Listing.ItemList.{listed, note, group_start, group_end, adjacent_start, adjacent_stop, item_list}
use Rattle.bpaf_items.specs.Listing.Keys.{word_key, flag_key, argument_key, key_cmp}
use Rattle.bpaf_items.specs.Listing.Falls.{Placed, placed, destination, heading, is_shown, group_members, heading_members, shown_entries}
use Rattle.bpaf_items.specs.Listing.Groups.{find_group}
use Rattle.bpaf_items.specs.Page.EnvTexts.{Texts, no_texts, texts_with}
use Rattle.bpaf_items.specs.Page.EntryWrites.{entry_writes, argument_env_text}
use Rattle.bpaf_items.specs.Page.HelpPage.{help_page_writes}
use Rattle.bpaf_help.specs.Chapters.{chapters_of, summary_line, collected_writes, manual_writes}

abbrev h : List Part
h = Text (codes "h") style.Text ∷ []

-- a flag without help, and one with help
abbrev b : Leaf
b = flag (short 98) [] None None

abbrev c : Leaf
c = flag (short 99) [] None (Some h)

abbrev x : Leaf
x = positional (codes "X") (Some h)

abbrev nothing : Head
nothing = head None None None None skip

-- a positional and a command of one name have one key
abbrev run : Leaf
run = command (codes "X") None (Some h) skip nothing

abbrev titled : Tree
titled = subsection (and_of (tree (item x) (tree (item run) no_trees))) h

groups_shown : shown_entries (group_members (item_list titled) 1) ≡ group_start h ty.Positional ∷ listed x ∷ group_end ty.Positional ∷ []
    × find_group (item_list (and_of (tree (item b) (tree titled no_trees)))) ≡ Some (1, 4)
    × find_group (item_list (item b)) ≡ None
groups_shown = (refl, refl, refl)

-- a flag that differs in the environment name alone is not shown again
abbrev again : Leaf
again = flag (short 98) [] (Some (codes "V")) None

differ_in_environment : shown_entries (item_list (and_of (tree (item b) (tree (item again) no_trees)))) ≡ listed b ∷ []
differ_in_environment = refl

-- the rule of repeats alone: of two flags with one key the second is shown, or the first is not
abbrev IsLeftOut : Placed → Type 0
IsLeftOut p = p.1 ≡ listed again → is_shown p ≢ true

abbrev Stays : Placed → Type 0
Stays p = p.1 ≡ listed b → is_shown p ≢ false

second_place_refused : All IsLeftOut (placed (listed b ∷ listed again ∷ []))
second_place_refused = All-cons IsLeftOut ([], listed b) ((listed b ∷ [], listed again) ∷ []) (λ is shown. cc) (All-cons IsLeftOut (listed b ∷ [], listed again) [] (λ is shown. cc) (All-nil IsLeftOut))

first_place_refused : All Stays (placed (listed b ∷ listed again ∷ []))
first_place_refused = All-cons Stays ([], listed b) ((listed b ∷ [], listed again) ∷ []) (λ is left_out. cc) (All-cons Stays (listed b ∷ [], listed again) [] (λ is left_out. cc) (All-nil Stays))

-- the rule of places alone: a flag of a group stands under its heading too
abbrev IsUnderNoHeading : Placed → Type 0
IsUnderNoHeading p = p.1 ≡ listed c → destination p ≢ heading ty.Flag

abbrev in_group : Placed
in_group = (group_start h ty.Flag ∷ [], listed c)

abbrev at_end : Placed
at_end = (group_start h ty.Flag ∷ listed c ∷ [], group_end ty.Flag)

heading_too_refused : All IsUnderNoHeading (placed (item_list (subsection (item c) h)))
heading_too_refused =
    All-cons IsUnderNoHeading ([], group_start h ty.Flag) (in_group ∷ at_end ∷ []) (λ is falls. cc)
    (All-cons IsUnderNoHeading in_group (at_end ∷ []) (λ is falls. cc) (All-cons IsUnderNoHeading at_end [] (λ is falls. cc) (All-nil IsUnderNoHeading)))

-- a note after a note is not shown
notes : shown_entries (item_list (suffix (suffix (item c) h) h)) ≡ listed c ∷ note h ty.Flag ∷ []
notes = refl

-- in an adjacent block, outside groups, what has no help falls under nothing: here
-- the last adjacent mark is the outer start
abbrev grouped : Tree
grouped = and_of (tree (subsection (adjacent (item c)) []) (tree (item b) no_trees))

left_out : heading_members (item_list (adjacent grouped)) ty.Flag ≡ adjacent_start grouped ty.Flag ∷ adjacent_stop ty.Flag ∷ []
left_out = refl

-- by class, then by name, then no help before help
key_order : key_cmp (word_key (codes "b") None) (flag_key (short 97) None) ≡ order.Less
    × key_cmp (flag_key (long (codes "a")) None) (flag_key (short 98) (Some h)) ≡ order.Greater
    × key_cmp (argument_key (both 97 (codes "a")) (codes "N") None) (argument_key (both 97 (codes "a")) (codes "N") (Some h)) ≡ order.Less
key_order = (refl, refl, refl)

-- nothing is reached in an Adjacent without a first item, so only the check of the command's own chapter finds the flag
abbrev hidden : Tree
hidden = adjacent (or_of (tree (item (command (codes "x") None None (and_of (tree (item (positional (codes "P") None)) (tree (item b) no_trees))) nothing)) (tree (item c) no_trees)))

found_by_chapter : map (λ chapter. misplaced_items chapter.content) (chapters_of (codes "app" ∷ []) nothing hidden) ≡ [] ∷ ((1, b) ∷ []) ∷ []
found_by_chapter = refl

-- ---- the pages of an application with one flag

abbrev things : List Part
things = Text (codes "Prints things") style.Text ∷ []

abbrev more : List Part
more = Text (codes "Talk more") style.Text ∷ []

abbrev sample : Tree
sample = item (flag (both 118 (codes "verbose")) [] None (Some more))

abbrev told : Head
told = head (Some things) None None None skip

abbrev sample_page : List Part
sample_page =
    Start block.Block ∷ Start block.InlineBlock ∷ Text (codes "Prints things") style.Text ∷ End block.InlineBlock ∷ End block.Block
    ∷ Start block.Block ∷ Text (codes "Usage") style.Emphasis ∷ Text (codes ": ") style.Text
    ∷ Start block.Mono ∷ Text (codes "app") style.Literal ∷ Text (codes " ") style.Text ∷ Start block.Mono ∷ Text (codes "-v") style.Literal ∷ End block.Mono ∷ End block.Mono ∷ End block.Block
    ∷ Start block.Block ∷ Start block.Section2 ∷ Text (codes "Available options:") style.Emphasis ∷ End block.Section2
    ∷ Start block.DefinitionList
    ∷ Start block.ItemTerm ∷ Text (codes "-v") style.Literal ∷ Text (codes ", ") style.Text ∷ Text (codes "--verbose") style.Literal ∷ End block.ItemTerm
    ∷ Start block.ItemBody ∷ Start block.InlineBlock ∷ Text (codes "Talk more") style.Text ∷ End block.InlineBlock ∷ End block.ItemBody
    ∷ End block.DefinitionList ∷ End block.Block ∷ []

three_pages : document_of (help_page_writes (codes "app" ∷ []) told sample skip false no_texts) ≡ sample_page
    × document_of (collected_writes (codes "app") sample told) ≡ Start block.Header ∷ Text (codes "app") style.Text ∷ End block.Header ∷ Start block.InlineBlock ∷ (sample_page ++ End block.InlineBlock ∷ [])
    × page_events (document_of (manual_writes (codes "app") sample told)) ≡
    Control (codes "SH") (codes "NAME" ∷ []) ∷ Span font.Roman (codes "app - ") ∷ Span font.Roman (codes "Prints things") ∷ LineEnd
    ∷ Control (codes "SH") (codes "SYNOPSIS" ∷ []) ∷ Span font.Bold (codes "app") ∷ Span font.Roman (codes " ") ∷ Span font.Bold (codes "-v") ∷ LineEnd
    ∷ Control (codes "PP") [] ∷ Control (codes "SS") (codes "AVAILABLE OPTIONS:" ∷ [])
    ∷ Control (codes "TP") [] ∷ Span font.Bold (codes "-v") ∷ Span font.Roman (codes ", ") ∷ Span font.Bold (codes "--verbose") ∷ LineEnd
    ∷ Span font.Roman (codes "Talk more") ∷ LineEnd ∷ Control (codes "PP") [] ∷ []
unfolding encode
three_pages = (refl, refl, refl)

-- a line of a command summary
summary : summary_line (record { path = codes "app" ∷ codes "A b" ∷ []; info = nothing; content = skip }) ≡ start block.ItemBody ∷ plain (codes "* [`app A b`" ++ 0xe2 ∷ 0x86 ∷ 0xb4 ∷ codes "](#app-a-b)") ∷ end block.ItemBody ∷ []
unfolding encode
summary = refl

-- ---- environments

abbrev set : Texts
set = texts_with no_texts (codes "V") (codes "\"7\"")

env_texts : entry_writes true no_texts (listed again) ≡ start block.ItemTerm ∷ literal (codes "-b") ∷ end block.ItemTerm ∷ start block.ItemBody ∷ plain (codes "[env:V: not set]") ∷ end block.ItemBody ∷ []
    × entry_writes true set (listed again) ≡ start block.ItemTerm ∷ literal (codes "-b") ∷ end block.ItemTerm ∷ start block.ItemBody ∷ plain (codes "[env:V: set]") ∷ end block.ItemBody ∷ []
    × entry_writes false set (listed (flag (long (codes "x")) [] (Some (codes "V")) (Some h))) ≡
    start block.ItemTerm ∷ literal (codes "    --x") ∷ end block.ItemTerm ∷ start block.ItemBody ∷ start block.InlineBlock ∷ parts h ∷ end block.InlineBlock ∷ end block.ItemBody
    ∷ start block.ItemTerm ∷ end block.ItemTerm ∷ start block.ItemBody ∷ plain (codes "Uses environment variable ") ∷ literal (codes "V") ∷ end block.ItemBody ∷ []
    × argument_env_text (codes "V") (set (codes "V")) ≡ codes "[env:V = \"7\"]"
    × argument_env_text (codes "V") (no_texts (codes "V")) ≡ codes "[env:V: N/A]"
unfolding encode
env_texts = (refl, refl, refl, refl, refl)

-- ---- an application with one command

abbrev with_command : Tree
with_command = item (command (codes "run") None None skip nothing)

two_chapters : page_events (document_of (manual_writes (codes "app") with_command nothing)) ≡
    Control (codes "PP") [] ∷ Control (codes "SH") (codes "SYNOPSIS" ∷ []) ∷ Control (codes "nf") []
    ∷ Span font.Bold (codes "app") ∷ Span font.Roman (codes " ") ∷ Span font.Italic (codes "COMMAND ...") ∷ Span font.Roman (codes "\n")
    ∷ Span font.Bold (codes "app") ∷ Span font.Roman (codes " ") ∷ Span font.Bold (codes "run") ∷ Span font.Roman (codes " ") ∷ Span font.Roman (codes "\n") ∷ LineEnd ∷ Control (codes "fi") []
    ∷ Control (codes "SH") (codes "APP " ∷ []) ∷ Control (codes "SH") (codes "SYNOPSIS" ∷ [])
    ∷ Span font.Bold (codes "app") ∷ Span font.Roman (codes " ") ∷ Span font.Italic (codes "COMMAND ...") ∷ LineEnd
    ∷ Control (codes "PP") [] ∷ Control (codes "SS") (codes "AVAILABLE COMMANDS:" ∷ []) ∷ Control (codes "TP") [] ∷ Span font.Bold (codes "run") ∷ LineEnd
    ∷ Control (codes "SH") (codes "APP RUN " ∷ []) ∷ Control (codes "SH") (codes "SYNOPSIS" ∷ [])
    ∷ Span font.Bold (codes "app") ∷ Span font.Roman (codes " ") ∷ Span font.Bold (codes "run") ∷ Span font.Roman (codes " ") ∷ []
two_chapters = refl
