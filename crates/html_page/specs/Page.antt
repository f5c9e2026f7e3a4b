-- The page of a chapter and of those below it, element by element.
use Rattle.std.specs.Prelude.{ℕ, List, [], ◌∷◌, ◌++◌, flat_map, codes, Bool, true, false, ◌||◌, if◌then◌else◌, Option, Some, None}
use Rattle.std.specs.List.{join_by, list_any}
use Rattle.web_page.specs.Models.{is_ink}
use Rattle.web_page.specs.declared.elements.Element.TheVariants.{Code, Dd, Dl, Dt, Footer, Header, Heading, Li, Main, Nav, P, Pre, Section, Strong, Ul, Var}
use Rattle.web_page.specs.declared.elements.Level.TheVariants.{One, Two, Three}
use Rattle.page_model.specs.Content.{Piece, words, literal, value, link, page, Line, BlockSaid, paragraph, code, bullets, TargetSaid, to_page, to_heading, EntrySaid, FormSaid, PartSaid, heading, usage, block, entries, ChapterSaid, chapter, ChaptersSaid, no_chapters, chapters}
use Rattle.html_page.specs.Events as events
use Rattle.html_page.specs.Events.{Event, break_line, inside, inside_with_id, link_to, say, text_in}
use Rattle.html_page.specs.Ids.{chapter_id, entry_id, heading_id, numbered, times}
use Rattle.html_page.specs.View.{FrameSaid}

-- ---- lines

-- what is typed as it stands is code, and what stands for a value a variable; the name of a page is its text
abbrev pub piece_events : Piece → List Event
piece_events (words bytes) = say bytes ∷ []
piece_events (literal bytes) = text_in Code bytes
piece_events (value bytes) = text_in Var bytes
piece_events (link address) = events.link address (say address ∷ [])
piece_events (page name) = say name ∷ []

abbrev pub line_events : Line → List Event
line_events = flat_map piece_events

-- lines with a line break between two
abbrev pub lines_events : List Line → List Event
lines_events = join_by line_events (break_line ∷ [])

-- ---- blocks

abbrev pub item_events : List Line → List Event
item_events item = inside Li (lines_events item)

-- lines of code with a newline between two
abbrev pub code_events : List (List ℕ) → List Event
code_events = join_by (λ line. say line ∷ []) (say (codes "\n") ∷ [])

abbrev pub block_events : BlockSaid → List Event
block_events (paragraph lines) = inside P (lines_events lines)
block_events (code lines) = inside Pre (inside Code (code_events lines))
block_events (bullets items) = inside Ul (flat_map item_events items)

abbrev pub blocks_events : List BlockSaid → List Event
blocks_events = flat_map block_events

-- ---- a usage

-- what is typed as it stands is strong
abbrev pub usage_piece : Piece → List Event
usage_piece (words bytes) = say bytes ∷ []
usage_piece (literal bytes) = text_in Strong bytes
usage_piece (value bytes) = text_in Var bytes
usage_piece (link address) = say address ∷ []
usage_piece (page name) = say name ∷ []

-- an item after a blank
abbrev pub usage_item : Line → List Event
usage_item item = say (codes " ") ∷ inside Code (flat_map usage_piece item)

-- the name and each item are code by themselves
abbrev pub form_events : FormSaid → List Event
form_events form = inside Code (text_in Strong form.name) ++ flat_map usage_item form.items

-- a line for each form, under the word for a usage
abbrev pub usage_events : (title : List ℕ) → List FormSaid → List Event
usage_events title forms = text_in (Heading Three) title ++ inside Pre (join_by form_events (say (codes "\n") ∷ []) forms)

-- ---- entries

-- the entries of a chapter before one, by their words, and the headings
pub record Before : Type 0 where
  pub words : List (List ℕ)
  pub headings : List (List ℕ)

abbrev pub nothing_before : Before
nothing_before = record { words = []; headings = [] }

abbrev pub terms_events : List Line → List Event
terms_events = join_by line_events (say (codes ", ") ∷ [])

-- a term with an id, which is a link to itself
abbrev pub own_term : (id : List ℕ) → List Line → List Event
own_term id terms = inside_with_id Dt id (link_to id (terms_events terms))

-- a term that is a link to the section of this title
abbrev pub leading_term : (title : List ℕ) → List Line → List Event
leading_term title terms = inside Dt (link_to (chapter_id title) (terms_events terms))

-- after the entries before it, in the chapter of this title
abbrev pub id_after : (title : List ℕ) → (before : List (List ℕ)) → (word : List ℕ) → List ℕ
id_after title before word = numbered (entry_id title word) (times word before)

abbrev pub term_events : (title : List ℕ) → (before : List (List ℕ)) → (word : List ℕ) → Option TargetSaid → List Line → List Event
term_events title before word None terms = own_term (id_after title before word) terms
term_events title before word (Some (to_page name)) terms = own_term (id_after title before word) terms
term_events title before word (Some (to_heading other)) terms = leading_term other terms

-- the word of an entry that has an id
abbrev pub word_with_id : (word : List ℕ) → Option TargetSaid → List (List ℕ)
word_with_id word None = word ∷ []
word_with_id word (Some (to_page name)) = word ∷ []
word_with_id word (Some (to_heading other)) = []

abbrev pub entry_events : (title : List ℕ) → (before : List (List ℕ)) → EntrySaid → List Event
entry_events title before e = term_events title before e.word e.target e.terms ++ inside Dd (blocks_events e.body)

abbrev pub entry_words : EntrySaid → List (List ℕ)
entry_words e = word_with_id e.word e.target

abbrev pub entries_events : (title : List ℕ) → (before : List (List ℕ)) → List EntrySaid → List Event
entries_events title before [] = []
entries_events title before (e ∷ es) = entry_events title before e ++ entries_events title (before ++ entry_words e) es

-- ---- the parts of a chapter

abbrev pub heading_after : (title : List ℕ) → (before : List (List ℕ)) → (heading : List ℕ) → List ℕ
heading_after title before text = numbered (heading_id title text) (times text before)

-- a part after those before it
abbrev pub part_events : FrameSaid → (title : List ℕ) → Before → PartSaid → List Event
part_events frame title before (heading rank text) = inside_with_id (Heading Three) (heading_after title before.headings text) (say text ∷ [])
part_events frame title before (usage forms) = usage_events frame.usage forms
part_events frame title before (block shown) = block_events shown
part_events frame title before (entries listed) = inside Dl (entries_events title before.words listed)

-- what stands before the next part
abbrev pub counted : Before → PartSaid → Before
counted before (heading rank text) = record before { headings = before.headings ++ text ∷ [] }
counted before (usage forms) = before
counted before (block shown) = before
counted before (entries listed) = record before { words = before.words ++ flat_map entry_words listed }

abbrev pub parts_events : FrameSaid → (title : List ℕ) → Before → List PartSaid → List Event
parts_events frame title before [] = []
parts_events frame title before (part ∷ parts) = part_events frame title before part ++ parts_events frame title (counted before part) parts

-- ---- sections

-- the title and what a chapter is about, which of the top one stand above all sections
abbrev pub own_section : FrameSaid → (title : List ℕ) → List PartSaid → List Event
own_section frame title parts = inside_with_id Section (chapter_id title) (text_in (Heading Two) title ++ parts_events frame title nothing_before parts)

abbrev pub lone_section : FrameSaid → (title : List ℕ) → List PartSaid → List Event
lone_section frame title parts = inside_with_id Section (chapter_id title) (parts_events frame title nothing_before parts)

abbrev pub lower_section : FrameSaid → (title : List ℕ) → (about : List BlockSaid) → List PartSaid → List Event
lower_section frame title about parts =
    inside_with_id Section (chapter_id title) (text_in (Heading Two) title ++ (blocks_events about ++ parts_events frame title nothing_before parts))

-- each chapter before those below it
abbrev mutual
  pub chapter_sections : FrameSaid → ChapterSaid → List Event
  chapter_sections frame (chapter title name about parts below) = lower_section frame title about parts ++ chapters_sections frame below

  pub chapters_sections : FrameSaid → ChaptersSaid → List Event
  chapters_sections frame no_chapters = []
  chapters_sections frame (chapters first others) = chapter_sections frame first ++ chapters_sections frame others

-- of the top, which has no title of its own where it is alone
abbrev pub top_section : FrameSaid → (title : List ℕ) → List PartSaid → ChaptersSaid → List Event
top_section frame title parts no_chapters = lone_section frame title parts
top_section frame title parts (chapters first others) = own_section frame title parts

abbrev pub main_events : FrameSaid → ChapterSaid → List Event
main_events frame (chapter title name about parts below) = inside Main (top_section frame title parts below ++ chapters_sections frame below)

-- ---- links to all sections

abbrev pub headings_of : PartSaid → List (List ℕ)
headings_of (heading rank text) = text ∷ []
headings_of (usage forms) = []
headings_of (block shown) = []
headings_of (entries listed) = []

abbrev pub heading_link : (title : List ℕ) → (before : List (List ℕ)) → (heading : List ℕ) → List Event
heading_link title before text = inside Li (link_to (heading_after title before text) (say text ∷ []))

abbrev pub heading_links : (title : List ℕ) → (before headings : List (List ℕ)) → List Event
heading_links title before [] = []
heading_links title before (text ∷ texts) = heading_link title before text ++ heading_links title (before ++ text ∷ []) texts

-- whether a chapter has something to list: a heading, or a chapter below
abbrev pub has_chapters : ChaptersSaid → Bool
has_chapters no_chapters = false
has_chapters (chapters first others) = true

abbrev pub is_heading : PartSaid → Bool
is_heading (heading rank text) = true
is_heading (usage forms) = false
is_heading (block shown) = false
is_heading (entries listed) = false

abbrev pub has_links : List PartSaid → ChaptersSaid → Bool
has_links parts below = list_any is_heading parts || has_chapters below

abbrev pub listed_links : (are_there : Bool) → List Event → List Event
listed_links true items = inside Ul items
listed_links false items = []

abbrev mutual
  -- a link with the name of the chapter, and those to its headings and to what is below it
  pub chapter_links : ChapterSaid → List Event
  chapter_links (chapter title name about parts below) =
      inside Li (link_to (chapter_id title) (say name ∷ []) ++ listed_links (has_links parts below)
      (heading_links title [] (flat_map headings_of parts) ++ chapters_links below))

  pub chapters_links : ChaptersSaid → List Event
  chapters_links no_chapters = []
  chapters_links (chapters first others) = chapter_links first ++ chapters_links others

-- where there is any besides the first
abbrev pub nav_events : FrameSaid → ChapterSaid → List Event
nav_events frame (chapter title name about parts below) =
    if has_links parts below then inside Nav (text_in (Heading Two) frame.contents ++ inside Ul (chapter_links (chapter title name about parts below)))
    else []

-- ---- the page

abbrev pub title_of : ChapterSaid → List ℕ
title_of (chapter title name about parts below) = title

abbrev pub header_events : ChapterSaid → List Event
header_events (chapter title name about parts below) = inside Header (text_in (Heading One) title ++ blocks_events about)

abbrev pub footer_events : (foot : List ℕ) → List Event
footer_events foot = if list_any is_ink foot then inside Footer (text_in P foot) else []

-- what the body holds
abbrev pub page_events : FrameSaid → ChapterSaid → List Event
page_events frame top = header_events top ++ (nav_events frame top ++ (main_events frame top ++ footer_events frame.foot))
