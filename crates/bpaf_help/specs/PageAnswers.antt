-- What the calls for the pages of an application return, by content.
use Rattle.std.specs.Prelude.{ℕ, ⊤, List, Option, Result, Ok, Err}
use Rattle.bpaf_doc.specs.Buffer.Parts.{Part}
use Rattle.bpaf_doc.specs.Buffer.Writes.{document_of}
use Rattle.bpaf_doc.specs.Manpage.Page.{IsManualPageOf, title_arguments, title_event, title_page}
use Rattle.bpaf_doc.specs.Manpage.Exact.{roff_page}
use Rattle.bpaf_meta.specs.Content.{Tree, Head}
use Rattle.bpaf_meta.specs.View.{leaf_of}
use Rattle.bpaf_items.specs.declared.meta_help.error.HelpError.{HelpError}
use Rattle.bpaf_items.specs.declared.meta_help.error.HelpError.TheVariants as error
use Rattle.bpaf_help.specs.Chapters.{AreWellPlaced, Chapter, IsFirstMisplacedOf, collected_writes, manual_writes}

-- why there are no pages of some chapters: this is the first misplaced item of the first chapter that has one, or an
-- allocation failed, perhaps before the first chapter was checked
abbrev pub AreErrorOf : {A : Type 0} → List Chapter → HelpError A → Type 0
AreErrorOf chapters (error.Memory e) = ⊤
AreErrorOf chapters (error.Misplaced i) = IsFirstMisplacedOf chapters (leaf_of i.now)

-- what a call for the pages of some chapters returns: pages if no item is misplaced, else why there are none
abbrev pub IsCollected : {A T : Type 0} → List Chapter → Result T (HelpError A) → Type 0
IsCollected chapters (Ok pages) = AreWellPlaced chapters
IsCollected chapters (Err refused) = AreErrorOf chapters refused

-- the document that `collect_html` makes
abbrev pub collected_document : (app : List ℕ) → Tree → Head → List Part
collected_document app t i = document_of (collected_writes app t i)

-- the document of a manual page
abbrev pub manual_document : (app : List ℕ) → Tree → Head → List Part
manual_document app t i = document_of (manual_writes app t i)

-- `render_manpage`, which makes no check: a reader of roff reads the title and the document
abbrev pub IsManualOf : (app section : List ℕ) → (date vendor title : Option (List ℕ)) → Tree → Head
    → (text : List ℕ) → Type 0
IsManualOf app section date vendor title t i text =
    IsManualPageOf (title_event app section date vendor title) (manual_document app t i) text

-- its bytes: the page that holds only the title line, with the document after it
abbrev pub manual_text : (app section : List ℕ) → (date vendor title : Option (List ℕ)) → Tree → Head → List ℕ
manual_text app section date vendor title t i =
    roff_page (title_page (title_arguments app section date vendor title)) (manual_document app t i)
