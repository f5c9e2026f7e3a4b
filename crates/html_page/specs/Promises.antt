-- What is promised of a page.
use Rattle.std.specs.Prelude.{◌≡◌, ◌⊎◌, ℕ, List, Option, Some, None, Result, Ok, Err, alloc_error}
use Rattle.web_page.specs.Tree.{Nodes}
use Rattle.web_page.specs.Reader.{Draft}
use Rattle.web_page.specs.Models.{ReadsAs, ReadsInBody}
use Rattle.web_page.specs.Calls as calls
use Rattle.web_page.specs.Calls.{finish_fault, new_page, whole_page}
use Rattle.web_page.specs.declared.errors.PageError.{PageError}
use Rattle.web_page.specs.declared.errors.PageError.TheVariants.{Refused}
use Rattle.page_model.specs.Content.{ChapterSaid}
use Rattle.html_page.specs.Events.{events_fault, first_fault, with_events}
use Rattle.html_page.specs.Page.{page_events, title_of}
use Rattle.html_page.specs.Style.{style_sheet}
use Rattle.html_page.specs.View.{FrameSaid}
use Rattle.html_page.specs.declared.frame.Extent as declared
use Rattle.html_page.specs.declared.frame.Extent.TheVariants as extent

-- a page with its head, and nothing in its body
abbrev pub begun_page : FrameSaid → ChapterSaid → Draft
begun_page frame top = new_page frame.language (title_of top) style_sheet

-- the page with all that its body holds
abbrev pub page_draft : FrameSaid → ChapterSaid → Draft
page_draft frame top = with_events (begun_page frame top) (page_events frame top)

-- its tree
abbrev pub page_tree : FrameSaid → ChapterSaid → Nodes
page_tree frame top = whole_page (page_draft frame top)

-- A text of a page reads, whole, as its tree; what stands in its body alone reads,
-- in the body of any page, as what the body holds.
abbrev pub ReadsBack : declared.Extent → Draft → List ℕ → Type 0
ReadsBack extent.Page draft text = ReadsAs text (whole_page draft)
ReadsBack extent.Fragment draft text = ReadsInBody text draft.nodes

abbrev pub IsHtml : declared.Extent → FrameSaid → ChapterSaid → List ℕ → Type 0
IsHtml extent frame top text = ReadsBack extent (page_draft frame top) text

-- ---- faults

abbrev pub head_fault : FrameSaid → ChapterSaid → Option PageError
head_fault frame top = calls.page_fault frame.language (title_of top) style_sheet

-- the first thing that no page has: in the head, in the body, or at the end
abbrev pub page_fault : FrameSaid → ChapterSaid → Option PageError
page_fault frame top =
    first_fault (head_fault frame top) (first_fault (events_fault (begun_page frame top) (page_events frame top)) (finish_fault (page_draft frame top)))

-- a call fails where there is a fault; it fails with that, or where memory is refused
abbrev pub FailsBy : {T : Type 0} → Option PageError → Result T PageError → Type 0
FailsBy fault (Ok made) = fault ≡ None
FailsBy fault (Err error) = (error ≡ Refused alloc_error) ⊎ (fault ≡ Some error)
