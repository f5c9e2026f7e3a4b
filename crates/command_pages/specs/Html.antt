-- The page of a level with all levels below it, in HTML.
use Rattle.std.specs.Prelude.{ℕ, List, [], ◌∷◌, ◌++◌, codes, unwrap_or, Option, if◌then◌else◌}
use Rattle.std.specs.List.{list_any}
use Rattle.std.specs.Option.{option_or}
use Rattle.web_page.specs.Models.{is_ink}
use Rattle.web_page.specs.declared.errors.PageError.{PageError}
use Rattle.html_page.specs.Promises.{IsHtml, page_fault}
use Rattle.html_page.specs.View.{FrameSaid}
use Rattle.html_page.specs.declared.frame.Extent.{Extent}
use Rattle.description.specs.Content.{DescriptionSaid}
use Rattle.description_pages.specs.Chapters.{chapter_from}
use Rattle.description_pages.specs.Levels.{SubjectSaid}
use Rattle.description_pages.specs.Sections.{joined_names}
use Rattle.command_pages.specs.Pages.{TitleGiven}

-- a text that is not blank
abbrev pub inked : List ℕ → List (List ℕ)
inked text = if list_any is_ink text then text ∷ [] else []

-- the vendor and the date, those that are there, where what is given takes the place of what the description says
abbrev pub foot_of : DescriptionSaid → TitleGiven → List ℕ
foot_of d given =
    joined_names (codes ", ")
    (inked (unwrap_or (option_or given.vendor d.vendor) []) ++ inked (unwrap_or (option_or given.date d.date) []))

abbrev pub frame_said : DescriptionSaid → TitleGiven → FrameSaid
frame_said d given = record {
  language = d.language;
  contents = d.words.contents;
  usage = d.words.usage;
  foot = foot_of d given;
}

-- a reader of HTML reads the bytes, whole, as the levels and what stands around them
abbrev pub IsHtmlOf : DescriptionSaid → Extent → TitleGiven → SubjectSaid → List ℕ → Type 0
IsHtmlOf d extent given s output = IsHtml extent (frame_said d given) (chapter_from d.words s) output

abbrev pub html_page_fault : DescriptionSaid → TitleGiven → SubjectSaid → Option PageError
html_page_fault d given s = page_fault (frame_said d given) (chapter_from d.words s)
