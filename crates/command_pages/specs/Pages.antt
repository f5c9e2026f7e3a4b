-- The pages of the levels of a description: the parts that each says, and its bytes.
use Rattle.std.specs.Prelude.{◌≡◌, ◌⊎◌, ℕ, List, [], ◌∷◌, ◌++◌, alloc_error, codes, flat_map, unwrap_or, Option, Some, None, Result, IfErr}
use Rattle.std.specs.Option.{option_or}
use Rattle.console_page.specs.Page.{forms_text}
use Rattle.console_page.specs.Page.{page_text as console_text}
use Rattle.console_page.specs.Promises.{usage_fault}
use Rattle.console_page.specs.Promises.{page_fault as console_fault}
use Rattle.man_page.specs.Exact.{page_text as man_text}
use Rattle.man_page.specs.Kept.{TitleSaid}
use Rattle.man_page.specs.Promises.{page_fault as man_fault}
use Rattle.markdown_page.specs.Exact.{page_text as markdown_text}
use Rattle.markdown_page.specs.Promises.{page_fault as markdown_fault}
use Rattle.page_model.specs.Content.{PartSaid}
use Rattle.page_model.specs.declared.fault.PageFault.{PageFault}
use Rattle.page_model.specs.declared.fault.PageFault.TheVariants.{Refused}
use Rattle.description.specs.Content.{DescriptionSaid}
use Rattle.description_pages.specs.Consoles.{console_of, usage_of}
use Rattle.description_pages.specs.Levels.{SubjectSaid}
use Rattle.description_pages.specs.Manuals.{manual_below, manual_of}
use Rattle.description_pages.specs.Markdowns.{markdown_below, markdown_of}
use Rattle.description_pages.specs.Sections.{joined_names, page_name}
use Rattle.description_pages.specs.Subjects.{led_to, subjects_after}
use Rattle.description_pages.specs.declared.levels.Depth.{Depth}
use Rattle.description_pages.specs.declared.levels.Depth.TheVariants.{Alone, Deep}
use Rattle.description_pages.specs.declared.sections.Detail.TheVariants as Detail
use Rattle.description.specs.Words.{WordsSaid}
use Rattle.command_pages.specs.declared.given.ConsoleForm.{ConsoleForm}
use Rattle.command_pages.specs.declared.given.ConsoleForm.TheVariants.{Usage, Full, Brief}

-- ---- what is given

-- the words of the title line of a manual page, and of the foot of a page in HTML,
-- that take the place of the description's
pub record TitleGiven : Type 0 where
  pub date : Option (List ℕ)
  pub vendor : Option (List ℕ)

-- ---- faults

-- if a call fails, then with the fault of its page, or because an allocation failed
abbrev pub MayFailBy : {T : Type 0} → Option PageFault → Result T PageFault → Type 0
MayFailBy fault result = IfErr result (λ error. (error ≡ Refused alloc_error) ⊎ (fault ≡ Some error))

-- ---- levels

-- the top level
abbrev pub application : DescriptionSaid → SubjectSaid
application d = record { names = d.name ∷ []; help = None; help_options = d.help_options; level = d.level }

-- the level that commands lead to from there
abbrev pub level_at : (commands : List (List ℕ)) → DescriptionSaid → Option SubjectSaid
level_at commands d = led_to commands (application d)

-- ---- on the console

abbrev pub console_page : ConsoleForm → (width : ℕ) → WordsSaid → SubjectSaid → List ℕ
console_page Usage width fixed s = forms_text width (usage_of fixed s)
console_page Full width fixed s = console_text width fixed.usage (console_of fixed Detail.Full s)
console_page Brief width fixed s = console_text width fixed.usage (console_of fixed Detail.Brief s)

abbrev pub console_page_fault : ConsoleForm → WordsSaid → SubjectSaid → Option PageFault
console_page_fault Usage fixed s = usage_fault (usage_of fixed s)
console_page_fault Full fixed s = console_fault fixed.usage (console_of fixed Detail.Full s)
console_page_fault Brief fixed s = console_fault fixed.usage (console_of fixed Detail.Brief s)

-- ---- manual pages

-- The words that are given take the place of those of the description. One that neither has is empty.
abbrev pub title_line : DescriptionSaid → TitleGiven → SubjectSaid → TitleSaid
title_line d given s = record {
  name = page_name s.names;
  section = d.section;
  date = unwrap_or (option_or given.date d.date) [];
  vendor = unwrap_or (option_or given.vendor d.vendor) [];
  title = unwrap_or d.title [];
}

-- the level itself, and where the page is deep, each level below it after it
abbrev pub manual_parts : Depth → WordsSaid → SubjectSaid → List PartSaid
manual_parts Alone fixed s = manual_of fixed s
manual_parts Deep fixed s = manual_of fixed s ++ flat_map (manual_below fixed) (subjects_after s)

abbrev pub manual_page : DescriptionSaid → Depth → TitleGiven → SubjectSaid → List ℕ
manual_page d depth given s = man_text (title_line d given s) (manual_parts depth d.words s)

abbrev pub manual_page_fault : DescriptionSaid → Depth → TitleGiven → SubjectSaid → Option PageFault
manual_page_fault d depth given s = man_fault (title_line d given s) (manual_parts depth d.words s)

-- ---- markdown

-- the names that lead to the level, with a blank between two
abbrev pub title_of : SubjectSaid → List ℕ
title_of s = joined_names (codes " ") s.names

abbrev pub markdown_parts : Depth → WordsSaid → SubjectSaid → List PartSaid
markdown_parts Alone fixed s = markdown_of fixed Alone s
markdown_parts Deep fixed s = markdown_of fixed Deep s ++ flat_map (markdown_below fixed) (subjects_after s)

abbrev pub markdown_page : Depth → WordsSaid → SubjectSaid → List ℕ
markdown_page depth fixed s = markdown_text (title_of s) (markdown_parts depth fixed s)

abbrev pub markdown_page_fault : Depth → WordsSaid → SubjectSaid → Option PageFault
markdown_page_fault depth fixed s = markdown_fault (title_of s) (markdown_parts depth fixed s)
