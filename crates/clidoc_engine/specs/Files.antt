-- The files of all pages of a description.
use Rattle.std.specs.Prelude.{codes, ◌≡◌, ℕ, ⊤, string_bytes, List, [], ◌∷◌, ◌++◌, map, flat_map}
use Rattle.description.specs.Content.{DescriptionSaid}
use Rattle.html_page.specs.declared.frame.Extent.TheVariants.{Page}
use Rattle.description_pages.specs.Levels.{SubjectSaid}
use Rattle.description_pages.specs.Sections.{page_name}
use Rattle.description_pages.specs.Subjects.{all_from}
use Rattle.description_pages.specs.declared.levels.Depth.TheVariants.{Alone}
use Rattle.command_pages.specs.Html.{IsHtmlOf}
use Rattle.command_pages.specs.Readings.{IsManualOf, IsMarkdownOf}
use Rattle.clidoc_engine.specs.declared.files.PageFile.{PageFile}
use Rattle.clidoc_engine.specs.Inputs.{Describes}
use Rattle.command_pages.specs.Pages.{TitleGiven, application, manual_page, markdown_page}

-- ---- which there are

-- the name of a file, and what it holds
pub record FileSaid : Type 0 where
  pub name : List ℕ
  pub page : List ℕ

abbrev pub file_said : {A : Type 0} → PageFile A → FileSaid
file_said file = record { name = string_bytes file.name; page = string_bytes file.page }

-- the manual page of a level: the name of the page, a dot and the section
abbrev pub manual_file : DescriptionSaid → TitleGiven → SubjectSaid → FileSaid
manual_file d given s = record { name = page_name s.names ++ (codes "." ++ d.section); page = manual_page d Alone given s }

abbrev pub markdown_file : DescriptionSaid → SubjectSaid → FileSaid
markdown_file d s = record { name = page_name s.names ++ codes ".md"; page = markdown_page Alone d.words s }

abbrev pub level_files : DescriptionSaid → TitleGiven → SubjectSaid → List FileSaid
level_files d given s = manual_file d given s ∷ markdown_file d s ∷ []

-- both read as what they say
pub record AreRead (d : DescriptionSaid) (given : TitleGiven) (s : SubjectSaid) : Type 0 where
  pub manual : IsManualOf d Alone given s (manual_file d given s).page
  pub markdown : IsMarkdownOf Alone d.words s (markdown_file d s).page

abbrev pub AreAllRead : DescriptionSaid → TitleGiven → List SubjectSaid → Type 0
AreAllRead d given [] = ⊤
AreAllRead d given (s ∷ others) = AreRead d given s × AreAllRead d given others

-- the complete HTML page of all: a text that a reader of HTML reads as its tree
pub record IsWebFile (d : DescriptionSaid) (given : TitleGiven) (file : FileSaid) : Type 0 where
  pub name : file.name ≡ d.name ++ codes ".html"
  pub read : IsHtmlOf d Page given (application d) file.page

-- the pages of each level, and after them that of all
pub record AreFiles (d : DescriptionSaid) (given : TitleGiven) (files : List FileSaid) : Type 0 where
  pub web : FileSaid
  pub exact : files ≡ flat_map (level_files d given) (all_from (application d)) ++ web ∷ []
  pub levels : AreAllRead d given (all_from (application d))
  pub page : IsWebFile d given web

-- the text gives a description, whose files these are
pub record HasFiles (file text : List ℕ) (given : TitleGiven) (files : List FileSaid) : Type 0 where
  pub description : DescriptionSaid
  pub described : Describes file text description
  pub whole : AreFiles description given files

-- ---- their names

abbrev pub names_of : List FileSaid → List (List ℕ)
names_of = map (λ file. file.name)
