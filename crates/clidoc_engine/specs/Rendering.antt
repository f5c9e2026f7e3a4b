-- What is promised of a page of a description.
use Rattle.std.specs.Prelude.{◌≡◌, ◌==◌, ◌&&◌, ℕ, ⊤, Bool, false, not}
use Rattle.std.specs.Prelude.{List, IsUtf8, Option, Some, option_map}
use Rattle.web_page.specs.declared.errors.PageError.{PageError}
use Rattle.web_page.specs.declared.errors.PageError.TheVariants as making
use Rattle.page_model.specs.declared.fault.PageFault.{PageFault}
use Rattle.page_model.specs.declared.fault.PageFault.TheVariants.{Character}
use Rattle.description.specs.Content.{DescriptionSaid}
use Rattle.description_pages.specs.Levels.{SubjectSaid}
use Rattle.command_pages.specs.Pages.{console_page, console_page_fault, level_at, manual_page, manual_page_fault, markdown_page, markdown_page_fault}
use Rattle.command_pages.specs.Html.{IsHtmlOf, html_page_fault}
use Rattle.command_pages.specs.Readings.{IsManualOf, IsMarkdownOf}
use Rattle.completions.specs.Scripts.{IsScript}
use Rattle.help_differences.specs.Texts.{IsComparison, has_no_name}
use Rattle.json_of_descriptions.specs.Descriptions.{IsReadBack, json_of, json_text}
use Rattle.clidoc_engine.specs.Words.{PageSaid, console, html, markdown, man, completion, in_json, differences}

-- ---- of a page

-- the level that the commands lead to is one of which this holds
abbrev pub AtLevel : (commands : List (List ℕ)) → DescriptionSaid → (SubjectSaid → Type 0) → Type 0
AtLevel commands d P = (s : SubjectSaid) × (level_at commands d ≡ Some s) × P s

-- What a reader of the page's medium reads in the bytes: what the page says. None reads a page on a console. Of
-- differences it is which names there are.
abbrev pub IsRendering : PageSaid → DescriptionSaid → List ℕ → Type 0
IsRendering (console form commands width) d output = ⊤
IsRendering (html extent commands given) d output = AtLevel commands d (λ s. IsHtmlOf d extent given s output)
IsRendering (markdown commands depth) d output = AtLevel commands d (λ s. IsMarkdownOf depth d.words s output)
IsRendering (man commands depth given) d output = AtLevel commands d (λ s. IsManualOf d depth given s output)
IsRendering (completion shell) d output = IsScript shell d output
IsRendering in_json d output = IsReadBack output (json_of d)
IsRendering (differences text commands) d output = AtLevel commands d (λ s. IsComparison text s.help_options s.level output)

-- Exactly these bytes, or nothing where `IsRendering` says enough: of a page in HTML its tree, and not how that is
-- spelled, of completions the words that are read of their data, and of differences every line.
abbrev pub IsExact : PageSaid → DescriptionSaid → List ℕ → Type 0
IsExact (console form commands width) d output = option_map (console_page form width d.words) (level_at commands d) ≡ Some output
IsExact (html extent commands given) d output = ⊤
IsExact (markdown commands depth) d output = option_map (markdown_page depth d.words) (level_at commands d) ≡ Some output
IsExact (man commands depth given) d output = option_map (manual_page d depth given) (level_at commands d) ≡ Some output
IsExact (completion shell) d output = ⊤
IsExact in_json d output = output ≡ json_text d
IsExact (differences text commands) d output = ⊤

-- this page of the description: a text of which both hold
pub record IsPage (p : PageSaid) (d : DescriptionSaid) (output : List ℕ) : Type 0 where
  pub utf8 : IsUtf8 output
  pub rendering : IsRendering p d output
  pub exact : IsExact p d output

-- ---- of differences

-- the help text has no name, so that each name that is found is one of the description
abbrev pub is_of_no_name : PageSaid → Bool
is_of_no_name (console form commands width) = false
is_of_no_name (html extent commands given) = false
is_of_no_name (markdown commands depth) = false
is_of_no_name (man commands depth given) = false
is_of_no_name (completion shell) = false
is_of_no_name in_json = false
is_of_no_name (differences text commands) = has_no_name text.printed

-- a page of that many bytes needs a line that says so
abbrev pub needs_advice : PageSaid → (written : ℕ) → Bool
needs_advice p written = not (written == 0) && is_of_no_name p

-- ---- when there is none

-- a character that no page may hold, for media other than HTML
abbrev pub HasCharacter : Option PageFault → PageError → Type 0
HasCharacter fault error = (fault ≡ Some Character) × (error ≡ making.Character)

-- The page of what the commands lead to is not written, and this says why. Of a page
-- in HTML it is the first thing that no such page has.
abbrev pub IsUnwritable : PageSaid → DescriptionSaid → PageError → Type 0
IsUnwritable (console form commands width) d error = AtLevel commands d (λ s. HasCharacter (console_page_fault form d.words s) error)
IsUnwritable (html extent commands given) d error = AtLevel commands d (λ s. html_page_fault d given s ≡ Some error)
IsUnwritable (markdown commands depth) d error = AtLevel commands d (λ s. HasCharacter (markdown_page_fault depth d.words s) error)
IsUnwritable (man commands depth given) d error = AtLevel commands d (λ s. HasCharacter (manual_page_fault d depth given s) error)
IsUnwritable (completion shell) d error = ⊥
IsUnwritable in_json d error = ⊥
IsUnwritable (differences text commands) d error = ⊥
