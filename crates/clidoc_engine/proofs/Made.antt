-- The promises of the media make pages.
use Rattle.std.specs.Prelude.{◌≡◌, ℕ, List, Some, String, option_map, string_bytes}
use Rattle.std.proofs.Common.{ap, sym, ◌∙◌}
use Rattle.std.proofs.lemmas.Str.{IsUtf8-string_bytes}
use Rattle.description.specs.Content.{DescriptionSaid}
use Rattle.description_pages.specs.Levels.{SubjectSaid}
use Rattle.description_pages.specs.declared.levels.Depth.{Depth}
use Rattle.command_pages.specs.declared.given.ConsoleForm.{ConsoleForm}
use Rattle.command_pages.specs.Pages.{TitleGiven, console_page, level_at, manual_page, markdown_page}
use Rattle.html_page.specs.declared.frame.Extent.{Extent}
use Rattle.command_pages.specs.Html.{IsHtmlOf}
use Rattle.command_pages.specs.Readings.{IsManualOf, IsMarkdownOf}
use Rattle.clidoc_engine.specs.Rendering.{IsExact, IsPage, IsRendering}
use Rattle.clidoc_engine.specs.Words.{PageSaid, completion, console, differences, html, in_json, man, markdown}
use Rattle.json_of_descriptions.specs.Descriptions.{IsReadBack, json_of, json_text}
use Rattle.help_differences.specs.Texts.{HelpSaid, IsComparison}
use Rattle.completions.specs.Scripts.{IsScript}
use Rattle.completions.specs.declared.shells.Shell.{Shell}

-- what a medium answers is a page, if both are said of it
pub a_page : {A : Type 0} (p : PageSaid) (d : DescriptionSaid) (text : String A) → IsRendering p d (string_bytes text) → IsExact p d (string_bytes text) → IsPage p d (string_bytes text)
a_page p d text rendering exact = record { utf8 = IsUtf8-string_bytes text; rendering = rendering; exact = exact }

pub a_script : {A : Type 0} (shell : Shell) (d : DescriptionSaid) (text : String A) → IsScript shell d (string_bytes text) → IsPage (completion shell) d (string_bytes text)
a_script shell d text reads = a_page (completion shell) d text reads tt

pub a_json_text : {A : Type 0} (d : DescriptionSaid) (text : String A) → string_bytes text ≡ json_text d → IsReadBack (string_bytes text) (json_of d) → IsPage in_json d (string_bytes text)
a_json_text d text exact reads = a_page in_json d text reads exact

module _ {A : Type 0} (commands : List (List ℕ)) (d : DescriptionSaid) (s : SubjectSaid) (text : String A) (led : level_at commands d ≡ Some s) where
  pub a_console_page : (form : ConsoleForm) (width : ℕ) → string_bytes text ≡ console_page form width d.words s → IsPage (console form commands width) d (string_bytes text)
  a_console_page form width exact = a_page (console form commands width) d text tt (ap (option_map (console_page form width d.words)) led ∙ ap Some (sym exact))

  pub an_html_page : (extent : Extent) (given : TitleGiven) → IsHtmlOf d extent given s (string_bytes text) → IsPage (html extent commands given) d (string_bytes text)
  an_html_page extent given reads = a_page (html extent commands given) d text (s, led, reads) tt

  pub a_manual : (depth : Depth) (given : TitleGiven) → IsManualOf d depth given s (string_bytes text) → string_bytes text ≡ manual_page d depth given s → IsPage (man commands depth given) d (string_bytes text)
  a_manual depth given reads exact = a_page (man commands depth given) d text (s, led, reads) (ap (option_map (manual_page d depth given)) led ∙ ap Some (sym exact))

  pub a_markdown : (depth : Depth) → IsMarkdownOf depth d.words s (string_bytes text) → string_bytes text ≡ markdown_page depth d.words s → IsPage (markdown commands depth) d (string_bytes text)
  a_markdown depth reads exact = a_page (markdown commands depth) d text (s, led, reads) (ap (option_map (markdown_page depth d.words)) led ∙ ap Some (sym exact))

  pub a_comparison : (compared : HelpSaid) → IsComparison compared s.help_options s.level (string_bytes text) → IsPage (differences compared commands) d (string_bytes text)
  a_comparison compared found = a_page (differences compared commands) d text (s, led, found) tt
