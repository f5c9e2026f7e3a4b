-- The pages of a description that a TOML text gives are written: no medium refuses a text of them.
use Rattle.std.specs.Prelude.{◌≡◌, ◌≢◌, ℕ, List, ◌∷◌, ◌++◌, flat_map, true, Some, None}
use Rattle.std.specs.List.{list_all}
use Rattle.std.specs.Str.{is_utf8}
use Rattle.toml.specs.Data.{Members}
use Rattle.web_page.specs.declared.errors.PageError.TheVariants as errors
use Rattle.description.specs.Content.{DescriptionSaid}
use Rattle.description_toml.specs.Described.{described}
use Rattle.description_pages.specs.Levels.{SubjectSaid}
use Rattle.description_pages.specs.declared.levels.Depth.{Depth}
use Rattle.command_pages.specs.Html.{html_page_fault}
use Rattle.command_pages.specs.Pages.{TitleGiven, console_page_fault, level_at, manual_page_fault, markdown_page_fault}
use Rattle.command_pages.specs.declared.given.ConsoleForm.{ConsoleForm}
use Rattle.page_laws.specs.Laws.{is_fit}
use Rattle.page_laws.specs.Texts.{fixed_texts, level_texts, option_texts, text_of}

-- each text of a description, and each name
abbrev pub all_texts : DescriptionSaid → List (List ℕ)
all_texts d =
    d.name ∷ d.section ∷ (text_of d.date ++ (text_of d.vendor ++ (text_of d.title ++ (d.language ∷ (fixed_texts d.words ++ (flat_map option_texts d.help_options ++ level_texts d.level))))))

-- the words that are given in the place of those of the description
abbrev pub given_texts : TitleGiven → List (List ℕ)
given_texts given = text_of given.date ++ text_of given.vendor

-- No page of a level has a fault on a console, as a manual page and in markdown, and where it has one in HTML, no
-- text is at fault. Words that are given for a title line are fit too.
pub record IsWritten (d : DescriptionSaid) (s : SubjectSaid) : Type 0 where
  pub console : (form : ConsoleForm) → console_page_fault form d.words s ≡ None
  pub manual : (depth : Depth) (given : TitleGiven) → list_all is_fit (given_texts given) ≡ true → manual_page_fault d depth given s ≡ None
  pub markdown : (depth : Depth) → markdown_page_fault depth d.words s ≡ None
  pub html : (given : TitleGiven) → list_all is_fit (given_texts given) ≡ true → html_page_fault d given s ≢ Some errors.Character

-- of each level to which words lead, where the texts are UTF-8, as those of every value are
abbrev pub PagesAreWritten : Type 0
PagesAreWritten =
    (ms : Members) (d : DescriptionSaid) (path : List (List ℕ)) (s : SubjectSaid) → described ms ≡ Some d → list_all is_utf8 (all_texts d) ≡ true → level_at path d ≡ Some s → IsWritten d s
