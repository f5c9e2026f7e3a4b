-- What the law of pages sees: a control character on a page is a fault of each medium, and
-- a reader of TOML that let one pass would break the law.
use Rattle.std.proofs.Common.{◌≡◌, ℕ, Bool, true, false, ◌||◌, ◌==◌, List, [], ◌∷◌, ◌++◌, codes, Some, None, refl}
use Rattle.std.specs.Str.{chars}
use Rattle.std.proofs.lemmas.Bool.{false≢true}
use Rattle.web_page.specs.declared.errors.PageError.TheVariants as errors
use Rattle.page_model.specs.Permitted.{is_permitted}
use Rattle.page_model.specs.declared.fault.PageFault.TheVariants.{Character}
use Rattle.description.specs.Content.{DescriptionSaid, level, no_groups, no_commands}
use Rattle.description.specs.Words.{english}
use Rattle.description_toml.specs.Described.Texts.{is_text_character}
use Rattle.description_pages.specs.declared.levels.Depth.TheVariants.{Alone}
use Rattle.command_pages.specs.Html.{html_page_fault}
use Rattle.command_pages.specs.Pages.{TitleGiven, application, console_page_fault, manual_page_fault, markdown_page_fault}
use Rattle.command_pages.specs.declared.given.ConsoleForm.TheVariants.{Usage}

-- `ti`, an escape character, `de`
abbrev escaped : List ℕ
escaped = codes "ti" ++ (27 ∷ codes "de")

abbrev named : List ℕ → DescriptionSaid
named name = record {
  name = name;
  section = codes "1";
  date = None;
  vendor = None;
  title = None;
  language = codes "en";
  words = english;
  help_options = [];
  level = level (record { about = None; header = None; footer = None; usage = None; topics = [] }) false [] [] no_groups [] no_commands;
}

abbrev nothing : TitleGiven
nothing = record { date = None; vendor = None }

-- ---- a character that is refused

on_console : console_page_fault Usage english (application (named escaped)) ≡ Some Character
unfolding chars
on_console = refl

as_manual : manual_page_fault (named escaped) Alone nothing (application (named escaped)) ≡ Some Character
unfolding chars
as_manual = refl

in_markdown : markdown_page_fault Alone english (application (named escaped)) ≡ Some Character
unfolding chars
in_markdown = refl

in_html : html_page_fault (named escaped) nothing (application (named escaped)) ≡ Some errors.Character
unfolding chars
in_html = refl

-- a date that is given may have one, too
given_date : manual_page_fault (named (codes "tide")) Alone (record { date = Some escaped; vendor = None }) (application (named (codes "tide"))) ≡ Some Character
unfolding chars
given_date = refl

-- ---- a reader that lets it pass

-- What such a reader gives is plain by its own test, so no law but that of pages refuses it.
abbrev lets_escape : ℕ → Bool
lets_escape c = c == 27 || is_text_character c

refused : ((c : ℕ) → lets_escape c ≡ true → is_permitted c ≡ true) → ⊥
refused h = false≢true (h 27 refl)
