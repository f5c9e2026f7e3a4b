-- What a run writes. A writer tells which bytes it holds, here before and after
-- the run; of one that doesn't tell, nothing is said.
use Rattle.std.specs.Prelude.{◌≡◌, ℕ, List, Option, None}
use Rattle.std.specs.Io.KnownBytes.{Appends}
use Rattle.watched.specs.Watched.{AppendsPart}
use Rattle.web_page.specs.declared.errors.PageError.{PageError}
use Rattle.description.specs.Content.{DescriptionSaid}
use Rattle.clidoc_engine.specs.Chosen.{commands_of}
use Rattle.clidoc_engine.specs.Inputs.{Describes}
use Rattle.command_pages.specs.Pages.{level_at}
use Rattle.clidoc_engine.specs.Rendering.{IsPage, IsUnwritable}
use Rattle.clidoc_engine.specs.Words.{PageSaid}

-- the text gives a description, of which this is a page
pub record HasPage (p : PageSaid) (file text page : List ℕ) : Type 0 where
  pub description : DescriptionSaid
  pub described : Describes file text description
  pub whole : IsPage p description page

-- the writer was given a page of the description that the text gives, and nothing more
pub record WritesPage (p : PageSaid) (file text : List ℕ) (before after : Option (List ℕ)) : Type 0 where
  pub page : List ℕ
  pub whole : HasPage p file text page
  pub written : Appends before after page

-- the writer was given a beginning of a page of the description that the text gives, and not all of it
pub record WritesBeginning (p : PageSaid) (file text : List ℕ) (before after : Option (List ℕ)) : Type 0 where
  pub page : List ℕ
  pub whole : HasPage p file text page
  pub written : AppendsPart before after page

-- there is a page of the description that the text gives of which the fact holds
abbrev pub MakesPage : PageSaid → (file text : List ℕ) → (List ℕ → Type 0) → Type 0
MakesPage p file text Fact = (page : List ℕ) × HasPage p file text page × Fact page

-- the text gives a description, in which the commands of the page lead nowhere
pub record HasNoCommand (p : PageSaid) (file text : List ℕ) : Type 0 where
  pub description : DescriptionSaid
  pub described : Describes file text description
  pub nowhere : level_at (commands_of p) description ≡ None

-- the text gives a description, of which the page is not written, and this says why
pub record HasUnwritablePage (p : PageSaid) (error : PageError) (file text : List ℕ) : Type 0 where
  pub description : DescriptionSaid
  pub described : Describes file text description
  pub unwritable : IsUnwritable p description error
