-- What a page says, wherever its texts lie in memory.
use Rattle.std.specs.Prelude.{ℕ, List, Option}
use Rattle.page_model.specs.declared.parts.Rank.{Rank}

-- a piece of a line, by the bytes of its text
pub data Piece : Type 0 where
  words : List ℕ → Piece
  literal : List ℕ → Piece
  value : List ℕ → Piece
  link : List ℕ → Piece
  page : List ℕ → Piece

abbrev pub Line : Type 0
Line = List Piece

pub data BlockSaid : Type 0 where
  paragraph : List Line → BlockSaid
  code : List (List ℕ) → BlockSaid
  bullets : List (List Line) → BlockSaid

-- to the page of a name, or to what stands under a title on the same page
pub data TargetSaid : Type 0 where
  to_page : List ℕ → TargetSaid
  to_heading : List ℕ → TargetSaid

-- with what it is called, and where it leads
pub record EntrySaid : Type 0 where
  pub word : List ℕ
  pub target : Option TargetSaid
  pub terms : List Line
  pub body : List BlockSaid

pub record FormSaid : Type 0 where
  pub name : List ℕ
  pub items : List Line

pub data PartSaid : Type 0 where
  heading : Rank → List ℕ → PartSaid
  usage : List FormSaid → PartSaid
  block : BlockSaid → PartSaid
  entries : List EntrySaid → PartSaid

mutual
  -- a level with those below it: what it is called on the whole page, and under the
  -- level above; what it is about; and what follows that
  pub data ChapterSaid : Type 0 where
    chapter : (title name : List ℕ) → (about : List BlockSaid) → List PartSaid → (below : ChaptersSaid) → ChapterSaid

  -- levels, in order
  pub data ChaptersSaid : Type 0 where
    no_chapters : ChaptersSaid
    chapters : ChapterSaid → ChaptersSaid → ChaptersSaid
