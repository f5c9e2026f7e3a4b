-- What a run writes. The bytes that a writer holds, here before and after the run, may be known; of a writer where they
-- are `None` in both places, nothing is said.
use Rattle.std.specs.Prelude.{ℕ, List, Option}
use Rattle.std.specs.Io.KnownBytes.{Appends}
use Rattle.watched.specs.Watched.{AppendsPart}
use Rattle.bpaf_doc.specs.Buffer.Parts.{Part}
use Rattle.helpdoc_engine.specs.declared.words.Form.{Form}
use Rattle.helpdoc_engine.specs.Rendering.{IsPage}

-- the writer was given a page of the document, and nothing more
pub record WritesPage (title : List (List ℕ)) (form : Form) (document : List Part)
    (before after : Option (List ℕ)) : Type 0 where
  pub page : List ℕ
  pub whole : IsPage title form document page
  pub written : Appends before after page

-- the writer was given a beginning of a page of the document, and not all of it
pub record WritesBeginning (title : List (List ℕ)) (form : Form) (document : List Part)
    (before after : Option (List ℕ)) : Type 0 where
  pub page : List ℕ
  pub whole : IsPage title form document page
  pub written : AppendsPart before after page

-- there is a page of the document for which the fact holds
abbrev pub HasPage : List (List ℕ) → Form → List Part → (List ℕ → Type 0) → Type 0
HasPage title form document Fact = (page : List ℕ) × IsPage title form document page × Fact page
