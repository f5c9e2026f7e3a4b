-- What a rendered page is: a front, and a body that the reader reads, whole, as the page's events.
use Rattle.std.specs.Prelude.{◌++◌, ◌∷◌, ◌≡◌}
use Rattle.bpaf_doc.specs.Words.{ℕ, true, false, List, [], Option, unwrap_or, codes, map, Part, is_line_start, escaped, Script, no_script, with_pieces, control_pieces, preamble, rendering, Handle}
use Rattle.bpaf_doc.specs.Manpage.Reader.{Event, Control, Reads, AtLineStart}
use Rattle.bpaf_doc.specs.Manpage.Events.{page_events, word_of}

-- the text is the front, and then a body that is read as the events
pub record IsReadAfter (front : List ℕ) (events : List Event) (text : List ℕ) : Type 0 where
  pub body : List ℕ
  pub joined : text ≡ front ++ body
  pub reads : Reads AtLineStart body events

-- the page keeps newlines and is at a line start
pub record TakesDocument (page : Script) : Type 0 where
  pub keeps_newlines : page.strip_newlines ≡ false
  pub at_line_start : is_line_start (escaped Handle page.pieces) ≡ true

-- the rendering of the page, and then the document
abbrev pub IsPageOf : Script → List Part → List ℕ → Type 0
IsPageOf page document text = IsReadAfter (rendering Handle page.pieces) (page_events document) text

-- what the title line says: application, section, date, vendor and title
abbrev pub title_arguments : List ℕ → List ℕ → Option (List ℕ) → Option (List ℕ) → Option (List ℕ) → List (List ℕ)
title_arguments app section date vendor title =
    app ∷ section ∷ unwrap_or date (codes "-") ∷ unwrap_or vendor (codes "-") ∷ unwrap_or title [] ∷ []

-- the same as a control
-- e.g. title_event (codes "a\\") (codes "1") None None None
--     ≡ Control (codes "TH") (codes "a\\" ∷ codes "1" ∷ codes "-" ∷ codes "-" ∷ codes "\"\"" ∷ [])
abbrev pub title_event : List ℕ → List ℕ → Option (List ℕ) → Option (List ℕ) → Option (List ℕ) → Event
title_event app section date vendor title =
    Control (codes "TH") (map word_of (title_arguments app section date vendor title))

-- a page that holds only the title line
abbrev pub title_page : List (List ℕ) → Script
title_page arguments = with_pieces no_script (control_pieces (codes "TH") arguments)

-- the preamble, and then the title and the document
abbrev pub IsManualPageOf : Event → List Part → List ℕ → Type 0
IsManualPageOf title document text = IsReadAfter preamble (title ∷ page_events document) text

-- a document can follow a title line
abbrev pub TitlePageTakesDocument : Type 0
TitlePageTakesDocument = (arguments : List (List ℕ)) → TakesDocument (title_page arguments)

-- and is then a manual page with that title
abbrev pub TitledPageIsManualPage : Type 0
TitledPageIsManualPage =
    (arguments : List (List ℕ)) (document : List Part) (text : List ℕ) → IsPageOf (title_page arguments) document text
    → IsManualPageOf (Control (codes "TH") (map word_of arguments)) document text
