-- The first line of a document.
use Rattle.std.specs.Prelude.{if◌then◌else◌, ◌∷◌, ◌≡◌}
use Rattle.bpaf_doc.specs.Words.{ℕ, true, List, [], Option, None, Some, list_any, before_first, after_first, Part, Text}
use Rattle.bpaf_doc.specs.Buffer.Writes.{is_newline}

-- the leading texts up to the first newline or mark, without either
abbrev pub leading_texts : List Part → List Part
leading_texts (Text bytes style ∷ ps) =
    if list_any is_newline bytes then Text (before_first is_newline bytes) style ∷ []
    else Text bytes style ∷ leading_texts ps
leading_texts _ = []

-- a document without parts has none
-- e.g. first_line_of (Text (codes "one\ntwo") style.Text ∷ Text (codes "z") style.Literal ∷ [])
--     ≡ Some (Text (codes "one") style.Text ∷ [])
abbrev pub first_line_of : List Part → Option (List Part)
first_line_of [] = None
first_line_of (p ∷ ps) = Some (leading_texts (p ∷ ps))

-- a text with a newline: what is before its first newline, and what is after it
pub record IsSplitLine (text front rest : List ℕ) : Type 0 where
  pub some : list_any is_newline text ≡ true
  pub front_is : front ≡ before_first is_newline text
  pub rest_is : rest ≡ after_first is_newline text
