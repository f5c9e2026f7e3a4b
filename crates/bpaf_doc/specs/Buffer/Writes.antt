-- What is written into a document, and the parts that it leaves there.
use Rattle.std.specs.Prelude.{if◌then◌else◌, ◌++◌, ◌==◌, ◌∷◌}
use Rattle.bpaf_doc.specs.Words.{ℕ, Bool, List, [], fold, flat_map, codes, list_any, before_first, after_first, Style, Block, Part, Text, Start, End}
use Rattle.std.specs.Borrow.{Bor}
use Rattle.bpaf_roff.specs.Bytes as byte
use Rattle.bpaf_doc.specs.declared.buffer.Style.TheVariants as style
use Rattle.bpaf_doc.specs.declared.buffer.Block.TheVariants as block
use Rattle.bpaf_doc.specs.contracts.buffer.StylePartialEq.TheImpl as style_eq

-- a text, the start or the end of a block, or the parts of a whole document
pub data Write : Type 0 where
  text : List ℕ → Style → Write
  start : Block → Write
  end : Block → Write
  parts : List Part → Write

abbrev pub same_style : Style → Style → Bool
same_style = (style_eq.ghosts).eq

-- a last part, and after it a text, which joins the last part if that is a text of the same style
abbrev pub part_then_text : Part → List ℕ → Style → List Part
part_then_text (Text before kind) bytes style =
    if same_style kind style then Text (before ++ bytes) style ∷ [] else Text before kind ∷ Text bytes style ∷ []
part_then_text mark bytes style = mark ∷ Text bytes style ∷ []

-- the parts with a text written after them: it joins the last part if that is a text of the same style, and otherwise
-- is a part of its own
abbrev pub with_text : List Part → List ℕ → Style → List Part
with_text [] bytes style = Text bytes style ∷ []
with_text (p ∷ []) bytes style = part_then_text p bytes style
with_text (p ∷ q ∷ ps) bytes style = p ∷ with_text (q ∷ ps) bytes style

-- a text is written by that rule; a mark is a part; a whole document's parts are added as they are
abbrev pub with_write : List Part → Write → List Part
with_write ps (text bytes style) = with_text ps bytes style
with_write ps (start b) = ps ++ Start b ∷ []
with_write ps (end b) = ps ++ End b ∷ []
with_write ps (parts qs) = ps ++ qs

-- the parts after all the writes, in order
-- e.g. with_writes (Text (codes "ab") style.Text ∷ []) (doc_writes (Text (codes "c") style.Text ∷ []))
--     ≡ Text (codes "ab") style.Text ∷ Start block.InlineBlock ∷ Text (codes "c") style.Text ∷ End block.InlineBlock
--     ∷ []
abbrev pub with_writes : List Part → List Write → List Part
with_writes = fold with_write

-- a document that was written from nothing
-- e.g. document_of (plain (codes "a") ∷ plain (codes "b") ∷ literal (codes "c") ∷ [])
--     ≡ Text (codes "ab") style.Text ∷ Text (codes "c") style.Literal ∷ []
abbrev pub document_of : List Write → List Part
document_of = with_writes []

-- a text in each style
abbrev pub plain : List ℕ → Write
plain bytes = text bytes style.Text

abbrev pub emphasis : List ℕ → Write
emphasis bytes = text bytes style.Emphasis

abbrev pub literal : List ℕ → Write
literal bytes = text bytes style.Literal

abbrev pub metavar : List ℕ → Write
metavar bytes = text bytes style.Metavar

-- writes between the marks of a block
abbrev pub inside : Block → List Write → List Write
inside b ws = start b ∷ ws ++ end b ∷ []

-- `from_pairs`: each text with its style
abbrev pub pair_write : Bor (List ℕ) × Style → Write
pair_write pair = text pair.0.now pair.1

-- `doc`: a document's parts as they are, in an inline block
abbrev pub doc_writes : List Part → List Write
doc_writes d = inside block.InlineBlock (parts d ∷ [])

abbrev pub is_newline : ℕ → Bool
is_newline c = c == byte.newline

-- a first text as a title: up to its first newline in Emphasis, the rest in Section3
abbrev pub title_writes : List ℕ → List Part → List Write
title_writes bytes others =
    if list_any is_newline bytes
    then emphasis (before_first is_newline bytes)
    ∷ inside block.Section3 (plain (after_first is_newline bytes) ∷ parts others ∷ [])
    else emphasis bytes ∷ parts others ∷ []

abbrev pub titled : List Part → List Write
titled (Text bytes style.Text ∷ others) = title_writes bytes others
titled d = parts d ∷ []

-- `em_doc`: like `doc`, but a first text of style Text becomes a title
-- e.g. document_of (em_doc_writes (Text (codes "Title") style.Text ∷ Text (codes "x") style.Literal ∷ []))
--     ≡ Start block.InlineBlock ∷ Text (codes "Title") style.Emphasis ∷ Text (codes "x") style.Literal
--     ∷ End block.InlineBlock ∷ []
abbrev pub em_doc_writes : List Part → List Write
em_doc_writes d = inside block.InlineBlock (titled d)

-- `write_path`: each name as Literal, then a blank
-- e.g. with_writes (Text (codes "my ") style.Literal ∷ []) (path_writes (codes "git" ∷ codes "add" ∷ []))
--     ≡ Text (codes "my git") style.Literal ∷ Text (codes " ") style.Text ∷ Text (codes "add") style.Literal
--     ∷ Text (codes " ") style.Text ∷ []
abbrev pub path_writes : List (List ℕ) → List Write
path_writes = flat_map (λ name. literal name ∷ plain (codes " ") ∷ [])
