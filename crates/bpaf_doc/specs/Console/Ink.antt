-- The ink of a console page in full: that of the document's texts, with a backquote at each TermRef mark.
use Rattle.std.specs.Prelude.{◌≡◌}
use Rattle.bpaf_doc.specs.Words.{ℕ, true, not, List, flat_map, IsTrue, list_any, Part, Text, Start, End, ink, is_mark_of, document_ink, HasUtf8Texts, console_ink, is_term_ref, mark_bytes}

-- the ink of a text, or the backquote of a TermRef mark
abbrev pub backquoted_part_ink : Part → List ℕ
backquoted_part_ink (Text bytes style) = ink bytes
backquoted_part_ink (Start b) = mark_bytes b
backquoted_part_ink (End b) = mark_bytes b

-- the ink of a document's texts, with a backquote in place of each TermRef mark
abbrev pub backquoted_ink : List Part → List ℕ
backquoted_ink = flat_map backquoted_part_ink

-- what a console shows in full has this ink
abbrev pub FullInkIsBackquotedInk : Type 0
FullInkIsBackquotedInk =
    (document : List Part) → HasUtf8Texts document → console_ink true document ≡ backquoted_ink document

-- without term references it is exactly the document's ink
abbrev pub FullInkIsDocumentInk : Type 0
FullInkIsDocumentInk =
    (document : List Part) → HasUtf8Texts document → IsTrue (not (list_any (is_mark_of is_term_ref) document))
    → console_ink true document ≡ document_ink document
