-- A document on a page of roff as one function, by the rules of docs/manpage.md: the pieces that each part adds depend
-- on the marks before it. `render_roff` returns exactly the rendering of the page with these pieces. That a reader of
-- roff reads them as the document's events, where the page takes a document, is a theorem about them
-- (proofs/lemmas/Manpage/Drafts, proofs/lemmas/Manpage/PageRead).
use Rattle.std.specs.Prelude.{if◌then◌else◌, ◌++◌, ◌∷◌}
use Rattle.bpaf_doc.specs.Words.{ℕ, Bool, List, [], Option, Some, None, reverse, find, flat_map, str_to_ascii_uppercase, Block, Part, Text, Start, End, is_mark_of, Piece, Script, control_pieces, linebreak_pieces, text_pieces, rendering, Handle, Escape}
use Rattle.bpaf_doc.specs.Manpage.Events.{places, is_start, last_is_start, is_section, sets_stripping, captured_texts, font_of, start_name, heading_name, end_name, style_name}
use Rattle.bpaf_doc.specs.declared.buffer.Block.TheVariants as block

-- a control without arguments, if there is one
abbrev pub name_pieces : Option (List ℕ) → List (Piece Escape)
name_pieces None = []
name_pieces (Some name) = control_pieces name []

-- at the end of a block that has no heading: a term ends its line
abbrev pub closing_pieces : Block → List (Piece Escape)
closing_pieces block.ItemTerm = linebreak_pieces
closing_pieces b = name_pieces (end_name b)

-- at the end of a block, by the control of its heading: the captured texts since the last section end, joined and in
-- ASCII capitals, are its one argument
abbrev pub end_pieces : List Part → Block → Option (List ℕ) → List (Piece Escape)
end_pieces before b (Some name) = control_pieces name (str_to_ascii_uppercase (captured_texts before) ∷ [])
end_pieces before b None = closing_pieces b

-- what the last mark says, or what the page says where there was none
abbrev pub start_or : Bool → Option Part → Bool
start_or by_page None = by_page
start_or by_page (Some mark) = is_start (Some mark)

-- whether newlines are stripped after these parts: the last ItemTerm start, ItemTerm end or ItemBody end is a start;
-- where there was none, the page strips them
abbrev pub strips_newlines : Bool → List Part → Bool
strips_newlines by_page before = start_or by_page (find sets_stripping (reverse before))

-- The pieces that a part adds, by the parts before it. A text is captured where the last section mark before it is a
-- start, otherwise written in the font of its style.
abbrev pub part_pieces : Bool → List Part × Part → List (Piece Escape)
part_pieces by_page (before, Text bytes how) =
    if last_is_start (is_mark_of is_section) before then []
    else name_pieces (style_name how) ++ text_pieces (strips_newlines by_page before) ((font_of how, bytes) ∷ [])
part_pieces by_page (before, Start b) = name_pieces (start_name b)
part_pieces by_page (before, End b) = end_pieces before b (heading_name b)

-- the pieces of a document on a page that strips newlines or keeps them
abbrev pub document_pieces : Bool → List Part → List (Piece Escape)
document_pieces by_page document = flat_map (part_pieces by_page) (places [] document)

-- the text of a page with a document after what it holds
abbrev pub roff_page : Script → List Part → List ℕ
roff_page page document = rendering Handle (page.pieces ++ document_pieces page.strip_newlines document)
