-- An HTML page as one function of the document, by the rules of docs/html.md: what each fragment writes depends on the
-- text and the fragments before it. `render_html` returns exactly this text. The laws of `Html` are theorems about it
-- (proofs/lemmas/Html/Exact, proofs/lemmas/Html/Meets).
use Rattle.std.specs.Prelude.{if◌then◌else◌, ◌++◌, ◌||◌, ◌∷◌}
use Rattle.bpaf_doc.specs.Words.{ℕ, zero, suc, Bool, true, false, List, [], Option, Some, None, reverse, flat_map, codes, nat_eq, ends_with, Style, Block, Part, Raw}
use Rattle.std.specs.Option.{option_map_or}
use Rattle.bpaf_doc.specs.declared.buffer.Block.TheVariants as blocks
use Rattle.bpaf_doc.specs.Html.Fragments.{Fragment, TextStart, Shown, TextEnd, Hidden, Start, End, shown_fragments}
use Rattle.bpaf_doc.specs.Html.Page.{opening_tag, closing_tag, style_elements, block_elements, escaped_character, is_definition_list, style_sheet}

-- ---- styles

-- before the chunks of a text of this style
abbrev pub opening_tags : Style → List ℕ
opening_tags style = flat_map opening_tag (style_elements style)

-- and after them
abbrev pub closing_tags : Style → List ℕ
closing_tags style = flat_map closing_tag (reverse (style_elements style))

-- ---- blocks

-- what stands at the start of a block, which is directly in a definition list or not: a tag, or the sign of a header
abbrev pub start_tag : Block → Bool → List ℕ
start_tag blocks.Header _ = codes "# "
start_tag blocks.Section2 _ = codes "<div>\n"
start_tag b in_list = flat_map opening_tag (block_elements in_list b)

-- the tag at its end
abbrev pub end_tag : Block → Bool → List ℕ
end_tag blocks.Section2 _ = codes "</div>"
end_tag blocks.Section3 _ = codes "</div>"
end_tag blocks.Section4 _ = codes "</div>"
end_tag blocks.ItemTerm _ = codes "</dt>\n"
end_tag blocks.ItemBody true = codes "</dd>\n"
end_tag blocks.ItemBody false = codes "</li>\n"
end_tag blocks.DefinitionList _ = codes "</dl>\n"
end_tag blocks.Block _ = codes "</p>"
end_tag _ _ = []

-- The block of the last start that is still open after fragments that are given from the last to the first. Each end
-- closes the last open start, of whatever block, if there is one. The number is that of the ends after these fragments
-- that have yet to close a start.
abbrev pub open_block : List Fragment → ℕ → Option Block
open_block [] ends = None
open_block (Start b ∷ earlier) zero = Some b
open_block (Start b ∷ earlier) (suc ends) = open_block earlier ends
open_block (End b ∷ earlier) ends = open_block earlier (suc ends)
open_block (_ ∷ earlier) ends = open_block earlier ends

-- what follows these fragments is directly in a definition list
abbrev pub is_directly_in_list : List Fragment → Bool
is_directly_in_list before = option_map_or is_definition_list (open_block (reverse before) 0) false

-- ---- breaks

abbrev pub break_text : List ℕ
break_text = codes "<br>\n"

abbrev pub is_empty : List ℕ → Bool
is_empty [] = true
is_empty (b ∷ bs) = false

-- nothing was written yet, or the text ends in a break
abbrev pub is_at_break : List ℕ → Bool
is_at_break text = is_empty text || ends_with nat_eq text break_text

abbrev pub is_header : Block → Bool
is_header blocks.Header = true
is_header _ = false

-- a break before a mark of a header, unless the text before is at one
abbrev pub header_break : List ℕ → Block → List ℕ
header_break text b = if is_header b then (if is_at_break text then [] else break_text) else []

-- ---- the page

-- What a fragment writes, by the text and the fragments before it. An end closes a start before its own tag is chosen.
abbrev pub fragment_html : List ℕ → List Fragment → Fragment → List ℕ
fragment_html text before (TextStart style) = opening_tags style
fragment_html text before (Shown style (Raw bytes weight)) = flat_map escaped_character bytes
fragment_html text before (Shown style _) = break_text
fragment_html text before (TextEnd style) = closing_tags style
fragment_html text before Hidden = []
fragment_html text before (Start b) = header_break text b ++ start_tag b (is_directly_in_list before)
fragment_html text before (End b) = header_break text b ++ end_tag b (is_directly_in_list (before ++ End b ∷ []))

-- the text with what these fragments write after it, one after another
abbrev pub html_after : List ℕ → List Fragment → List Fragment → List ℕ
html_after text before [] = text
html_after text before (f ∷ after) = html_after (text ++ fragment_html text before f) (before ++ f ∷ []) after

-- the page of a document, in full or in brief, followed by the style sheet or not
-- e.g. html_page true false (Words (codes "a<b") Literal ∷ []) ≡ codes "<tt><b>a&lt;b</b></tt>"
abbrev pub html_page : Bool → Bool → List Part → List ℕ
html_page full include_css document =
    html_after [] [] (shown_fragments full document) ++ (if include_css then style_sheet else [])
