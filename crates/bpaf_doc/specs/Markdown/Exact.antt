-- A markdown text as one function of the document, by the rules of docs/html.md: what each fragment writes depends on
-- the text and the fragments before it, and on the fragments after it. `render_markdown` returns exactly this text. The
-- laws of `Markdown` are theorems about it (proofs/lemmas/Markdown/Exact, proofs/lemmas/Markdown/Meets).
use Rattle.std.specs.Prelude.{if◌then◌else◌, ◌++◌, ◌==◌, ◌||◌, ◌∷◌}
use Rattle.bpaf_doc.specs.Words.{ℕ, Bool, List, [], reverse, filter, flat_map, codes, nat_eq, ends_with, list_any, Style, Block, Part, Chunk, Raw, Paragraph, LineBreak, code_weight, fence_weight, is_code_line, is_ordinary}
use Rattle.bpaf_doc.specs.declared.buffer.Block.TheVariants as blocks
use Rattle.bpaf_doc.specs.Html.Fragments.{Fragment, TextStart, Shown, TextEnd, Hidden, Start, End, first_is, shows, shown_fragments}
use Rattle.bpaf_doc.specs.Markdown.Page.{mark_text, style_marks, escaped_character, is_header_start, is_in_list, is_in_mono, is_after_empty_item, is_text_end, is_term_end}
use Rattle.bpaf_doc.specs.Html.Exact.{is_empty}

-- ---- styles

-- before the chunks of a text of this style
abbrev pub opening_marks : Style → List ℕ
opening_marks style = flat_map mark_text (style_marks style)

-- and after them
abbrev pub closing_marks : Style → List ℕ
closing_marks style = flat_map mark_text (reverse (style_marks style))

-- ---- lines

-- nothing was written yet, or the text ends in a newline
abbrev pub starts_line : List ℕ → Bool
starts_line text = is_empty text || ends_with nat_eq text (codes "\n")

-- nothing was written yet, or the text ends in two newlines
abbrev pub starts_paragraph : List ℕ → Bool
starts_paragraph text = is_empty text || ends_with nat_eq text (codes "\n\n")

-- "new line": a newline, unless the text is at the start of a line
abbrev pub new_line : List ℕ → List ℕ
new_line text = if starts_line text then [] else codes "\n"

-- "blank line": two newlines, unless the text is at the start of a paragraph
abbrev pub blank_line : List ℕ → List ℕ
blank_line text = if starts_paragraph text then [] else codes "\n\n"

-- two blanks, the line and a newline
abbrev pub indented_line : List ℕ → List ℕ
indented_line line = codes "  " ++ (line ++ codes "\n")

-- ---- code

-- what decides whether a code block is open: a code line opens one; an ordinary Raw and the end of a text close it
abbrev pub decides_code : Fragment → Bool
decides_code f = shows is_code_line f || (shows is_ordinary f || is_text_end f)

-- a code block is open after these fragments: the last that decides was a code line
abbrev pub is_in_code : List Fragment → Bool
is_in_code before = first_is (shows is_code_line) (filter decides_code (reverse before))

-- a code line opens a code block where none is open
abbrev pub opening_fence : List Fragment → List ℕ
opening_fence before = if is_in_code before then [] else codes "\n\n  ```text\n"

-- an ordinary Raw and the end of a text close an open one by this fence
abbrev pub closing_fence : List Fragment → List ℕ → List ℕ
closing_fence before fence = if is_in_code before then fence else []

-- ---- chunks

-- a Raw, by its weight: a line of a fence, a code line, or an ordinary one, inside Mono with backslashes
abbrev pub raw_markdown : List ℕ → List Fragment → List ℕ → ℕ → List ℕ
raw_markdown text before bytes weight =
    if weight == fence_weight then new_line text ++ indented_line bytes
    else (if weight == code_weight then opening_fence before ++ indented_line bytes
    else (closing_fence before (codes "\n  ```\n")
    ++ (if is_in_mono before then flat_map escaped_character bytes else bytes)))

-- what a chunk of a shown text writes; a Paragraph in a definition list is indented
abbrev pub chunk_markdown : List ℕ → List Fragment → Chunk → List ℕ
chunk_markdown text before (Raw bytes weight) = raw_markdown text before bytes weight
chunk_markdown text before Paragraph = codes "\n\n" ++ (if is_in_list before then codes "  " else [])
chunk_markdown text before LineBreak = codes "\n"

-- ---- blocks

-- the dash of an item, or blanks where its term ends at once
abbrev pub item_mark : List Fragment → List ℕ
item_mark after = if first_is is_term_end after then codes "  " else codes "- "

-- before a body in a definition list a long dash, or a blank where the item has blanks in place of its dash
abbrev pub body_mark : List Fragment → List ℕ
body_mark before =
    if is_in_list before then (if is_after_empty_item before then codes " " else codes " &mdash; ") else []

-- what the start of a block writes: the first Header of a document has a greater heading than the others
abbrev pub start_markdown : List ℕ → List Fragment → Block → List Fragment → List ℕ
start_markdown text before blocks.Header after =
    blank_line text ++ (if list_any is_header_start before then codes "## " else codes "# ")
start_markdown text before blocks.Section3 after = codes "### "
start_markdown text before blocks.Section4 after = new_line text ++ item_mark after
start_markdown text before blocks.ItemTerm after = new_line text ++ item_mark after
start_markdown text before blocks.ItemBody after =
    body_mark before ++ (new_line (text ++ body_mark before) ++ codes "  ")
start_markdown text before blocks.Block after = codes "\n"
start_markdown text before _ after = []

-- and its end
abbrev pub end_markdown : List Fragment → Block → List ℕ
end_markdown before blocks.Header = codes "\n"
end_markdown before blocks.Section2 = codes "\n"
end_markdown before blocks.Section3 = codes "\n"
end_markdown before blocks.Section4 = codes "\n"
end_markdown before blocks.ItemBody = if is_in_list before then codes "\n" else []
end_markdown before blocks.DefinitionList = codes "\n"
end_markdown before blocks.Block = codes "\n"
end_markdown before _ = []

-- ---- the text

-- what a fragment writes, by the text and the fragments before it and the fragments after it
abbrev pub fragment_markdown : List ℕ → List Fragment → Fragment → List Fragment → List ℕ
fragment_markdown text before (TextStart style) after = opening_marks style
fragment_markdown text before (Shown style chunk) after = chunk_markdown text before chunk
fragment_markdown text before (TextEnd style) after = closing_fence before (codes "  ```\n") ++ closing_marks style
fragment_markdown text before Hidden after = []
fragment_markdown text before (Start b) after = start_markdown text before b after
fragment_markdown text before (End b) after = end_markdown before b

-- the text with what these fragments write after it, one after another
abbrev pub markdown_after : List ℕ → List Fragment → List Fragment → List ℕ
markdown_after text before [] = text
markdown_after text before (f ∷ after) =
    markdown_after (text ++ fragment_markdown text before f after) (before ++ f ∷ []) after

-- the text of a document, in full or in brief
-- e.g. markdown_page true (block ItemTerm (Words (codes "-a") Literal ∷ [])) ≡ codes "- **`-a`**"
abbrev pub markdown_page : Bool → List Part → List ℕ
markdown_page full document = markdown_after [] [] (shown_fragments full document)
