-- The blocks of a text: code, lists and paragraphs.
use Rattle.std.specs.Prelude.{ℕ, zero, suc, Bool, true, false, not, ◌&&◌, ◌==◌, min, nat_le, Option, Some, None, List, [], ◌∷◌, ◌++◌, drop, map, replicate, codes, if◌then◌else◌}
use Rattle.std.specs.List.{list_all, list_any, position_or_len, prefix_len, before_first, slice_split, starts_with}
use Rattle.page_model.specs.Content.{Line, BlockSaid, paragraph, code, bullets}
use Rattle.description_texts.specs.declared.texts.lines.Kind.{Kind}
use Rattle.description_texts.specs.declared.texts.lines.Kind.TheVariants.{Blank, Fence, Code, Item, Plain}
use Rattle.description_texts.specs.TextsCut.{cut}
use Rattle.description_texts.specs.TextsInside.{is_blank, is_white, is_quote, shown_line}

-- ---- lines

abbrev pub is_newline : ℕ → Bool
is_newline b = b == 10

-- blanks and tabs at the front of a line count as a blank each
abbrev pub with_blank_front : List ℕ → List ℕ
with_blank_front line = replicate (prefix_len is_white line) 32 ++ drop (prefix_len is_white line) line

abbrev pub lines : List ℕ → List (List ℕ)
lines text = map with_blank_front (slice_split is_newline text)

-- a line that begins with three backquotes or more ends a fence
abbrev pub begins_fence : List ℕ → Bool
begins_fence line = nat_le 3 (prefix_len is_quote line)

-- one that has no other backquote begins one
abbrev pub is_fence : List ℕ → Bool
is_fence line = begins_fence line && not (list_any is_quote (drop (prefix_len is_quote line) line))

-- an item has `- ` and something more after the blanks at its front
abbrev pub has_marker : List ℕ → Bool
has_marker text = starts_with ◌==◌ text (codes "- ") && not (list_all is_white (drop 2 text))

abbrev pub blanks : List ℕ → ℕ
blanks line = prefix_len is_blank line

-- what a line begins that does not belong to the lines above it
unfoldable pub kind_of : List ℕ → Kind
kind_of line =
    if list_all is_blank line then Blank
    else if is_fence line then Fence
    else if nat_le 4 (blanks line) then Code
    else if has_marker (drop (blanks line) line) then Item
    else Plain

abbrev pub is_plain_kind : Kind → Bool
is_plain_kind Blank = false
is_plain_kind Fence = false
is_plain_kind Code = false
is_plain_kind Item = false
is_plain_kind Plain = true

abbrev pub is_plain : List ℕ → Bool
is_plain line = is_plain_kind (kind_of line)

-- ---- how many lines below a first one belong to it

-- code: lines of code, and blank lines that a line of code follows
abbrev pub code_more_if : Kind → ℕ → ℕ
code_more_if Code more = suc more
code_more_if Blank zero = 0
code_more_if Blank (suc more) = suc (suc more)
code_more_if Fence more = 0
code_more_if Item more = 0
code_more_if Plain more = 0

abbrev pub code_more : List (List ℕ) → ℕ
code_more [] = 0
code_more (line ∷ lines) = code_more_if (kind_of line) (code_more lines)

-- a list: items, the plain lines directly below them, and blank lines, which say nothing
abbrev pub goes_on : (after_blank : Bool) → Kind → Bool
goes_on after_blank Blank = true
goes_on after_blank Fence = false
goes_on after_blank Code = false
goes_on after_blank Item = true
goes_on after_blank Plain = not after_blank

abbrev pub is_blank_kind : Kind → Bool
is_blank_kind Blank = true
is_blank_kind Fence = false
is_blank_kind Code = false
is_blank_kind Item = false
is_blank_kind Plain = false

abbrev pub list_more : (after_blank : Bool) → List (List ℕ) → ℕ
list_more after_blank [] = 0
list_more after_blank (line ∷ lines) =
    if goes_on after_blank (kind_of line) then suc (list_more (is_blank_kind (kind_of line)) lines) else 0

-- lines that follow one another and are plain
abbrev pub plain_more : List ℕ → List (List ℕ) → ℕ
plain_more first lines = prefix_len is_plain lines

-- a fence goes up to the next line that ends it, with that line
abbrev pub more_of : Kind → List (List ℕ) → ℕ
more_of Blank lines = 0
more_of Fence lines = suc (position_or_len begins_fence lines)
more_of Code lines = code_more lines
more_of Item lines = list_more false lines
more_of Plain lines = prefix_len is_plain lines

abbrev pub lines_more : List ℕ → List (List ℕ) → ℕ
lines_more first lines = more_of (kind_of first) lines

-- ---- what is said of these lines

-- code without lines is nothing
abbrev pub some_code : List (List ℕ) → List BlockSaid
some_code [] = []
some_code (line ∷ lines) = code (line ∷ lines) ∷ []

-- a line of code without the four blanks that it begins with; a blank one is empty
abbrev pub code_line : List ℕ → List ℕ
code_line line = if list_all is_blank line then [] else drop (min (blanks line) 4) line

-- a line of an item without its marker
abbrev pub without_marker : List ℕ → List ℕ
without_marker text = if starts_with ◌==◌ text (codes "- ") then drop 2 text else text

abbrev pub marked : List ℕ → List ℕ
marked line = without_marker (drop (blanks line) line)

-- an item is one line with the plain lines directly below it; a blank line is nothing
abbrev pub item_of : Kind → List ℕ → List (List ℕ) → List (List Line)
item_of Blank first more = []
item_of Fence first more = []
item_of Code first more = []
item_of Item first more = (shown_line (marked first) more ∷ []) ∷ []
item_of Plain first more = []

abbrev pub item_said : List ℕ → List (List ℕ) → List (List Line)
item_said first more = item_of (kind_of first) first more

-- a further line of a paragraph that begins with a blank begins on a new line
abbrev pub begins_blank : List ℕ → Bool
begins_blank [] = false
begins_blank (b ∷ line) = is_blank b

abbrev pub line_more : List ℕ → List (List ℕ) → ℕ
line_more first lines = position_or_len begins_blank lines

abbrev pub line_said : List ℕ → List (List ℕ) → List Line
line_said first more = shown_line first more ∷ []

abbrev pub block_of_kind : Kind → List ℕ → List (List ℕ) → List BlockSaid
block_of_kind Blank first more = []
block_of_kind Fence first more = some_code (before_first begins_fence more)
block_of_kind Code first more = code (map code_line (first ∷ more)) ∷ []
block_of_kind Item first more = bullets (cut plain_more item_said (first ∷ more)) ∷ []
block_of_kind Plain first more = paragraph (cut line_more line_said (first ∷ more)) ∷ []

abbrev pub block_said : List ℕ → List (List ℕ) → List BlockSaid
block_said first more = block_of_kind (kind_of first) first more

-- the blocks of a text, from the top
unfoldable pub text_blocks : List ℕ → List BlockSaid
text_blocks text = cut lines_more block_said (lines text)

-- whether a text has no block
abbrev pub has_none : List BlockSaid → Bool
has_none [] = true
has_none (block ∷ blocks) = false

abbrev pub is_empty : List ℕ → Bool
is_empty text = has_none (text_blocks text)

-- ---- of blocks

abbrev pub first_paragraph : List BlockSaid → Option (List Line)
first_paragraph [] = None
first_paragraph (paragraph lines ∷ blocks) = Some lines
first_paragraph (code lines ∷ blocks) = first_paragraph blocks
first_paragraph (bullets items ∷ blocks) = first_paragraph blocks
