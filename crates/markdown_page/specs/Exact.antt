-- How a page is written, byte by byte. The promise does not rest on it: what is written reads back, whatever it is.
use Rattle.std.specs.Prelude.{ℕ, zero, suc, max, Bool, true, false, not, ◌&&◌, ◌||◌, ◌==◌, List, [], ◌∷◌, ◌++◌, length, map, flat_map, Option, Some, None, codes, if◌then◌else◌}
use Rattle.std.specs.List.{list_all, position_or_len, range_with_len}
use Rattle.page_model.specs.declared.parts.Rank.{Rank}
use Rattle.page_model.specs.declared.parts.Rank.TheVariants.{Page, Section, Subsection}
use Rattle.page_model.specs.Content.{words, literal, value, link, page, Line, BlockSaid, paragraph, code, bullets, TargetSaid, EntrySaid, PartSaid, heading, usage, block, entries}
use Rattle.markdown_page.specs.Bytes.{grave, graves, has_run, holds_definition, is_blank, is_digit, is_letter, is_word}
use Rattle.markdown_page.specs.Kept.{code_byte, dash, form_bytes, is_link, line_bytes, page_address, shown_byte, target_address}
use Rattle.markdown_page.specs.Reader.{last_or, longest_run}

-- ---- texts

-- Always escaped.
abbrev pub is_sign : ℕ → Bool
is_sign b = b == 92 || b == 96 || b == 42 || b == 91 || b == 93 || b == 60

abbrev pub begins_in_word : List ℕ → Bool
begins_in_word [] = false
begins_in_word (b ∷ text) = is_word b

-- whether an ampersand before this text may begin the reference of a character
abbrev pub may_refer : List ℕ → Bool
may_refer [] = true
may_refer (b ∷ text) = b == 35 || is_letter b

abbrev pub is_end : List ℕ → Bool
is_end [] = true
is_end (b ∷ text) = false

-- Whether a byte is written with a backslash, where it is after a letter or a digit or not, and before this text: an
-- exclamation mark at the end of a text may stand before a link.
abbrev pub is_escaped : Bool → Bool → ℕ → List ℕ → Bool
is_escaped in_heading after_word b text =
    is_sign b
    || (b == 35 && in_heading)
    || (b == 95 && not (after_word && begins_in_word text))
    || (b == 38 && may_refer text)
    || (b == 33 && is_end text)

abbrev pub mark_if : Bool → List ℕ
mark_if true = codes "\\"
mark_if false = []

-- What stands for a byte. An opening brace is written by its number: programs that make pages of a site look for `{{`,
-- `{%` and `{` before they read markdown, and a backslash would not keep these from them.
abbrev pub stand_for : ℕ → List ℕ
stand_for b = if b == 123 then codes "&#123;" else shown_byte b ∷ []

abbrev pub escaped : Bool → Bool → List ℕ → List ℕ
escaped in_heading after_word [] = []
escaped in_heading after_word (b ∷ text) =
    mark_if (is_escaped in_heading after_word b text) ++ (stand_for b ++ escaped in_heading (is_word b) text)

-- ---- code spans

-- How many more backquotes than one begin a span: the least number, from one on, that no run of the text has, less one.
abbrev pub spare_run : List ℕ → ℕ
spare_run text = position_or_len (λ count. not (has_run count 0 text)) (range_with_len 1 (length text))

abbrev pub is_edge : ℕ → Bool
is_edge b = b == 32 || b == grave

abbrev pub has_edge : List ℕ → Bool
has_edge [] = false
has_edge (b ∷ text) = is_edge b || is_edge (last_or b text)

abbrev pub padding : List ℕ → List ℕ
padding text = if has_edge text && not (list_all is_blank text) then codes " " else []

abbrev pub span_text : List ℕ → List ℕ
span_text [] = []
span_text (b ∷ text) =
    let ticks : List ℕ = graves (suc (spare_run (b ∷ text))) in
    let pad : List ℕ = padding (b ∷ text) in
    ticks ++ (pad ++ (b ∷ text ++ (pad ++ ticks)))

-- ---- links

abbrev pub auto_byte : ℕ → List ℕ
auto_byte b = if b == 38 then codes "&amp;" else b ∷ []

abbrev pub auto_text : List ℕ → List ℕ
auto_text address = codes "<" ++ (flat_map auto_byte address ++ codes ">")

-- a text that leads to an address
abbrev pub leading_text : (address text : List ℕ) → List ℕ
leading_text address text = codes "[" ++ (text ++ (codes "](" ++ (address ++ codes ")")))

-- a name that leads to its page
abbrev pub page_link : List ℕ → List ℕ
page_link name = leading_text (page_address name) (escaped false false name)

-- ---- pieces

-- a piece that is not a literal
abbrev pub link_text : List ℕ → List ℕ
link_text text = if is_link text then auto_text text else escaped false false text

-- Literals that touch are one span, which is written before the next text. These are the bytes of the span so far, a
-- piece that is not a literal, by its text, and what is written for it; one without a text is nothing.
abbrev pub after_literal : List ℕ → List ℕ → List ℕ → List ℕ
after_literal span [] written = []
after_literal span (b ∷ text) written = span_text span ++ written

abbrev pub span_left : List ℕ → List ℕ → List ℕ
span_left span [] = span
span_left span (b ∷ text) = []

abbrev pub pieces_text : List ℕ → Line → List ℕ
pieces_text span [] = span_text span
pieces_text span (words text ∷ line) =
    after_literal span text (escaped false false text) ++ pieces_text (span_left span text) line
pieces_text span (literal text ∷ line) = pieces_text (span ++ map shown_byte text) line
pieces_text span (value text ∷ line) =
    after_literal span text (escaped false false text) ++ pieces_text (span_left span text) line
pieces_text span (link text ∷ line) =
    after_literal span text (link_text text) ++ pieces_text (span_left span text) line
pieces_text span (page name ∷ line) =
    after_literal span name (page_link name) ++ pieces_text (span_left span name) line

-- ---- lines

-- a blank that a reader does not drop
abbrev pub kept_blank : List ℕ
kept_blank = codes "&#32;"

-- a line with the blank at its end
abbrev pub with_end : List ℕ → List ℕ
with_end [] = []
with_end (b ∷ []) = if b == 32 then kept_blank else b ∷ []
with_end (b ∷ c ∷ line) = b ∷ with_end (c ∷ line)

abbrev pub is_block_mark : ℕ → Bool
is_block_mark b = b == 35 || b == 43 || b == 45 || b == 61 || b == 62 || b == 126

-- what would end a number, after a digit, or begin a block
abbrev pub wants_mark : Bool → ℕ → Bool
wants_mark true b = b == 46 || b == 41
wants_mark false b = is_block_mark b

-- a line that begins no block, after a digit at its front or not
abbrev pub guarded : Bool → List ℕ → List ℕ
guarded after_digit [] = []
guarded after_digit (b ∷ line) =
    if is_digit b then b ∷ guarded true line else mark_if (wants_mark after_digit b) ++ with_end (b ∷ line)

abbrev pub line_text : List ℕ → List ℕ
line_text [] = kept_blank
line_text (b ∷ line) = if b == 32 then kept_blank ++ with_end line else guarded false (b ∷ line)

-- the line of a heading
abbrev pub framed : List ℕ → List ℕ
framed [] = kept_blank
framed (b ∷ line) = if b == 32 then kept_blank ++ with_end line else with_end (b ∷ line)

abbrev pub title_text : List ℕ → List ℕ
title_text title = framed (escaped true false title)

-- ---- blocks, nested in that many items

abbrev pub indent : ℕ → List ℕ
indent zero = []
indent (suc level) = 32 ∷ 32 ∷ indent level

-- a line after a line break
abbrev pub further_line : ℕ → List ℕ → List ℕ
further_line level line = codes "\\\n" ++ (indent level ++ line_text line)

abbrev pub lines_text : ℕ → List ℕ → List (List ℕ) → List ℕ
lines_text level line lines = line_text line ++ (flat_map (further_line level) lines ++ codes "\n")

abbrev pub written : Line → List ℕ
written line = pieces_text [] line

abbrev pub paragraph_text : ℕ → List Line → List ℕ
paragraph_text level [] = []
paragraph_text level (line ∷ lines) =
    codes "\n" ++ (indent level ++ lines_text level (written line) (map written lines))

abbrev pub item_text : ℕ → List Line → List ℕ
item_text level [] = []
item_text level (line ∷ lines) =
    indent level ++ (codes "- " ++ lines_text (suc level) (written line) (map written lines))

-- one less than the backquotes of a fence: three, or more than the code has in a row
abbrev pub longest_of : List (List ℕ) → ℕ
longest_of [] = 2
longest_of (line ∷ lines) = max (longest_run 0 line) (longest_of lines)

abbrev pub fence_text : ℕ → List (List ℕ) → List ℕ
fence_text level lines = indent level ++ (graves (suc (longest_of lines)) ++ codes "\n")

abbrev pub indented : ℕ → List ℕ → List ℕ
indented level [] = []
indented level (b ∷ line) = indent level ++ b ∷ line

abbrev pub code_line : ℕ → List ℕ → List ℕ
code_line level line = indented level (map code_byte line) ++ codes "\n"

abbrev pub code_text : ℕ → List (List ℕ) → List ℕ
code_text level lines =
    codes "\n" ++ (fence_text level lines ++ (flat_map (code_line level) lines ++ fence_text level lines))

abbrev pub block_text : ℕ → BlockSaid → List ℕ
block_text level (paragraph lines) = paragraph_text level lines
block_text level (code lines) = code_text level lines
block_text level (bullets items) = codes "\n" ++ flat_map (item_text level) items

-- ---- entries

abbrev pub term_span : Line → List ℕ
term_span term = span_text (map shown_byte (line_bytes term))

-- a link without a text is nothing
abbrev pub leading_span : (address text : List ℕ) → List ℕ
leading_span address [] = []
leading_span address (b ∷ text) =
    if holds_definition (b ∷ text) then span_text (map shown_byte (b ∷ text))
    else leading_text address (span_text (map shown_byte (b ∷ text)))

abbrev pub first_span : Option TargetSaid → Line → List ℕ
first_span None term = term_span term
first_span (Some target) term = leading_span (target_address target) (line_bytes term)

abbrev pub further_span : Line → List ℕ
further_span term = codes ", " ++ term_span term

abbrev pub terms_text : Option TargetSaid → List Line → List ℕ
terms_text target [] = []
terms_text target (term ∷ terms) = first_span target term ++ flat_map further_span terms

abbrev pub body_text : List ℕ → List BlockSaid → List ℕ
body_text terms [] = lines_text 1 terms []
body_text terms (paragraph (line ∷ lines) ∷ blocks) =
    lines_text 1 (terms ++ (dash ++ written line)) (map written lines) ++ flat_map (block_text 1) blocks
body_text terms (paragraph [] ∷ blocks) = lines_text 1 terms [] ++ flat_map (block_text 1) blocks
body_text terms (code lines ∷ blocks) = lines_text 1 terms [] ++ flat_map (block_text 1) (code lines ∷ blocks)
body_text terms (bullets items ∷ blocks) = lines_text 1 terms [] ++ flat_map (block_text 1) (bullets items ∷ blocks)

abbrev pub entry_text : EntrySaid → List ℕ
entry_text entry = codes "\n- " ++ body_text (terms_text entry.target entry.terms) entry.body

-- ---- the page

abbrev pub rank_text : Rank → List ℕ
rank_text Page = codes "\n# "
rank_text Section = codes "\n## "
rank_text Subsection = codes "\n### "

abbrev pub part_text : PartSaid → List ℕ
part_text (heading rank title) = rank_text rank ++ (title_text title ++ codes "\n")
part_text (usage forms) = code_text 0 (map form_bytes forms)
part_text (block shown) = block_text 0 shown
part_text (entries list) = flat_map entry_text list

abbrev pub page_text : List ℕ → List PartSaid → List ℕ
page_text title parts = codes "# " ++ (title_text title ++ (codes "\n" ++ flat_map part_text parts))
