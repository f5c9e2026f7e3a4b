-- A reader of markdown, for the part of CommonMark that a page is written in: what each line begins, in which items it
-- stands, and what stands within a line. What is not of this part is refused.
use Rattle.std.specs.Prelude.{ℕ, zero, suc, ◌+◌, ◌-◌, ◌*◌, max, Bool, true, false, not, ◌&&◌, ◌||◌, ◌==◌, nat_lt, nat_le, List, [], ◌∷◌, ◌++◌, length, map, Option, Some, None, fold, codes, if◌then◌else◌}
use Rattle.std.specs.List.{list_all, list_any, slice_split}
use Rattle.std.specs.Str.{bytes_eq}
use Rattle.markdown_page.specs.Bytes.{begins_with, blank, grave, graves, holds_definition, is_blank, is_digit, is_grave, is_letter, is_word}
use Rattle.markdown_page.specs.Sheet.{Glyph, Said, Heading, Item, Paragraph, Code}

-- ---- bytes

abbrev pub newline : ℕ
newline = 10

abbrev pub is_control : ℕ → Bool
is_control b = nat_lt b 32 || b == 127

-- the punctuation of ASCII, which a backslash makes a text
abbrev pub is_punctuation : ℕ → Bool
is_punctuation b =
    (nat_le 33 b && nat_le b 47) || (nat_le 58 b && nat_le b 64) || (nat_le 91 b && nat_le b 96)
    || (nat_le 123 b && nat_le b 126)

abbrev pub last_or : ℕ → List ℕ → ℕ
last_or b [] = b
last_or b (c ∷ bytes) = last_or c bytes

abbrev pub ends_in_blank : List ℕ → Bool
ends_in_blank bytes = last_or 0 bytes == blank

abbrev pub begins_in_blank : List ℕ → Bool
begins_in_blank [] = false
begins_in_blank (b ∷ bytes) = b == blank

-- ---- within a line

-- what stands before a byte in a text: a letter or a digit, an exclamation mark, or something else
pub data Before : Type 0 where
  Word : Before
  Bang : Before
  Other : Before

abbrev pub before_of : ℕ → Before
before_of b = if is_word b then Word else if b == 33 then Bang else Other

pub data Mode : Type 0 where
  -- in text
  Text : Before → Mode
  -- after a backslash
  Escape : Mode
  -- after an underscore that follows a letter or a digit
  Underscore : Mode
  -- after an ampersand, and in the number of a character after `&#`
  Ampersand : Mode
  Number : ℕ → Mode
  -- after one backquote and that many more, which begin a code span; and in the span that these begin, after this text
  -- and that many backquotes
  Opening : ℕ → Mode
  Span : ℕ → List ℕ → ℕ → Mode
  -- in an autolink, and in the name of a character in it
  Auto : List ℕ → Mode
  Entity : List ℕ → List ℕ → Mode
  -- after the text of a link, and in its address
  Bracket : Mode
  Address : List ℕ → Mode

-- What is shown so far. Within the text of a link, what is shown before it stands outside.
pub record Line : Type 0 where
  pub mode : Mode
  pub shown : List Glyph
  pub outside : Option (List Glyph)

abbrev pub start_of_line : Line
start_of_line = record { mode = Text Other; shown = []; outside = None }

abbrev pub with_mode : Line → Mode → Option Line
with_mode line mode = Some (record line { mode = mode })

abbrev pub plain_glyph : ℕ → Glyph
plain_glyph b = record { byte = b; is_code = false; address = None }

abbrev pub code_glyph : ℕ → Glyph
code_glyph b = record { byte = b; is_code = true; address = None }

abbrev pub leading : List ℕ → List Glyph → List Glyph
leading address glyphs = map {A = Glyph} (λ glyph. record glyph { address = Some address }) glyphs

abbrev pub with_text : Line → Before → List ℕ → Line
with_text line before text = record line { mode = Text before; shown = line.shown ++ map plain_glyph text }

abbrev pub begins_auto : Line → Option (List Glyph) → Option Line
begins_auto line None = with_mode line (Auto [])
begins_auto line (Some outside) = None

-- after an exclamation mark a link is an image, and links do not nest
abbrev pub begins_link : Line → Option (List Glyph) → Before → Option Line
begins_link line (Some outside) before = None
begins_link line None Word = Some (record { mode = Text Other; shown = []; outside = Some line.shown })
begins_link line None Bang = None
begins_link line None Other = Some (record { mode = Text Other; shown = []; outside = Some line.shown })

abbrev pub ends_link_text : Line → Option (List Glyph) → Option Line
ends_link_text line None = None
ends_link_text line (Some outside) = with_mode line Bracket

-- between two letters or digits an underscore is text
abbrev pub joins_words : Line → Before → Option Line
joins_words line Word = with_mode line Underscore
joins_words line Bang = None
joins_words line Other = None

-- a byte in text; in a heading a number sign may end it
abbrev pub text_byte : Bool → Line → Before → ℕ → Option Line
text_byte heading line before b =
    if b == 92 then with_mode line Escape
    else if b == grave then with_mode line (Opening 0)
    else if b == 38 then with_mode line Ampersand
    else if b == 60 then begins_auto line line.outside
    else if b == 91 then begins_link line line.outside before
    else if b == 93 then ends_link_text line line.outside
    else if b == 95 then joins_words line before
    else if b == 42 || (b == 35 && heading) then None
    else Some (with_text line (before_of b) (b ∷ []))

abbrev pub escape_byte : Line → ℕ → Option Line
escape_byte line b = if is_punctuation b then Some (with_text line Other (b ∷ [])) else None

abbrev pub underscore_byte : Line → ℕ → Option Line
underscore_byte line b = if is_word b then Some (with_text line Word (95 ∷ b ∷ [])) else None

-- the reference of a character, or text
abbrev pub ampersand_byte : Bool → Line → ℕ → Option Line
ampersand_byte heading line b =
    if b == 35 then with_mode line (Number 0)
    else if is_letter b then None
    else text_byte heading (with_text line Other (38 ∷ [])) Other b

-- a blank or an opening brace by its number, without leading zeros, since more than seven digits are not a reference
abbrev pub number_byte : Line → ℕ → ℕ → Option Line
number_byte line n b =
    if b == 48 && n == 0 then None
    else if is_digit b then with_mode line (Number (n * 10 + (b - 48)))
    else if b == 59 && (n == blank || n == 123) then Some (with_text line Other (n ∷ []))
    else None

-- A span that begins and ends with a blank has one more at each end than it shows, unless it is of blanks.
abbrev pub but_last : List ℕ → List ℕ
but_last [] = []
but_last (b ∷ []) = []
but_last (b ∷ c ∷ text) = b ∷ but_last (c ∷ text)

abbrev pub within_ends : List ℕ → List ℕ
within_ends [] = []
within_ends (b ∷ text) = but_last text

abbrev pub unpadded : List ℕ → List ℕ
unpadded text =
    if begins_in_blank text && (ends_in_blank text && not (list_all is_blank text)) then within_ends text else text

abbrev pub is_within_link : Option (List Glyph) → Bool
is_within_link None = false
is_within_link (Some outside) = true

-- after a code span; the first link of a paragraph is not a link where this begins a link's definition
abbrev pub after_span : Line → List ℕ → Option Line
after_span line text =
    if is_within_link line.outside && holds_definition text then None
    else Some (record line { mode = Text Other; shown = line.shown ++ map code_glyph text })

abbrev pub text_byte_if : Bool → Option Line → ℕ → Option Line
text_byte_if heading None b = None
text_byte_if heading (Some line) b = text_byte heading line Other b

-- a byte in a span, which as many backquotes end as began it
abbrev pub span_byte : Bool → Line → ℕ → List ℕ → ℕ → ℕ → Option Line
span_byte heading line n text run b =
    if b == grave then with_mode line (Span n text (suc run))
    else if run == suc n then text_byte_if heading (after_span line (unpadded text)) b
    else with_mode line (Span n (text ++ (graves run ++ b ∷ [])) 0)

abbrev pub opening_byte : Line → ℕ → ℕ → Option Line
opening_byte line n b =
    if b == grave then with_mode line (Opening (suc n)) else with_mode line (Span n (b ∷ []) 0)

abbrev pub is_web_address : List ℕ → Bool
is_web_address address = begins_with (codes "http://") address || begins_with (codes "https://") address

abbrev pub auto_byte : Line → List ℕ → ℕ → Option Line
auto_byte line address b =
    if b == 62 then
    (if is_web_address address
    then Some (record line { mode = Text Other; shown = line.shown ++ leading address (map plain_glyph address) })
    else None)
    else if b == 38 then with_mode line (Entity address [])
    else if b == 60 || b == blank then None
    else with_mode line (Auto (address ++ b ∷ []))

-- the ampersand by its name
abbrev pub entity_byte : Line → List ℕ → List ℕ → ℕ → Option Line
entity_byte line address name b =
    if is_letter b then with_mode line (Entity address (name ++ b ∷ []))
    else if b == 59 && bytes_eq name (codes "amp") then with_mode line (Auto (address ++ 38 ∷ []))
    else None

abbrev pub bracket_byte : Line → ℕ → Option Line
bracket_byte line b = if b == 40 then with_mode line (Address []) else None

abbrev pub is_address_byte : ℕ → Bool
is_address_byte b = is_word b || (b == 35 || b == 37 || b == 45 || b == 46 || b == 95 || b == 126)

abbrev pub after_link : Line → Option (List Glyph) → List ℕ → Option Line
after_link line None address = None
after_link line (Some outside) address =
    Some (record { mode = Text Other; shown = outside ++ leading address line.shown; outside = None })

abbrev pub address_byte : Line → List ℕ → ℕ → Option Line
address_byte line address b =
    if b == 41 then after_link line line.outside address
    else if is_address_byte b then with_mode line (Address (address ++ b ∷ []))
    else None

abbrev pub line_byte : Bool → Line → Mode → ℕ → Option Line
line_byte heading line (Text before) b = text_byte heading line before b
line_byte heading line Escape b = escape_byte line b
line_byte heading line Underscore b = underscore_byte line b
line_byte heading line Ampersand b = ampersand_byte heading line b
line_byte heading line (Number n) b = number_byte line n b
line_byte heading line (Opening n) b = opening_byte line n b
line_byte heading line (Span n text run) b = span_byte heading line n text run b
line_byte heading line (Auto address) b = auto_byte line address b
line_byte heading line (Entity address name) b = entity_byte line address name b
line_byte heading line Bracket b = bracket_byte line b
line_byte heading line (Address address) b = address_byte line address b

abbrev pub next_byte : Bool → Option Line → ℕ → Option Line
next_byte heading None b = None
next_byte heading (Some line) b = if is_control b then None else line_byte heading line line.mode b

-- what a line shows, and whether it ends in a line break: a backslash
pub record Inlines : Type 0 where
  pub shown : List Glyph
  pub breaks : Bool

abbrev pub shows : List Glyph → Bool → Option Inlines
shows shown breaks = Some (record { shown = shown; breaks = breaks })

abbrev pub shows_if : Option Line → Option Inlines
shows_if None = None
shows_if (Some line) = shows line.shown false

abbrev pub whole_line : Line → Mode → Option Inlines
whole_line line (Text before) = shows line.shown false
whole_line line Escape = shows line.shown true
whole_line line Underscore = None
whole_line line Ampersand = shows (line.shown ++ plain_glyph 38 ∷ []) false
whole_line line (Number n) = None
whole_line line (Opening n) = None
whole_line line (Span n text run) = if run == suc n then shows_if (after_span line (unpadded text)) else None
whole_line line (Auto address) = None
whole_line line (Entity address name) = None
whole_line line Bracket = None
whole_line line (Address address) = None

abbrev pub end_of_line : Option Line → Option Inlines
end_of_line None = None
end_of_line (Some line) = if is_within_link line.outside then None else whole_line line line.mode

-- blanks at the end of a line are dropped
abbrev pub inlines : Bool → List ℕ → Option Inlines
inlines heading text =
    if ends_in_blank text then None else end_of_line (fold (next_byte heading) (Some start_of_line) text)

-- ---- what a line begins

pub data Kind : Type 0 where
  TextLine : Kind
  ItemLine : List ℕ → Kind
  HeadingLine : ℕ → List ℕ → Kind
  FenceLine : ℕ → Kind

-- Whether a line, after that many backquotes at its front, begins code. No further backquote follows these.
abbrev pub is_fence : ℕ → List ℕ → Bool
is_fence n [] = nat_le 3 n
is_fence n (b ∷ line) = if b == grave then is_fence (suc n) line else nat_le 3 n && not (list_any is_grave line)

-- whether it begins, after a digit or not, as an item with a number
abbrev pub is_numbered : Bool → List ℕ → Bool
is_numbered after_digit [] = false
is_numbered after_digit (b ∷ line) =
    if is_digit b then is_numbered true line else after_digit && (b == 46 || b == 41)

-- what may begin a block that is not a paragraph: `#`, `+`, `-`, `=`, `>`, `~`
abbrev pub is_block_mark : ℕ → Bool
is_block_mark b = b == 35 || b == 43 || b == 45 || b == 61 || b == 62 || b == 126

abbrev pub is_text_line : List ℕ → Bool
is_text_line [] = false
is_text_line (b ∷ line) =
    not (b == blank || is_block_mark b) && (not (is_numbered false (b ∷ line)) && not (is_fence 0 (b ∷ line)))

-- what follows these bytes
abbrev pub after : List ℕ → List ℕ → Option (List ℕ)
after [] bytes = Some bytes
after (b ∷ front) [] = None
after (b ∷ front) (c ∷ bytes) = if b == c then after front bytes else None

abbrev pub kind_with : (List ℕ → Kind) → Option (List ℕ) → Option Kind → Option Kind
kind_with kind None otherwise = otherwise
kind_with kind (Some text) otherwise = Some (kind text)

abbrev pub kind_of : List ℕ → Option Kind
kind_of line =
    if is_text_line line then Some TextLine
    else if list_all is_grave line && nat_le 3 (length line) then Some (FenceLine (length line))
    else kind_with ItemLine (after (codes "- ") line)
    (kind_with (HeadingLine 1) (after (codes "# ") line)
    (kind_with (HeadingLine 2) (after (codes "## ") line)
    (kind_with (HeadingLine 3) (after (codes "### ") line) None)))

-- ---- the page so far

pub data Stand : Type 0 where
  -- where any block may begin
  Between : Stand
  -- after a line of the paragraph that is last, and after a line break in it
  Filled : Stand
  Broken : Stand
  -- in code, with the backquotes of its fence and the lines so far
  Fenced : ℕ → List (List ℕ) → Stand

-- what is said, and how many items are open
pub record Reading : Type 0 where
  pub said : List Said
  pub depth : ℕ
  pub stand : Stand

abbrev pub nothing_read : Reading
nothing_read = record { said = []; depth = 0; stand = Between }

-- A line stands in as many of the items that are open as it is indented for, by two blanks each.
pub record Within : Type 0 where
  pub level : ℕ
  pub line : List ℕ

abbrev pub deeper : Within → Within
deeper at = record at { level = suc at.level }

abbrev pub within : ℕ → List ℕ → Within
within zero line = record { level = 0; line = line }
within (suc depth) [] = record { level = 0; line = [] }
within (suc depth) (b ∷ []) = record { level = 0; line = b ∷ [] }
within (suc depth) (b ∷ c ∷ line) =
    if b == blank && c == blank then deeper (within depth line) else record { level = 0; line = b ∷ c ∷ line }

abbrev pub stand_after : Bool → Stand
stand_after true = Broken
stand_after false = Filled

abbrev pub new_paragraph : List Said → ℕ → Option Inlines → Option Reading
new_paragraph said level None = None
new_paragraph said level (Some line) =
    Some (record {
      said = said ++ Paragraph level (line.shown ∷ []) ∷ [];
      depth = level;
      stand = stand_after line.breaks;
    })

abbrev pub with_line : Said → List Glyph → Said
with_line (Heading rank shown) line = Heading rank shown
with_line (Item level) line = Item level
with_line (Paragraph level lines) line = Paragraph level (lines ++ line ∷ [])
with_line (Code level lines) line = Code level lines

abbrev pub on_last : {X : Type 0} → (X → X) → List X → List X
on_last change [] = []
on_last change (x ∷ []) = change x ∷ []
on_last change (x ∷ y ∷ xs) = x ∷ on_last change (y ∷ xs)

abbrev pub same_paragraph : Reading → Option Inlines → Option Reading
same_paragraph read None = None
same_paragraph read (Some line) = Some (record read {
  said = on_last (λ last. with_line last line.shown) read.said;
  stand = stand_after line.breaks;
})

-- a line of text; one that continues a paragraph without a line break is not of this part
abbrev pub text_line : Reading → Stand → ℕ → List ℕ → Option Reading
text_line read Between level line = new_paragraph read.said level (inlines false line)
text_line read Filled level line = None
text_line read Broken level line = if level == read.depth then same_paragraph read (inlines false line) else None
text_line read (Fenced n lines) level line = None

-- whether another block may begin
abbrev pub is_open : Stand → Bool
is_open Between = true
is_open Filled = true
is_open Broken = false
is_open (Fenced n lines) = false

abbrev pub if_open : Stand → Option Reading → Option Reading
if_open stand next = if is_open stand then next else None

-- an item begins with a paragraph
abbrev pub item_line : List Said → ℕ → List ℕ → Option Reading
item_line said level line =
    if is_text_line line then new_paragraph (said ++ Item level ∷ []) (suc level) (inlines false line) else None

abbrev pub with_heading : List Said → ℕ → Option Inlines → Option Reading
with_heading said rank None = None
with_heading said rank (Some line) =
    if line.breaks then None
    else Some (record { said = said ++ Heading rank line.shown ∷ []; depth = 0; stand = Between })

-- a heading stands in no item
abbrev pub heading_line : List Said → ℕ → ℕ → List ℕ → Option Reading
heading_line said level rank line =
    if level == 0 && not (begins_in_blank line) then with_heading said rank (inlines true line) else None

abbrev pub line_of : Reading → ℕ → List ℕ → Kind → Option Reading
line_of read level line TextLine = text_line read read.stand level line
line_of read level line (ItemLine text) = if_open read.stand (item_line read.said level text)
line_of read level line (HeadingLine rank text) = if_open read.stand (heading_line read.said level rank text)
line_of read level line (FenceLine n) =
    if_open read.stand (Some (record { said = read.said; depth = level; stand = Fenced n [] }))

abbrev pub line_if : Reading → Within → Option Kind → Option Reading
line_if read at None = None
line_if read at (Some kind) = line_of read at.level at.line kind

abbrev pub empty_line : Reading → Option Reading
empty_line read = if_open read.stand (Some (record read { stand = Between }))

-- the most backquotes of a line that follow one another, after that many
abbrev pub longest_run : ℕ → List ℕ → ℕ
longest_run run [] = run
longest_run run (b ∷ line) = if b == grave then longest_run (suc run) line else max run (longest_run 0 line)

-- a byte of code: CommonMark ends a line at a carriage return too, and has U+FFFD for a NUL
abbrev pub is_code_byte : ℕ → Bool
is_code_byte b = b == 9 || not (is_control b)

-- A line in code. It ends with a line of as many backquotes as it began with or more; other lines have fewer.
abbrev pub fenced_line : Reading → ℕ → List (List ℕ) → List ℕ → Option Reading
fenced_line read n lines line =
    if nat_lt (longest_run 0 line) n && list_all is_code_byte line
    then Some (record read { stand = Fenced n (lines ++ line ∷ []) })
    else if list_all is_grave line then Some (record read {
      said = read.said ++ Code read.depth lines ∷ [];
      stand = Between;
    })
    else None

-- it stands in the same items as the code
abbrev pub fenced_line_in : Reading → ℕ → List (List ℕ) → Within → Option Reading
fenced_line_in read n lines at = if at.level == read.depth then fenced_line read n lines at.line else None

abbrev pub next_in : Reading → Stand → List ℕ → Option Reading
next_in read (Fenced n lines) [] = fenced_line read n lines []
next_in read (Fenced n lines) (b ∷ line) = fenced_line_in read n lines (within read.depth (b ∷ line))
next_in read Between [] = empty_line read
next_in read Between (b ∷ line) =
    let at : Within = within read.depth (b ∷ line) in line_if read at (kind_of at.line)
next_in read Filled [] = empty_line read
next_in read Filled (b ∷ line) =
    let at : Within = within read.depth (b ∷ line) in line_if read at (kind_of at.line)
next_in read Broken [] = None
next_in read Broken (b ∷ line) =
    let at : Within = within read.depth (b ∷ line) in line_if read at (kind_of at.line)

abbrev pub next_line : Option Reading → List ℕ → Option Reading
next_line None line = None
next_line (Some read) line = next_in read read.stand line

-- ---- the page

-- the lines of a text, each except the last ended by a newline
abbrev pub lines : List ℕ → List (List ℕ)
lines bytes = slice_split (λ b. b == newline) bytes

-- a page ends outside code, and not after a line break
abbrev pub whole_page : Option Reading → Option (List Said)
whole_page None = None
whole_page (Some read) = if is_open read.stand then Some read.said else None

-- nothing follows its last newline
abbrev pub page_if_empty : Option Reading → List ℕ → Option (List Said)
page_if_empty read [] = whole_page read
page_if_empty read (b ∷ line) = None

abbrev pub page_of : Option Reading → List (List ℕ) → Option (List Said)
page_of read [] = None
page_of read (last ∷ []) = page_if_empty read last
page_of read (line ∷ next ∷ more) = page_of (next_line read line) (next ∷ more)

-- the page that a text is read as
abbrev pub read : List ℕ → Option (List Said)
read bytes = page_of (Some nothing_read) (lines bytes)
