-- A reader of manual pages, for the part of man(7) that a page is written in: the escapes of a line, the words of a
-- request, and what each request does. What is not of this part is refused.
use Rattle.std.specs.Prelude.{ℕ, ◌+◌, ◌-◌, ◌*◌, Bool, true, false, not, ◌&&◌, ◌||◌, ◌==◌, nat_lt, nat_le, List, [], ◌∷◌, ◌++◌, Option, Some, None, fold, codes, if◌then◌else◌}
use Rattle.std.specs.List.{slice_split}
use Rattle.std.specs.Str.{bytes_eq}
use Rattle.man_page.specs.Sheet.{Font, Roman, Bold, Italic, Glyph, Kind, Plain, Tagged, Bulleted, Continued, Indent, Usual, Columns, Said, Heading, Paragraph, Example, Synopsis, Sheet}
use Rattle.page_model.specs.declared.parts.Rank.{Rank}
use Rattle.page_model.specs.declared.parts.Rank.TheVariants.{Section, Subsection}

-- ---- bytes

abbrev pub newline : ℕ
newline = 10

abbrev pub blank : ℕ
blank = 32

abbrev pub double_quote : ℕ
double_quote = 34

abbrev pub percent : ℕ
percent = 37

abbrev pub ampersand : ℕ
ampersand = 38

abbrev pub quote : ℕ
quote = 39

abbrev pub parenthesis : ℕ
parenthesis = 40

abbrev pub hyphen : ℕ
hyphen = 45

abbrev pub dot : ℕ
dot = 46

abbrev pub capital_b : ℕ
capital_b = 66

abbrev pub capital_i : ℕ
capital_i = 73

abbrev pub capital_n : ℕ
capital_n = 78

abbrev pub capital_p : ℕ
capital_p = 80

abbrev pub backslash : ℕ
backslash = 92

abbrev pub circumflex : ℕ
circumflex = 94

abbrev pub grave : ℕ
grave = 96

abbrev pub small_e : ℕ
small_e = 101

abbrev pub small_f : ℕ
small_f = 102

abbrev pub tilde : ℕ
tilde = 126

-- a control character, which roff has no glyph for
abbrev pub is_control : ℕ → Bool
is_control b = (nat_lt b 32 && not (b == 9)) || b == 127

abbrev pub is_digit : ℕ → Bool
is_digit b = nat_le 48 b && nat_le b 57

-- In a text these are the glyphs of a hyphen, of quotes and of accents, which are other characters.
abbrev pub is_other_glyph : ℕ → Bool
is_other_glyph b = b == hyphen || b == quote || b == grave || b == circumflex || b == tilde

-- ---- the glyphs of a line

pub data Mode : Type 0 where
  -- in text
  Text : Mode
  -- after a backslash
  Escape : Mode
  -- after `\(`, and after that and one byte
  Special : Mode
  SpecialOf : ℕ → Mode
  -- after `\f`
  FontName : Mode
  -- after `\N`, and in the number of a character after its quote
  Number : Mode
  NumberOf : ℕ → Mode

pub record Line : Type 0 where
  pub mode : Mode
  pub font : Font
  pub shown : List Glyph

abbrev pub start_of_line : Line
start_of_line = record { mode = Text; font = Roman; shown = [] }

abbrev pub with_glyph : Line → ℕ → Line
with_glyph line b = record {
  mode = Text;
  font = line.font;
  shown = line.shown ++ (record { byte = b; font = line.font }) ∷ [];
}

abbrev pub with_mode : Line → Mode → Line
with_mode line mode = record line { mode = mode }

abbrev pub with_font : Line → Font → Line
with_font line font = record line { mode = Text; font = font }

-- the character of a name of two bytes
abbrev pub special : ℕ → ℕ → Option ℕ
special b c =
    let name : List ℕ = b ∷ c ∷ [] in
    if bytes_eq name (codes "aq") then Some quote
    else if bytes_eq name (codes "ga") then Some grave
    else if bytes_eq name (codes "ha") then Some circumflex
    else if bytes_eq name (codes "ti") then Some tilde
    else if bytes_eq name (codes "dq") then Some double_quote
    else None

abbrev pub with_special : Line → Option ℕ → Option Line
with_special line None = None
with_special line (Some b) = Some (with_glyph line b)

-- A byte in text. With `other` the glyphs of other characters count as the bytes: in a title line, which programs read.
abbrev pub text_byte : Bool → Line → ℕ → Option Line
text_byte other line b =
    if b == backslash then Some (with_mode line Escape)
    else if is_control b || (is_other_glyph b && not other) then None
    else Some (with_glyph line b)

-- Whether a word may begin after what is shown: after nothing, or after a blank.
abbrev pub is_at_front : List Glyph → Bool
is_at_front [] = true
is_at_front (glyph ∷ []) = glyph.byte == blank
is_at_front (glyph ∷ next ∷ shown) = is_at_front (next ∷ shown)

-- A byte after a backslash. These escapes are read: `\-`, `\e`, `\~`, `\&`, `\%`, `\(` with a name that `special` has,
-- `\fB`, `\fI`, `\fP`, and `\N'n'` for a printable character. `\&` shows nothing, and `\~` is a blank at which no line
-- breaks. `\%` shows nothing at the front of a word, which it keeps whole; within one, a line may break there with a
-- hyphen that nobody wrote.
abbrev pub escape_byte : Line → ℕ → Option Line
escape_byte line b =
    if b == hyphen then Some (with_glyph line hyphen)
    else if b == small_e then Some (with_glyph line backslash)
    else if b == tilde then Some (with_glyph line blank)
    else if b == ampersand then Some (with_mode line Text)
    else if b == percent then (if is_at_front line.shown then Some (with_mode line Text) else None)
    else if b == parenthesis then Some (with_mode line Special)
    else if b == small_f then Some (with_mode line FontName)
    else if b == capital_n then Some (with_mode line Number)
    else None

-- a character of ASCII with a glyph, or a blank
abbrev pub is_printable : ℕ → Bool
is_printable n = nat_le 32 n && nat_lt n 127

-- A byte of the number of a character. A character that is not ASCII is more than one byte, and a control character has
-- no glyph.
abbrev pub number_byte : Line → ℕ → ℕ → Option Line
number_byte line n b =
    if b == quote then (if is_printable n then Some (with_glyph line n) else None)
    else if is_digit b then Some (with_mode line (NumberOf (n * 10 + (b - 48))))
    else None

-- A byte after `\f`: bold or italic begins in roman, and ends there.
abbrev pub font_byte : Line → Font → ℕ → Option Line
font_byte line Roman b =
    if b == capital_b then Some (with_font line Bold) else if b == capital_i then Some (with_font line Italic) else None
font_byte line Bold b = if b == capital_p then Some (with_font line Roman) else None
font_byte line Italic b = if b == capital_p then Some (with_font line Roman) else None

abbrev pub line_byte : Bool → Line → Mode → ℕ → Option Line
line_byte other line Text b = text_byte other line b
line_byte other line Escape b = escape_byte line b
line_byte other line Special b = Some (with_mode line (SpecialOf b))
line_byte other line (SpecialOf first) b = with_special line (special first b)
line_byte other line FontName b = font_byte line line.font b
line_byte other line Number b = if b == quote then Some (with_mode line (NumberOf 0)) else None
line_byte other line (NumberOf n) b = number_byte line n b

abbrev pub next_byte : Bool → Option Line → ℕ → Option Line
next_byte other None b = None
next_byte other (Some line) b = line_byte other line line.mode b

-- a line ends in text and in roman
abbrev pub whole_line : Mode → Font → List Glyph → Option (List Glyph)
whole_line Text Roman shown = Some shown
whole_line Text Bold shown = None
whole_line Text Italic shown = None
whole_line Escape font shown = None
whole_line Special font shown = None
whole_line (SpecialOf first) font shown = None
whole_line FontName font shown = None
whole_line Number font shown = None
whole_line (NumberOf n) font shown = None

abbrev pub end_of_line : Option Line → Option (List Glyph)
end_of_line None = None
end_of_line (Some line) = whole_line line.mode line.font line.shown

-- the glyphs of a line
abbrev pub glyphs : Bool → List ℕ → Option (List Glyph)
glyphs other bytes = end_of_line (fold (next_byte other) (Some start_of_line) bytes)

-- ---- the words of a request

pub data Place : Type 0 where
  -- between words
  Between : Place
  -- in a word of these bytes, which stands by itself or in double quotes
  Bare : List ℕ → Place
  Quoted : List ℕ → Place
  -- after the second quote
  Closed : Place

pub record Words : Type 0 where
  pub place : Place
  pub words : List (List ℕ)

abbrev pub with_word : Words → List ℕ → Place → Option Words
with_word read word place = Some (record { place = place; words = read.words ++ word ∷ [] })

abbrev pub at_place : Words → Place → Option Words
at_place read place = Some (record read { place = place })

abbrev pub word_byte : Words → Place → ℕ → Option Words
word_byte read Between b =
    if b == blank then at_place read Between
    else if b == double_quote then at_place read (Quoted [])
    else at_place read (Bare (b ∷ []))
word_byte read (Bare word) b =
    if b == blank then with_word read word Between
    else if b == double_quote then None
    else at_place read (Bare (word ++ b ∷ []))
word_byte read (Quoted word) b =
    if b == double_quote then with_word read word Closed else at_place read (Quoted (word ++ b ∷ []))
word_byte read Closed b = if b == blank then at_place read Between else None

abbrev pub next_word_byte : Option Words → ℕ → Option Words
next_word_byte None b = None
next_word_byte (Some read) b = word_byte read read.place b

abbrev pub end_of_words : List (List ℕ) → Place → Option (List (List ℕ))
end_of_words words Between = Some words
end_of_words words (Bare word) = Some (words ++ word ∷ [])
end_of_words words (Quoted word) = None
end_of_words words Closed = Some words

abbrev pub whole_words : Option Words → Option (List (List ℕ))
whole_words None = None
whole_words (Some read) = end_of_words read.words read.place

-- the words of a request, as they are written
abbrev pub words_of : List ℕ → Option (List (List ℕ))
words_of bytes = whole_words (fold next_word_byte (Some (record { place = Between; words = [] })) bytes)

abbrev pub and_word : Option (List Glyph) → Option (List (List Glyph)) → Option (List (List Glyph))
and_word None others = None
and_word (Some word) None = None
and_word (Some word) (Some others) = Some (word ∷ others)

-- what they show
abbrev pub shown_words : Bool → List (List ℕ) → Option (List (List Glyph))
shown_words other [] = Some []
shown_words other (word ∷ words) = and_word (glyphs other word) (shown_words other words)

abbrev pub shown_if : Bool → Option (List (List ℕ)) → Option (List (List Glyph))
shown_if other None = None
shown_if other (Some words) = shown_words other words

-- ---- what a line asks for

pub data Request : Type 0 where
  TitleLine : List ℕ → Request
  SectionHeading : List ℕ → Request
  SubsectionHeading : List ℕ → Request
  NewParagraph : Request
  NewTagged : Request
  NewBulleted : Request
  NewContinued : Request
  LineBreak : Request
  StartIndent : Indent → Request
  EndIndent : Request
  StartExample : Request
  EndExample : Request
  StartSynopsis : List ℕ → Request
  EndSynopsis : Request
  -- a line of text
  Input : List ℕ → Request

-- what follows these bytes
abbrev pub after : List ℕ → List ℕ → Option (List ℕ)
after [] bytes = Some bytes
after (b ∷ front) [] = None
after (b ∷ front) (c ∷ bytes) = if b == c then after front bytes else None

-- a request with words, where the line begins with its name
abbrev pub request_with : (List ℕ → Request) → Option (List ℕ) → Option Request → Option Request
request_with request None otherwise = otherwise
request_with request (Some words) otherwise = Some (request words)

-- a number in decimal digits, of which there is at least one
abbrev pub next_digit : Option ℕ → ℕ → Option ℕ
next_digit None b = None
next_digit (Some n) b = if is_digit b then Some (n * 10 + (b - 48)) else None

abbrev pub number : List ℕ → Option ℕ
number [] = None
number (b ∷ bytes) = fold next_digit (Some 0) (b ∷ bytes)

-- an indent of that many columns
abbrev pub wide_indent : Option ℕ → Option Request
wide_indent None = None
wide_indent (Some n) = Some (StartIndent (Columns n))

abbrev pub indent_with : Option (List ℕ) → Option Request → Option Request
indent_with None otherwise = otherwise
indent_with (Some word) otherwise = wide_indent (number word)

abbrev pub request_of : List ℕ → Option Request
request_of line =
    if bytes_eq line (codes ".PP") then Some NewParagraph
    else if bytes_eq line (codes ".TP") then Some NewTagged
    else if bytes_eq line (codes ".IP \\(bu 2") then Some NewBulleted
    else if bytes_eq line (codes ".IP") then Some NewContinued
    else if bytes_eq line (codes ".br") then Some LineBreak
    else if bytes_eq line (codes ".RS") then Some (StartIndent Usual)
    else if bytes_eq line (codes ".RE") then Some EndIndent
    else if bytes_eq line (codes ".EX") then Some StartExample
    else if bytes_eq line (codes ".EE") then Some EndExample
    else if bytes_eq line (codes ".YS") then Some EndSynopsis
    else indent_with (after (codes ".RS ") line)
    (request_with SectionHeading (after (codes ".SH ") line)
    (request_with SubsectionHeading (after (codes ".SS ") line)
    (request_with StartSynopsis (after (codes ".SY ") line)
    (request_with TitleLine (after (codes ".TH ") line) None))))

-- a line that begins with a dot is a request, and one that begins with a quote is one of another kind
abbrev pub line_of : List ℕ → Option Request
line_of [] = Some (Input [])
line_of (b ∷ line) =
    if b == dot then request_of (b ∷ line)
    else if b == quote then None
    else Some (Input (b ∷ line))

-- ---- the page so far

pub data Stand : Type 0 where
  -- before the title line
  Front : Stand
  -- where the next text begins a paragraph of this kind
  Fresh : Kind → Stand
  -- where the next line is a tag
  Tag : Stand
  -- in the paragraph that is last; there without a text yet, and there after a line break
  Filled : Stand
  Bodied : Stand
  Broken : Stand
  -- in an example or a synopsis, with the lines so far
  InExample : List (List Glyph) → Stand
  InSynopsis : List Glyph → List (List Glyph) → Stand

pub record Reading : Type 0 where
  pub title : List (List Glyph)
  pub said : List Said
  pub indents : List Indent
  pub stand : Stand

abbrev pub nothing_read : Reading
nothing_read = record { title = []; said = []; indents = []; stand = Front }

abbrev pub standing : Reading → Stand → Option Reading
standing read stand = Some (record read { stand = stand })

abbrev pub saying : Reading → Said → Stand → Option Reading
saying read more stand = Some (record read { said = read.said ++ more ∷ []; stand = stand })

-- a line after those of the last paragraph
abbrev pub with_line : Said → List Glyph → Said
with_line (Heading rank shown) line = Heading rank shown
with_line (Paragraph indents kind lines) line = Paragraph indents kind (lines ++ line ∷ [])
with_line (Example indents lines) line = Example indents lines
with_line (Synopsis name items) line = Synopsis name items

abbrev pub on_last : {X : Type 0} → (X → X) → List X → List X
on_last change [] = []
on_last change (x ∷ []) = change x ∷ []
on_last change (x ∷ y ∷ xs) = x ∷ on_last change (y ∷ xs)

-- a line that continues the last one of the last paragraph, after a blank
abbrev pub with_more : Said → List Glyph → Said
with_more (Heading rank shown) more = Heading rank shown
with_more (Paragraph indents kind lines) more =
    Paragraph indents kind (on_last (λ line. line ++ (record { byte = blank; font = Roman }) ∷ more) lines)
with_more (Example indents lines) more = Example indents lines
with_more (Synopsis name items) more = Synopsis name items

abbrev pub changing_last : Reading → (Said → Said) → Option Reading
changing_last read change = Some (record read { said = on_last change read.said; stand = Filled })

abbrev pub last_of : ℕ → List ℕ → ℕ
last_of b [] = b
last_of b (c ∷ bytes) = last_of c bytes

abbrev pub ends_in_blank : List ℕ → Bool
ends_in_blank line = last_of 0 line == blank

-- whether roff takes a line of text for its glyphs alone: it is not empty, and has no blank at an end
abbrev pub is_plain_input : List ℕ → Bool
is_plain_input [] = false
is_plain_input (b ∷ bytes) = not (b == blank) && not (last_of b bytes == blank)

-- a line of text in a place, once its glyphs are read
abbrev pub placed : Reading → Stand → List Glyph → Option Reading
placed read Front line = None
placed read (Fresh kind) line = saying read (Paragraph read.indents kind (line ∷ [])) Filled
placed read Tag line = saying read (Paragraph read.indents (Tagged line) []) Bodied
placed read Bodied line = changing_last read (λ last. with_line last line)
placed read Broken line = changing_last read (λ last. with_line last line)
placed read Filled line = changing_last read (λ last. with_more last line)
placed read (InExample lines) line = standing read (InExample (lines ++ line ∷ []))
placed read (InSynopsis name items) line = standing read (InSynopsis name (items ++ line ∷ []))

abbrev pub placed_if : Reading → Stand → Option (List Glyph) → Option Reading
placed_if read stand None = None
placed_if read stand (Some line) = placed read stand line

abbrev pub is_in_example : Stand → Bool
is_in_example Front = false
is_in_example (Fresh kind) = false
is_in_example Tag = false
is_in_example Filled = false
is_in_example Bodied = false
is_in_example Broken = false
is_in_example (InExample lines) = true
is_in_example (InSynopsis name items) = false

abbrev pub with_input : Reading → List ℕ → Option Reading
with_input read line =
    if not (ends_in_blank line) && (is_in_example read.stand || is_plain_input line)
    then placed_if read read.stand (glyphs false line)
    else None

-- whether a paragraph, a heading or an indent may come
abbrev pub is_open : Stand → Bool
is_open Front = false
is_open (Fresh kind) = true
is_open Tag = false
is_open Filled = true
is_open Bodied = true
is_open Broken = true
is_open (InExample lines) = false
is_open (InSynopsis name items) = false

abbrev pub if_open : Reading → Option Reading → Option Reading
if_open read next = if is_open read.stand then next else None

-- Words with one blank between two are shown as they stand: in double quotes, with more blanks or with none they are
-- not of this part.
abbrev pub is_spaced : Bool → List ℕ → Bool
is_spaced after_blank [] = not after_blank
is_spaced after_blank (b ∷ bytes) =
    if b == blank then not after_blank && is_spaced true bytes else not (b == double_quote) && is_spaced false bytes

abbrev pub heading_glyphs : List ℕ → Option (List Glyph)
heading_glyphs words = if is_spaced true words then glyphs false words else None

-- a heading may not stand within an indent
abbrev pub in_no_indent : List Indent → Bool
in_no_indent [] = true
in_no_indent (indent ∷ indents) = false

abbrev pub with_heading : Reading → Rank → Option (List Glyph) → Option Reading
with_heading read rank None = None
with_heading read rank (Some shown) =
    if in_no_indent read.indents then saying read (Heading rank shown) (Fresh Plain) else None

abbrev pub with_title : Reading → Stand → Option (List (List Glyph)) → Option Reading
with_title read Front (Some words) = Some (record read { title = words; stand = Fresh Plain })
with_title read _ _ = None

abbrev pub with_synopsis : Reading → Option (List (List Glyph)) → Option Reading
with_synopsis read (Some (name ∷ [])) =
    if_open read (if in_no_indent read.indents then standing read (InSynopsis name []) else None)
with_synopsis read _ = None

abbrev pub with_break : Reading → Stand → Option Reading
with_break read Filled = standing read Broken
with_break read _ = None

-- After a tag or a bullet an example would stand in that paragraph, and not in its indents alone.
abbrev pub with_example_start : Reading → Stand → Option Reading
with_example_start read (Fresh Plain) = standing read (InExample [])
with_example_start read _ = None

abbrev pub with_example : Reading → Stand → Option Reading
with_example read (InExample lines) = saying read (Example read.indents lines) (Fresh Plain)
with_example read _ = None

abbrev pub with_synopsis_end : Reading → Stand → Option Reading
with_synopsis_end read (InSynopsis name items) = saying read (Synopsis name items) (Fresh Plain)
with_synopsis_end read _ = None

abbrev pub indented : Reading → Indent → Option Reading
indented read indent = Some (record read { indents = indent ∷ read.indents; stand = Fresh Plain })

abbrev pub outdented : Reading → List Indent → Option Reading
outdented read [] = None
outdented read (indent ∷ indents) = Some (record read { indents = indents; stand = Fresh Plain })

abbrev pub done : Reading → Request → Option Reading
done read (TitleLine words) = with_title read read.stand (shown_if true (words_of words))
done read (SectionHeading words) = if_open read (with_heading read Section (heading_glyphs words))
done read (SubsectionHeading words) = if_open read (with_heading read Subsection (heading_glyphs words))
done read NewParagraph = if_open read (standing read (Fresh Plain))
done read NewTagged = if_open read (standing read Tag)
done read NewBulleted = if_open read (saying read (Paragraph read.indents Bulleted []) Bodied)
done read NewContinued = if_open read (standing read (Fresh Continued))
done read LineBreak = with_break read read.stand
done read (StartIndent indent) = if_open read (indented read indent)
done read EndIndent = if_open read (outdented read read.indents)
done read StartExample = with_example_start read read.stand
done read EndExample = with_example read read.stand
done read (StartSynopsis words) = with_synopsis read (shown_if false (words_of words))
done read EndSynopsis = with_synopsis_end read read.stand
done read (Input line) = with_input read line

abbrev pub done_if : Reading → Option Request → Option Reading
done_if read None = None
done_if read (Some request) = done read request

abbrev pub next_line : Option Reading → List ℕ → Option Reading
next_line None line = None
next_line (Some read) line = done_if read (line_of line)

-- ---- the page

-- the lines of a text, each except the last ended by a newline
abbrev pub lines : List ℕ → List (List ℕ)
lines bytes = slice_split (λ b. b == newline) bytes

-- a page ends outside examples and synopses, and in no indent
abbrev pub whole_page : Option Reading → Option Sheet
whole_page None = None
whole_page (Some read) =
    if is_open read.stand && in_no_indent read.indents
    then Some (record { title = read.title; said = read.said })
    else None

-- nothing follows its last newline
abbrev pub page_if_empty : Option Reading → List ℕ → Option Sheet
page_if_empty read [] = whole_page read
page_if_empty read (b ∷ line) = None

abbrev pub page_of : Option Reading → List (List ℕ) → Option Sheet
page_of read [] = None
page_of read (last ∷ []) = page_if_empty read last
page_of read (line ∷ next ∷ more) = page_of (next_line read line) (next ∷ more)

-- the page that a text is read as
abbrev pub read : List ℕ → Option Sheet
read bytes = page_of (Some nothing_read) (lines bytes)
