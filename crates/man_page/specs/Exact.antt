-- How a manual page is written, byte by byte. The promise does not rest on it: what is written reads back, whatever it
-- is.
use Rattle.std.specs.Prelude.{ℕ, Bool, true, false, not, ◌&&◌, ◌||◌, ◌==◌, nat_le, List, [], ◌∷◌, ◌++◌, flat_map, codes, if◌then◌else◌}
use Rattle.std.specs.List.{list_any}
use Rattle.page_model.specs.Content.{Piece, words, literal, value, link, page, Line, BlockSaid, paragraph, code, bullets, EntrySaid, FormSaid, PartSaid, heading, usage, block, entries}
use Rattle.page_model.specs.declared.parts.Rank.{Rank}
use Rattle.page_model.specs.declared.parts.Rank.TheVariants.{Page, Section, Subsection}
use Rattle.man_page.specs.declared.escape.Role.{Role}
use Rattle.man_page.specs.declared.escape.Role.TheVariants.{Text, Item, Code, Title}
use Rattle.man_page.specs.Kept.{TitleSaid}
use Rattle.man_page.specs.Reader.{last_of}

-- ---- texts

-- A blank; a newline counts as one, and so does a tab except in code. In a usage item no line breaks at it.
abbrev pub blank_text : Role → List ℕ
blank_text Text = codes " "
blank_text Item = codes "\\~"
blank_text Code = codes " "
blank_text Title = codes " "

abbrev pub tab_text : Role → List ℕ
tab_text Text = codes " "
tab_text Item = codes "\\~"
tab_text Code = 9 ∷ []
tab_text Title = codes " "

-- A program that reads a title line looks for a name with its hyphens, and groff puts a page number for a percent sign.
abbrev pub hyphen_text : Role → List ℕ
hyphen_text Text = codes "\\-"
hyphen_text Item = codes "\\-"
hyphen_text Code = codes "\\-"
hyphen_text Title = codes "-"

abbrev pub percent_text : Role → List ℕ
percent_text Text = codes "%"
percent_text Item = codes "%"
percent_text Code = codes "%"
percent_text Title = codes "\\N'37'"

-- what stands for a byte
abbrev pub escaped_byte : Role → ℕ → List ℕ
escaped_byte role b =
    if b == 32 || b == 10 then blank_text role
    else if b == 9 then tab_text role
    else if b == 45 then hyphen_text role
    else if b == 37 then percent_text role
    else if b == 92 then codes "\\e"
    else if b == 39 then codes "\\(aq"
    else if b == 96 then codes "\\(ga"
    else if b == 94 then codes "\\(ha"
    else if b == 126 then codes "\\(ti"
    else if b == 34 then codes "\\(dq"
    else b ∷ []

abbrev pub escaped : Role → List ℕ → List ℕ
escaped role text = flat_map (escaped_byte role) text

-- ---- lines

-- whether a text begins with a glyph by its name: some programs that read the name of a page drop most of these at the
-- front of a line
abbrev pub is_glyph_first : List ℕ → Bool
is_glyph_first (a ∷ b ∷ text) = a == 92 && b == 40
is_glyph_first _ = false

-- A line that begins with a dot is a request, one that begins with a blank starts a new line, and an empty one is
-- shown.
abbrev pub line_front : List ℕ → List ℕ
line_front [] = codes "\\&"
line_front (b ∷ line) = if (b == 46 || b == 32) || is_glyph_first (b ∷ line) then codes "\\&" else []

-- blanks at the end of a line are dropped
abbrev pub line_back : List ℕ → List ℕ
line_back line = if last_of 0 line == 32 then codes "\\&" else []

-- a line of text with its newline
abbrev pub input_line : List ℕ → List ℕ
input_line line = line_front line ++ (line ++ (line_back line ++ codes "\n"))

-- a line of code: it may be empty, and begin with blanks
abbrev pub code_front : List ℕ → List ℕ
code_front [] = []
code_front (b ∷ line) = if b == 46 || is_glyph_first (b ∷ line) then codes "\\&" else []

abbrev pub code_line : List ℕ → List ℕ
code_line line = let text : List ℕ = escaped Code line in code_front text ++ (text ++ (line_back text ++ codes "\n"))

-- ---- pieces

abbrev pub is_blank : ℕ → Bool
is_blank b = b == 32 || b == 9 || b == 10

-- a letter of ASCII, or a byte of any character that is not of ASCII
abbrev pub is_letter : ℕ → Bool
is_letter b = (nat_le 65 b && nat_le b 90) || (nat_le 97 b && nat_le b 122) || nat_le 128 b

-- a literal with a letter in it is not hyphenated at the front of a word of a paragraph
abbrev pub unhyphenated : Bool → List ℕ → List ℕ
unhyphenated guarded text = if guarded && list_any is_letter text then codes "\\%" else []

abbrev pub piece_text : Role → Bool → List ℕ → Piece → List ℕ
piece_text role guarded section (words text) = escaped role text
piece_text role guarded section (literal text) =
    codes "\\fB" ++ (unhyphenated guarded text ++ (escaped role text ++ codes "\\fP"))
piece_text role guarded section (value text) = codes "\\fI" ++ (escaped role text ++ codes "\\fP")
piece_text role guarded section (link text) = escaped role text
piece_text role guarded section (page name) =
    codes "\\fB" ++ (unhyphenated guarded name ++ (escaped role name
    ++ (codes "\\fP(" ++ (escaped role section ++ codes ")"))))

-- whether what follows a text is at the front of a word, where the text is or not
abbrev pub begins_word : Bool → List ℕ → Bool
begins_word front [] = front
begins_word front (b ∷ text) = is_blank (last_of b text)

abbrev pub begins_after : Bool → Piece → Bool
begins_after front (words text) = begins_word front text
begins_after front (literal text) = begins_word front text
begins_after front (value text) = begins_word front text
begins_after front (link text) = begins_word front text
begins_after front (page name) = false

-- pieces, the first of which is at the front of a word or not
abbrev pub pieces_from : Role → Bool → Bool → List ℕ → Line → List ℕ
pieces_from role guarded front section [] = []
pieces_from role guarded front section (piece ∷ line) =
    piece_text role (guarded && front) section piece
    ++ pieces_from role guarded (begins_after front piece) section line

abbrev pub pieces_text : Role → Bool → List ℕ → Line → List ℕ
pieces_text role guarded section line = pieces_from role guarded true section line

-- ---- blocks

-- lines of a paragraph with a line break between two
abbrev pub lines_text : List ℕ → List Line → List ℕ
lines_text section [] = []
lines_text section (line ∷ []) = input_line (pieces_text Text true section line)
lines_text section (line ∷ next ∷ lines) =
    input_line (pieces_text Text true section line) ++ (codes ".br\n" ++ lines_text section (next ∷ lines))

abbrev pub example_text : List (List ℕ) → List ℕ
example_text lines = codes ".RS 4\n.EX\n" ++ (flat_map code_line lines ++ codes ".EE\n.RE\n")

abbrev pub bullet_text : List ℕ → List Line → List ℕ
bullet_text section item = codes ".IP \\(bu 2\n" ++ lines_text section item

-- a paragraph and code have the request of a new one before them, except directly after a heading
abbrev pub new_paragraph : Bool → List ℕ
new_paragraph true = []
new_paragraph false = codes ".PP\n"

abbrev pub block_text : List ℕ → Bool → BlockSaid → List ℕ
block_text section after_heading (paragraph lines) = new_paragraph after_heading ++ lines_text section lines
block_text section after_heading (code lines) = new_paragraph after_heading ++ example_text lines
block_text section after_heading (bullets items) = flat_map (bullet_text section) items

abbrev pub inner_text : List ℕ → BlockSaid → List ℕ
inner_text section (paragraph lines) = codes ".IP\n" ++ lines_text section lines
inner_text section (code lines) = codes ".RS\n.PP\n" ++ (example_text lines ++ codes ".RE\n")
inner_text section (bullets items) = codes ".RS\n" ++ (flat_map (bullet_text section) items ++ codes ".RE\n")

abbrev pub terms_text : List ℕ → List Line → List ℕ
terms_text section [] = []
terms_text section (term ∷ []) = pieces_text Text false section term
terms_text section (term ∷ next ∷ terms) =
    pieces_text Text false section term ++ (codes ", " ++ terms_text section (next ∷ terms))

abbrev pub body_text : List ℕ → List BlockSaid → List ℕ
body_text section [] = []
body_text section (paragraph lines ∷ blocks) = lines_text section lines ++ flat_map (inner_text section) blocks
body_text section (code lines ∷ blocks) = flat_map (inner_text section) (code lines ∷ blocks)
body_text section (bullets items ∷ blocks) = flat_map (inner_text section) (bullets items ∷ blocks)

abbrev pub entry_text : List ℕ → EntrySaid → List ℕ
entry_text section entry =
    codes ".TP\n" ++ (input_line (terms_text section entry.terms) ++ body_text section entry.body)

-- ---- items of a usage

-- After a sentence that ends with its line an extra blank is set. A stop ends a sentence, also where closing signs
-- follow it: brackets, quotes and note signs, some of which are not ASCII.
abbrev pub is_stop : ℕ → Bool
is_stop b = b == 46 || b == 63 || b == 33

abbrev pub is_closing : ℕ → Bool
is_closing b = b == 41 || b == 93 || b == 34 || b == 39 || b == 42 || nat_le 128 b || is_blank b

-- whether a sentence ends with a text, where one ended with the text before or not
abbrev pub ends_sentence : Bool → List ℕ → Bool
ends_sentence ended [] = ended
ends_sentence ended (b ∷ text) = ends_sentence (is_stop b || (ended && is_closing b)) text

abbrev pub piece_bytes : List ℕ → Piece → List ℕ
piece_bytes section (words text) = text
piece_bytes section (literal text) = text
piece_bytes section (value text) = text
piece_bytes section (link text) = text
piece_bytes section (page name) = name ++ (codes "(" ++ (section ++ codes ")"))

-- no sentence ends with an item
abbrev pub item_back : List ℕ → Line → List ℕ
item_back section item = if ends_sentence false (flat_map (piece_bytes section) item) then codes "\\&" else []

abbrev pub item_text : List ℕ → Line → List ℕ
item_text section item =
    let text : List ℕ = pieces_text Item false section item in
    line_front text ++ (text ++ (item_back section item ++ codes "\n"))

-- ---- words of requests

-- a word, in double quotes where it is empty or has a blank in it
abbrev pub wants_quotes : List ℕ → Bool
wants_quotes [] = true
wants_quotes (b ∷ bytes) = list_any is_blank (b ∷ bytes)

abbrev pub word_text : Role → List ℕ → List ℕ
word_text role word = if wants_quotes word then codes "\"" ++ (escaped role word ++ codes "\"") else escaped role word

abbrev pub form_text : List ℕ → FormSaid → List ℕ
form_text section form =
    codes ".SY " ++ (word_text Text form.name ++ (codes "\n"
    ++ (flat_map (item_text section) form.items ++ codes ".YS\n")))

abbrev pub heading_name : Rank → List ℕ
heading_name Page = codes ".SH "
heading_name Section = codes ".SH "
heading_name Subsection = codes ".SS "

-- whether words have one blank between two, and none at their ends
abbrev pub is_spaced_text : Bool → List ℕ → Bool
is_spaced_text after_blank [] = not after_blank
is_spaced_text after_blank (b ∷ text) =
    if is_blank b then not after_blank && is_spaced_text true text else is_spaced_text false text

-- a title; where blanks would not be kept, no line breaks at them
abbrev pub title_text : List ℕ → List ℕ
title_text [] = codes "\\&"
title_text (b ∷ title) =
    if is_spaced_text true (b ∷ title) then escaped Text (b ∷ title) else escaped Item (b ∷ title)

abbrev pub heading_text : Rank → List ℕ → List ℕ
heading_text rank title = heading_name rank ++ (title_text title ++ codes "\n")

-- ---- the page

abbrev pub part_text : List ℕ → Bool → PartSaid → List ℕ
part_text section after_heading (heading rank title) = heading_text rank title
part_text section after_heading (usage forms) = flat_map (form_text section) forms
part_text section after_heading (block shown) = block_text section after_heading shown
part_text section after_heading (entries list) = flat_map (entry_text section) list

abbrev pub is_heading : PartSaid → Bool
is_heading (heading rank title) = true
is_heading (usage forms) = false
is_heading (block shown) = false
is_heading (entries list) = false

abbrev pub parts_text : List ℕ → Bool → List PartSaid → List ℕ
parts_text section after_heading [] = []
parts_text section after_heading (part ∷ parts) =
    part_text section after_heading part ++ parts_text section (is_heading part) parts

abbrev pub title_line : TitleSaid → List ℕ
title_line title =
    codes ".TH " ++ (word_text Title title.name ++ (codes " " ++ (word_text Title title.section ++ (codes " "
    ++ (word_text Title title.date ++ (codes " " ++ (word_text Title title.vendor ++ (codes " "
    ++ (word_text Title title.title ++ codes "\n")))))))))

abbrev pub page_text : TitleSaid → List PartSaid → List ℕ
page_text title parts = title_line title ++ parts_text title.section false parts
