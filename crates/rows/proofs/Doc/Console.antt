-- Console pages of small documents, computed.
use Rattle.std.specs.Prelude.{◌≡◌, ℕ, true, false, List, [], ◌∷◌, ◌++◌, codes, replicate, refl}
use Rattle.std.specs.Str.{chars, trim_end}
use lib.Utf8.{encode}
use Rattle.unicode_width.specs.Width.{str_width, step, past_emoji}
use Rattle.bpaf_doc.specs.declared.buffer.Style.TheVariants as style
use Rattle.bpaf_doc.specs.declared.buffer.Block.{Block}
use Rattle.bpaf_doc.specs.declared.buffer.Block.TheVariants as block
use Rattle.bpaf_doc.specs.Buffer.Parts.{Part, Text, Start, End, document_ink}
use Rattle.bpaf_doc.specs.Splitter.Chunks.{Raw, columns, chunks_of, chunks_in, chunks_within}
use Rattle.bpaf_doc.specs.Shown.{console_ink}
use Rattle.bpaf_doc.specs.Console.Exact.{console_page}
use Rattle.bpaf_doc.specs.Console.Ink.{backquoted_ink}
use Rattle.bpaf_doc.specs.Console.Layout.{Stretch, Gap, Placed, Passed, Shows, text_of, events_of, shown_events, column}
use Rattle.bpaf_doc.specs.Console.Margin.{term_length, margin, greatest_margin}

-- what has to unfold to compute the page of an ASCII document
unfoldable pub computed : ℕ
unfolding chunks_of chunks_in chunks_within chars encode trim_end str_width step past_emoji
computed = 0

-- a text alone, and a block around some parts
abbrev pub words : List ℕ → List Part
words bytes = Text bytes style.Text ∷ []

abbrev pub inside : Block → List Part → List Part
inside b parts = Start b ∷ (parts ++ End b ∷ [])

-- pages of texts, blocks, lists, terms and code
pages_1 : console_page true 100 ([]) ≡ []
    × console_page true 100 (words (codes "hello\n world\n")) ≡ codes "hello\nworld "
    × console_page false 100 (words (codes "hello\n\nworld")) ≡ codes "hello\n"
    × console_page true 100 (words (codes "hello\n\nworld")) ≡ codes "hello\nworld"
    × console_page false 100 (inside block.InlineBlock (words (codes "a\n\nb")) ++ words (codes "c")) ≡ codes "a\nc"
    × console_page true 100 (inside block.InlineBlock (words (codes "a\n\nb")) ++ words (codes "c")) ≡ codes "a\nbc"
    × console_page true 5 (words (codes "aaa bbb")) ≡ codes "aaa\nbbb"
    × console_page true 7 (words (codes "aaa bbb")) ≡ codes "aaa bbb"
    × console_page true 6 (words (codes "aaa bbb")) ≡ codes "aaa\nbbb"
    × console_page true 0 (words (codes "ab cd")) ≡ codes "ab\ncd"
    × console_page true 100 (words (codes "x\n\n    c\ny")) ≡ codes "x\nc\ny"
    × console_page true 100 (replicate 26 (Start block.Section3) ++ (words (codes "x") ++ replicate 26 (End block.Section3))) ≡ replicate 52 32 ++ codes "x"
    × console_page true 100 (words (codes "hello\nworld\n")) ≡ codes "hello world "
    × console_page true 100 (words (codes "a\n    b\nc")) ≡ codes "ab\nc"
    × console_page true 18446744073709551615 (words (codes "a\n    b\nc")) ≡ codes "ab c"
    × console_page true 20 (inside block.ItemTerm (words (codes "--aa")) ++ inside block.ItemBody (words (codes "one two three"))) ≡ codes "    --aa  one two\n          three"
unfolding computed
pages_1 = (refl, refl, refl, refl, refl, refl, refl, refl, refl, refl, refl, refl, refl, refl, refl, refl)

pages_2 : console_page true 100 (inside block.ItemTerm (words (replicate 30 97)) ++ inside block.ItemBody (words (codes "b"))) ≡ codes "    " ++ (replicate 30 97 ++ codes "  b")
    × console_page true 3 (inside block.Block (words (codes "a")) ++ inside block.Block (words (codes "bbbbbb"))) ≡ codes "a\nbbbbbb\n"
    × console_page true 100 (inside block.TermRef (words (codes "x"))) ≡ codes "`x`"
    × console_page true 100 (inside block.Section4 (words (codes "t")) ++ (inside block.Block [] ++ inside block.ItemTerm (words (codes "x")))) ≡ codes "    t\n    x"
    × console_page true 100 (inside block.Section3 (inside block.InlineBlock (words (codes "a")) ++ words (codes "\n b"))) ≡ codes "  a\nb"
    × console_page true 37 (inside block.ItemTerm (words (replicate 30 97)) ++ inside block.ItemBody (words (codes "bbb"))) ≡ codes "    " ++ (replicate 30 97 ++ codes "  bbb")
    × console_page true 1 (words (codes "  ab")) ≡ codes "\nab"
    × console_page true 100 (inside block.ItemTerm (words (codes "abcd")) ++ (inside block.ItemBody (words (codes "x")) ++ (inside block.ItemTerm (words (codes "abc")) ++ inside block.ItemBody (words (codes "y"))))) ≡ codes "    abcd  x\n    abc   y"
    × console_page true 100 (words (codes "\n\n```\na")) ≡ codes "\n```\na"
    × console_page false 100 (words (codes "\n\n```\na")) ≡ codes "\n"
    × console_page true 100 (End block.Block ∷ []) ≡ codes "\n"
    × console_page true 100 (Start block.ItemBody ∷ []) ≡ []
    × console_page true 100 (End block.Section2 ∷ End block.Section2 ∷ []) ≡ []
    × console_page true 20 (replicate 10 (Start block.Section3) ++ words (codes "x y")) ≡ replicate 20 32 ++ (codes "x\n" ++ (replicate 20 32 ++ codes "y"))
unfolding computed
pages_2 = (refl, refl, refl, refl, refl, refl, refl, refl, refl, refl, refl, refl, refl, refl)

-- The two blanks before an item's body come again and again, where the texts of the bodies have no ink: of 48 columns
-- the words and the blanks of the texts take 40 and the greatest margin 6, and yet there is a break.
abbrev blank_body : List Part
blank_body = inside block.ItemBody (words (codes " "))

abbrev blank_bodies : List Part
blank_bodies = words (replicate 30 97) ++ (blank_body ++ (blank_body ++ (blank_body ++ (blank_body ++ (blank_body ++ words (codes "bbbbb"))))))

row_bodies : console_page true 48 blank_bodies ≡ replicate 30 97 ++ codes "\nbbbbb"
    × console_page true 50 blank_bodies ≡ replicate 30 97 ++ (replicate 15 32 ++ codes "bbbbb")
    × greatest_margin blank_bodies ≡ 6
unfolding computed
row_bodies = (refl, refl, refl)

-- the ink of a document with a term reference: in full a console shows it with two
-- backquotes, in brief what stands before a paragraph
abbrev referenced : List Part
referenced = words (codes "a ") ++ (inside block.TermRef (words (codes "b c")) ++ words (codes " d\n\ne"))

row_ink : document_ink referenced ≡ codes "abcde"
    × backquoted_ink referenced ≡ codes "a`bc`de"
    × console_ink true referenced ≡ codes "a`bc`de"
    × console_ink false referenced ≡ codes "a`bc`d"
unfolding computed
row_ink = (refl, refl, refl, refl)

row_mark : console_ink true (inside block.TermRef (words (codes "b c"))) ≡ codes "`bc`"
unfolding computed
row_mark = refl

-- the length of a term, and the margin in a term in a section
row_margin : term_length (inside block.ItemTerm (words (codes "--a"))) ≡ 3
    × margin (Start block.Section3 ∷ Start block.ItemTerm ∷ words (codes "a")) 2 ≡ 6
unfolding computed
row_margin = (refl, refl)

-- a small page with its placing
abbrev word_at : List ℕ → Stretch
word_at bytes = Placed (record { part = 0; bytes = bytes; weight = columns bytes; shown = bytes })

row_placing : console_page true 3 (words (codes "a bc")) ≡ codes "a\nbc"
    × text_of (word_at (codes "a") ∷ Passed (Shows 0 (Raw (codes " ") 1)) ∷ Gap 10 ∷ word_at (codes "bc") ∷ []) ≡ codes "a\nbc"
    × shown_events true (words (codes "a bc")) ≡ Shows 0 (Raw (codes "a") 1) ∷ Shows 0 (Raw (codes " ") 1) ∷ Shows 0 (Raw (codes "bc") 2) ∷ []
    × events_of (word_at (codes "a") ∷ Passed (Shows 0 (Raw (codes " ") 1)) ∷ Gap 10 ∷ word_at (codes "bc") ∷ []) ≡ shown_events true (words (codes "a bc"))
    × column (word_at (codes "a") ∷ Passed (Shows 0 (Raw (codes " ") 1)) ∷ Gap 10 ∷ []) ≡ 0
unfolding computed
row_placing = (refl, refl, refl, refl, refl)
