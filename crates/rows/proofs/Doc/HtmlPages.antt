-- HTML pages of small documents, computed.
use Rattle.std.proofs.Common.{◌≡◌, ℕ, true, false, List, [], ◌∷◌, ◌++◌, refl}
use Rattle.std.specs.Prelude.{codes}
use Rattle.std.specs.Str.{chars}
use Rattle.unicode_width.specs.Width.{str_width, step, past_emoji}
use Rattle.bpaf_doc.specs.declared.buffer.Style.TheVariants.{Text, Emphasis, Literal, Metavar, Invalid}
use Rattle.bpaf_doc.specs.declared.buffer.Block.TheVariants.{Header, Section2, Section3, Section4, ItemTerm, ItemBody, DefinitionList, Block as Plain, Mono, TermRef, InlineBlock, Meta}
use Rattle.bpaf_doc.specs.declared.buffer.Block.{Block}
use Rattle.bpaf_doc.specs.Buffer.Parts.{Part, Text as Words, Start, End}
use Rattle.bpaf_doc.specs.Splitter.Chunks.{chunks_of, chunks_in, chunks_within}
use Rattle.bpaf_doc.specs.Html.Exact.{html_page}

computed : ℕ
unfolding chunks_of chunks_in chunks_within chars str_width step past_emoji
computed = 0

-- a document is shown as a page, in full and without the style sheet
abbrev ShowsFull : List Part → List ℕ → Type 0
ShowsFull document page = html_page true false document ≡ page

abbrev ShowsBrief : List Part → List ℕ → Type 0
ShowsBrief document page = html_page false false document ≡ page

abbrev block : Block → List Part → List Part
block b inner = Start b ∷ (inner ++ End b ∷ [])

abbrev a : List Part
a = Words (codes "a") Text ∷ []

abbrev two_paragraphs : List Part
two_paragraphs = block InlineBlock (Words (codes "a\n\nb") Text ∷ []) ++ Words (codes "c") Text ∷ []

first_pages : ShowsFull [] (codes "")
    × html_page true true []
    ≡ codes "\n<style>\ndiv.bpaf-doc {\n    padding: 14px;\n    background-color:var(--code-block-background-color);\n    font-family: \"Source Code Pro\", monospace;\n    margin-bottom: 0.75em;\n}\ndiv.bpaf-doc dt { margin-left: 1em; }\ndiv.bpaf-doc dd { margin-left: 3em; }\ndiv.bpaf-doc dl { margin-top: 0; padding-left: 1em; }\ndiv.bpaf-doc  { padding-left: 1em; }\n</style>"
    × ShowsBrief two_paragraphs (codes "ac")
    × ShowsFull two_paragraphs (codes "a<br>\nbc")
unfolding computed
first_pages = (refl, refl, refl, refl)

-- marks of a hidden header are shown
abbrev hidden_header : List Part
hidden_header = Words (codes "a\n\nb") Text ∷ Words (codes "c") Literal ∷ block Header (Words (codes "e") Text ∷ [])

header_and_styles : ShowsBrief hidden_header (codes "a<br>\n# <br>\n")
    × ShowsFull (Words (codes "Usage: ") Emphasis ∷ Words (codes "my_program") Literal ∷ Words (codes "FILE") Metavar ∷ Words (codes " and ") Text ∷ Words (codes "x") Invalid ∷ [])
    (codes "<b>Usage: </b><tt><b>my_program</b></tt><tt><i>FILE</i></tt> and <b>x</b>")
unfolding computed
header_and_styles = (refl, refl)

-- a shown text without chunks has its tags too
texts_and_headers : ShowsFull (Words [] Literal ∷ []) (codes "<tt><b></b></tt>")
    × ShowsFull (Words (codes "a<b") Text ∷ []) (codes "a&lt;b")
    × ShowsFull (Words (codes "<script>&</script>") Text ∷ []) (codes "&lt;script&gt;&&lt;/script&gt;")
    × ShowsFull (block Header (Words (codes "X") Text ∷ [])) (codes "# X<br>\n")
    × ShowsFull (block Header (Words (codes "X") Text ∷ []) ++ block Header (Words (codes "Y") Text ∷ []) ++ Words (codes "z\n z") Text ∷ block Header [])
    (codes "# X<br>\n# Y<br>\nz<br>\nz<br>\n# <br>\n")
unfolding computed
texts_and_headers = (refl, refl, refl, refl, refl)

-- a text that looks like a break is not one
blocks : ShowsFull (Words (codes "<br>") Text ∷ block Header []) (codes "&lt;br&gt;<br>\n# <br>\n")
    × ShowsFull (block InlineBlock (Words (codes "Title") Emphasis ∷ block Section3 (Words (codes "body") Text ∷ []))) (codes "<b>Title</b><div style='padding-left: 0.5em'>body</div>")
    × ShowsFull (block Section2 a) (codes "<div>\na</div>")
    × ShowsFull (block Section4 a) (codes "<div style='padding-left: 0.5em'>a</div>")
    × ShowsFull (block ItemTerm a) (codes "<dt>a</dt>\n")
    × ShowsFull (block ItemBody a) (codes "<li>a</li>\n")
    × ShowsFull (block DefinitionList a) (codes "<dl>a</dl>\n")
    × ShowsFull (block Plain a) (codes "<p>a</p>")
    × ShowsFull (block Mono a) (codes "a")
    × ShowsFull (block TermRef a) (codes "a")
    × ShowsFull (block Meta a) (codes "a")
unfolding computed
blocks = (refl, refl, refl, refl, refl, refl, refl, refl, refl, refl, refl)

-- a body in a list, one in that body, an empty item, and a body after the list
abbrev items : List Part
items = block DefinitionList (block ItemTerm (Words (codes "--a") Literal ∷ []) ++ block ItemBody (Words (codes "x") Text ∷ block ItemBody (Words (codes "y\n\nz") Text ∷ [])) ++ block ItemTerm [] ++ block ItemBody [])
    ++ block ItemBody (Words (codes "b") Text ∷ [])

bodies : ShowsFull items (codes "<dl><dt><tt><b>--a</b></tt></dt>\n<dd>x<li>y<br>\nz</li>\n</dd>\n<dt></dt>\n<dd></dd>\n</dl>\n<li>b</li>\n")
unfolding computed
bodies = refl

-- ill-nested marks: an end takes off a start of another block, and nothing where none is open
ill_nested : ShowsFull (End Plain ∷ []) (codes "</p>")
    × ShowsFull (Start ItemBody ∷ []) (codes "<li>")
    × ShowsFull (End Section2 ∷ End Section2 ∷ []) (codes "</div></div>")
    × ShowsFull (End Plain ∷ Start DefinitionList ∷ Start Mono ∷ End Plain ∷ Start ItemBody ∷ End Mono ∷ End ItemBody ∷ Start ItemBody ∷ []) (codes "</p><dl></p><dd></li>\n<li>")
    × ShowsFull (Start DefinitionList ∷ Start Mono ∷ End ItemBody ∷ []) (codes "<dl></dd>\n")
ill_nested = (refl, refl, refl, refl, refl)

-- lines of code stand one after another
code : ShowsFull (Words (codes "x\n\n    c\n    d\ny") Text ∷ []) (codes "x<br>\ncd y")
unfolding computed
code = refl

spelled : html_page true false (Words (codes "a<b") Literal ∷ []) ≡ codes "<tt><b>a&lt;b</b></tt>"
unfolding computed
spelled = refl
