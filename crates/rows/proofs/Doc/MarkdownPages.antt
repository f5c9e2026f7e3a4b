-- Markdown texts of small documents, computed.
use Rattle.std.proofs.Common.{◌≡◌, ℕ, true, false, List, [], ◌∷◌, ◌++◌, refl}
use Rattle.std.specs.Prelude.{codes}
use Rattle.std.specs.Str.{chars}
use Rattle.unicode_width.specs.Width.{str_width, step, past_emoji}
use Rattle.bpaf_doc.specs.declared.buffer.Style.TheVariants.{Text, Emphasis, Literal, Metavar, Invalid}
use Rattle.bpaf_doc.specs.declared.buffer.Block.TheVariants.{Header, Section2, Section3, Section4, ItemTerm, ItemBody, DefinitionList, Block as Plain, Mono, TermRef, InlineBlock, Meta}
use Rattle.bpaf_doc.specs.declared.buffer.Block.{Block}
use Rattle.bpaf_doc.specs.Buffer.Parts.{Part, Text as Words, Start, End}
use Rattle.bpaf_doc.specs.Splitter.Chunks.{Raw, code_weight, chunks_of, chunks_in, chunks_within}
use Rattle.bpaf_doc.specs.Html.Fragments.{TextStart, Shown, TextEnd}
use Rattle.bpaf_doc.specs.Markdown.Exact.{markdown_page, markdown_after}

computed : ℕ
unfolding chunks_of chunks_in chunks_within chars str_width step past_emoji
computed = 0

-- a document is shown as a text, in full
abbrev ShowsFull : List Part → List ℕ → Type 0
ShowsFull document text = markdown_page true document ≡ text

abbrev ShowsBrief : List Part → List ℕ → Type 0
ShowsBrief document text = markdown_page false document ≡ text

abbrev block : Block → List Part → List Part
block b inner = Start b ∷ (inner ++ End b ∷ [])

abbrev a : List Part
a = Words (codes "a") Text ∷ []

abbrev two_paragraphs : List Part
two_paragraphs = block InlineBlock (Words (codes "a\n\nb") Text ∷ []) ++ Words (codes "c") Text ∷ []

first_texts : ShowsFull [] (codes "")
    × ShowsBrief two_paragraphs (codes "ac")
    × ShowsFull two_paragraphs (codes "a\n\nbc")
unfolding computed
first_texts = (refl, refl, refl)

-- marks of a hidden header are shown
blocks : ShowsBrief (Words (codes "a\n\nb") Text ∷ Words (codes "c") Literal ∷ block Header (Words (codes "e") Text ∷ [])) (codes "a\n\n# \n")
    × ShowsFull (Words (codes "Usage: ") Emphasis ∷ Words (codes "my_program") Literal ∷ Words (codes "FILE") Metavar ∷ Words (codes " and ") Text ∷ Words (codes "x") Invalid ∷ [])
    (codes "**Usage: ****`my_program`**_`FILE`_ and **x**")
    × ShowsFull (block InlineBlock (Words (codes "Title") Emphasis ∷ block Section3 (Words (codes "body") Text ∷ []))) (codes "**Title**### body\n")
    × ShowsFull (block Meta a) (codes "a")
    × ShowsFull (block TermRef a) (codes "a")
    × ShowsFull (block Section2 a) (codes "a\n")
    × ShowsFull (block Section4 a) (codes "- a\n")
    × ShowsFull (block ItemTerm a) (codes "- a")
    × ShowsFull (block ItemBody a) (codes "  a")
    × ShowsFull (block DefinitionList a) (codes "a\n")
    × ShowsFull (block Plain a) (codes "\na\n")
    × ShowsFull (block Header (Words (codes "X") Text ∷ []) ++ block Header (Words (codes "Y") Text ∷ []) ++ Words (codes "z\n z") Text ∷ block Header [])
    (codes "# X\n\n\n## Y\nz\nz\n\n## \n")
unfolding computed
blocks = (refl, refl, refl, refl, refl, refl, refl, refl, refl, refl, refl, refl)

-- a body in a list, one in that body, an empty item, and a body after the list
abbrev items : List Part
items = block DefinitionList (block ItemTerm (Words (codes "--a") Literal ∷ []) ++ block ItemBody (Words (codes "x") Text ∷ block ItemBody (Words (codes "y\n\nz") Text ∷ [])) ++ block ItemTerm [] ++ block ItemBody [])
    ++ block ItemBody (Words (codes "b") Text ∷ [])

bodies : ShowsFull items (codes "- **`--a`** &mdash; \n  x &mdash; \n  y\n\n  z\n\n   \n  \n\n  b")
unfolding computed
bodies = refl

-- brackets inside Mono, also where its marks are not balanced
brackets : ShowsFull (Words (codes "[a]") Text ∷ block Mono (Words (codes "[e]x") Text ∷ []) ++ Words (codes "[b]") Text ∷ []) (codes "[a]\\[e\\]x[b]")
    × ShowsFull (End Mono ∷ Start Mono ∷ Words (codes "[a]") Text ∷ Start Mono ∷ Words (codes "[b]") Text ∷ []) (codes "[a]\\[b\\]")
    × ShowsFull (Words (codes "<script>&</script>") Text ∷ []) (codes "<script>&</script>")
unfolding computed
brackets = (refl, refl, refl)

-- marks by themselves
marks : ShowsFull (End Plain ∷ []) (codes "\n")
    × ShowsFull (Start ItemBody ∷ []) (codes "  ")
    × ShowsFull (End Section2 ∷ End Section2 ∷ []) (codes "\n\n")
    × ShowsFull (Start ItemTerm ∷ []) (codes "- ")
    × ShowsFull (Start Section4 ∷ End ItemTerm ∷ []) (codes "  ")
marks = (refl, refl, refl, refl, refl)

-- code in fences, and lines of a fence
code_lines : ShowsFull (Words (codes "x\n\n    c\n    d\ny") Text ∷ []) (codes "x\n\n\n\n  ```text\n  c\n  d\n\n  ```\n y")
    × ShowsFull (Words (codes "\n    c") Text ∷ []) (codes "\n\n  ```text\n  c\n  ```\n")
    × ShowsFull (Words (codes "x\n\n```a\nb\n```\n\ny") Text ∷ []) (codes "x\n\n  ```a\n  b\n  ```\n\n\ny")
unfolding computed
code_lines = (refl, refl, refl)

-- a word of the weight of a code line
wide_word : markdown_after [] [] (TextStart Text ∷ Shown Text (Raw (codes "aaa") code_weight) ∷ TextEnd Text ∷ []) ≡ codes "\n\n  ```text\n  aaa\n  ```\n"
wide_word = refl

term : markdown_page true (block ItemTerm (Words (codes "-a") Literal ∷ [])) ≡ codes "- **`-a`**"
unfolding computed
term = refl
