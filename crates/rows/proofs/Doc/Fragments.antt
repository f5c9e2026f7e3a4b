-- The fragments of some documents, computed.
use Rattle.std.specs.Prelude.{◌≡◌, ℕ, true, false, List, [], ◌∷◌, codes, refl}
use Rattle.std.specs.Str.{chars}
use Rattle.unicode_width.specs.Width.{str_width, step, past_emoji}
use Rattle.bpaf_doc.specs.declared.buffer.Block.TheVariants.{InlineBlock, Mono}
use Rattle.bpaf_doc.specs.declared.buffer.Style.TheVariants.{Text}
use Rattle.bpaf_doc.specs.Buffer.Parts.{Part, Text as Words, Start as PartStart, End as PartEnd}
use Rattle.bpaf_doc.specs.Splitter.Chunks.{Raw, Paragraph, chunks_of, chunks_in, chunks_within}
use Rattle.bpaf_doc.specs.Shown.{shown_chunks}
use Rattle.bpaf_doc.specs.Html.Fragments.{TextStart, Shown, TextEnd, Hidden, Start, End, shown_fragments}

computed : ℕ
unfolding chunks_of chunks_in chunks_within chars str_width step past_emoji
computed = 0

-- a doc of `a`, a paragraph break and `b`, then a text in the same doc, and `c` after it
abbrev broken : List Part
broken = PartStart InlineBlock ∷ Words (codes "a\n\nb") Text ∷ PartStart Mono ∷ Words (codes "x") Text ∷ PartEnd Mono ∷ PartEnd InlineBlock ∷ Words (codes "c") Text ∷ []

-- the Paragraph is left out, the text after it is hidden, and the marks stay
in-brief : shown_fragments false broken
    ≡ Start InlineBlock ∷ TextStart Text ∷ Shown Text (Raw (codes "a") 1) ∷ TextEnd Text
    ∷ Start Mono ∷ Hidden ∷ End Mono ∷ End InlineBlock ∷ TextStart Text ∷ Shown Text (Raw (codes "c") 1) ∷ TextEnd Text ∷ []
unfolding computed
in-brief = refl

in-full : shown_fragments true broken
    ≡ Start InlineBlock ∷ TextStart Text ∷ Shown Text (Raw (codes "a") 1) ∷ Shown Text Paragraph ∷ Shown Text (Raw (codes "b") 1) ∷ TextEnd Text
    ∷ Start Mono ∷ TextStart Text ∷ Shown Text (Raw (codes "x") 1) ∷ TextEnd Text ∷ End Mono ∷ End InlineBlock
    ∷ TextStart Text ∷ Shown Text (Raw (codes "c") 1) ∷ TextEnd Text ∷ []
unfolding computed
in-full = refl

-- a console keeps the Paragraph
on-console : shown_chunks false [] (codes "a\n\nb") ≡ Raw (codes "a") 1 ∷ Paragraph ∷ []
unfolding computed
on-console = refl

-- an inner inline block is hidden with the text before it, and opens nothing
inner : shown_fragments false (Words (codes "\n\n") Text ∷ PartStart InlineBlock ∷ Words (codes "x") Text ∷ PartEnd InlineBlock ∷ Words (codes "y") Text ∷ PartEnd InlineBlock ∷ Words (codes "z") Text ∷ [])
    ≡ TextStart Text ∷ TextEnd Text ∷ Start InlineBlock ∷ Hidden ∷ End InlineBlock ∷ Hidden ∷ End InlineBlock ∷ TextStart Text ∷ Shown Text (Raw (codes "z") 1) ∷ TextEnd Text ∷ []
unfolding computed
inner = refl

hidden-text : shown_fragments false (Words (codes "a\n\nb") Text ∷ Words (codes "c") Text ∷ []) ≡ TextStart Text ∷ Shown Text (Raw (codes "a") 1) ∷ TextEnd Text ∷ Hidden ∷ []
unfolding computed
hidden-text = refl
