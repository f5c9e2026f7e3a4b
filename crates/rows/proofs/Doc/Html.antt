-- Small documents and answers: erased tags and HTML texts, computed.
use Rattle.std.proofs.Common.{◌≡◌, true, false, List, [], ◌∷◌, refl}
use Rattle.std.specs.Prelude.{codes, filter}
use Rattle.bpaf_doc.specs.declared.buffer.Style.TheVariants.{Text, Emphasis, Literal}
use Rattle.bpaf_doc.specs.declared.buffer.Block.TheVariants.{Header, InlineBlock}
use Rattle.bpaf_doc.specs.Buffer.Parts.{Part, Text as Words, Start, End}
use Rattle.bpaf_doc.specs.Html.Page.{erased, html_text}
use Rattle.bpaf_doc.specs.Splitter.Chunks.{is_line_byte, chunks_of, chunks_in, chunks_within}
use Rattle.std.specs.Str.{chars}
use Rattle.unicode_width.specs.Width.{str_width, step, past_emoji}

abbrev usage : List Part
usage = Words (codes "Usage: ") Emphasis ∷ Words (codes "my_program") Literal ∷ []

abbrev two_paragraphs : List Part
two_paragraphs = Start InlineBlock ∷ Words (codes "a\n\nb") Text ∷ End InlineBlock ∷ Words (codes "c") Text ∷ []

abbrev header : List Part
header = Start Header ∷ Words (codes "X") Text ∷ End Header ∷ []

texts : erased (codes "<b>Usage: </b><tt><b>my_program</b></tt>") ≡ codes "Usage: my_program"
    × filter is_line_byte (erased (codes "a<br>\nbc")) ≡ codes "abc"
    × erased (codes "<b>Title</b><div style='padding-left: 0.5em'>body</div>") ≡ codes "Titlebody"
    × erased (codes "a<b") ≡ codes "a"
    × filter is_line_byte (erased (codes "# X<br>\n")) ≡ codes "# X"
    × html_text usage true ≡ codes "Usage: my_program"
    × html_text (Words (codes "a<b") Text ∷ []) true ≡ codes "a&lt;b"
    × html_text (Words (codes "<script>&</script>") Text ∷ []) true ≡ codes "&lt;script&gt;&&lt;/script&gt;"
    × html_text two_paragraphs true ≡ codes "abc"
    × html_text two_paragraphs false ≡ codes "ac"
    × html_text header true ≡ codes "# X"
unfolding chunks_of chunks_in chunks_within chars str_width step past_emoji
texts = (refl, refl, refl, refl, refl, refl, refl, refl, refl, refl, refl)
