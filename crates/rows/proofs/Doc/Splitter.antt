-- The chunks of some texts, computed, and lists that are refused.
use Rattle.std.specs.Prelude.{◌≡◌, ℕ, [], ◌∷◌, codes, refl}
use Rattle.std.specs.Str.{chars}
use Rattle.unicode_width.specs.Width.{str_width, step, past_emoji}
use Rattle.bpaf_doc.specs.Splitter.Chunks.{Raw, Paragraph, LineBreak, Plain, Spells, columns, chunks_of, chunks_in, chunks_within}
use Rattle.bpaf_doc.specs.Splitter.Promises.{StandInOrder}
use Rattle.bpaf_doc.proofs.lemmas.Splitter.Spelling.{only_its_chunks}

-- what has to unfold to compute the columns and the chunks of an ASCII text
pub computed : ℕ
unfolding chunks_of chunks_in chunks_within chars str_width step past_emoji
computed = 0

-- chunks of words, paragraphs and code
words_and_code : chunks_of (codes "a\n\n    a\n    b\n\ndf\n\n    c\n    d\n")
    ≡ Raw (codes "a") 1 ∷ Paragraph ∷ Raw (codes "a") 1000000 ∷ Raw (codes "b") 1000000 ∷ Paragraph ∷ Raw (codes "df") 2
    ∷ Paragraph ∷ Raw (codes "c") 1000000 ∷ Raw (codes "d") 1000000 ∷ Raw (codes " ") 1 ∷ []
    × chunks_of (codes "a\n\n```text\na\nb\n```\n\ndf\n\n```\nc\nd\n```\n")
    ≡ Raw (codes "a") 1 ∷ Paragraph ∷ Raw (codes "```text") 1000001 ∷ Raw (codes "a") 1000001 ∷ Raw (codes "b") 1000001 ∷ Raw (codes "```") 1000001
    ∷ Paragraph ∷ Raw (codes "df") 2
    ∷ Paragraph ∷ Raw (codes "```") 1000001 ∷ Raw (codes "c") 1000001 ∷ Raw (codes "d") 1000001 ∷ Raw (codes "```") 1000001 ∷ []
    × chunks_of (codes "hello\n world\n") ≡ Raw (codes "hello") 5 ∷ LineBreak ∷ Raw (codes "world") 5 ∷ Raw (codes " ") 1 ∷ []
unfolding computed
words_and_code = (refl, refl, refl)

-- U+2764 U+FE0F is one word
heart : chunks_of (226 ∷ 157 ∷ 164 ∷ 239 ∷ 184 ∷ 143 ∷ []) ≡ Raw (226 ∷ 157 ∷ 164 ∷ 239 ∷ 184 ∷ 143 ∷ []) (columns (226 ∷ 157 ∷ 164 ∷ 239 ∷ 184 ∷ 143 ∷ [])) ∷ []
unfolding computed
heart = refl

-- an empty line of code, and an unclosed fence with an empty line
empty_lines : chunks_of (codes "\n    ") ≡ Raw [] 1000000 ∷ []
    × chunks_of (codes "\n\n```\n\na") ≡ Paragraph ∷ Raw (codes "```") 1000001 ∷ Raw [] 1000001 ∷ Raw (codes "a") 1000001 ∷ []
    × chunks_of (codes "a\n\n\nb\n\n\n\nc") ≡ Raw (codes "a") 1 ∷ Paragraph ∷ Raw (codes " ") 1 ∷ Raw (codes "b") 1 ∷ Paragraph ∷ Paragraph ∷ Raw (codes "c") 1 ∷ []
unfolding computed
empty_lines = (refl, refl, refl)

-- ---- what is refused

-- a text with a word in it does not spell the empty list
word_is_not_nothing : ¬ (Spells Plain [] (codes "a"))
unfolding computed
word_is_not_nothing s = let e : [] ≡ chunks_of (codes "a") = only_its_chunks [] (codes "a") s in cc

-- a fence does not end at its opening line
fence_stays_open : ¬ (Spells Plain (Paragraph ∷ Raw (codes "```") 1000001 ∷ Raw (codes "a") 1 ∷ []) (codes "\n\n```\na"))
unfolding computed
fence_stays_open s = let e : Paragraph ∷ Raw (codes "```") 1000001 ∷ Raw (codes "a") 1 ∷ [] ≡ chunks_of (codes "\n\n```\na") = only_its_chunks _ (codes "\n\n```\na") s in cc

-- no ink may lie between the places
ink_is_in_a_place : ¬ (StandInOrder (codes "a") 0 [])
ink_is_in_a_place h = cc
