-- A text that begins with a newline and four blanks begins with a code line.
use Rattle.std.specs.Prelude.{◌++◌, ◌∷◌, ◌≡◌}
use Rattle.bpaf_doc.proofs.lemmas.Splitter.Words.{ap, sym, ◌∙◌, arith, length-take, take-append-drop, ℕ, List, codes, drop, length, refl, take, IsUtf8, IsCharBoundary, IsCharBoundary-from_take, Chunk, Raw, Plain, IsLine, IsLineEnd, chunks_in, chunks_of, code_weight}
use Rattle.bpaf_doc.proofs.lemmas.Splitter.FirstChunk.{code_line_first}

whole : (text : List ℕ) → take 5 text ≡ codes "\n    " → text ≡ codes "\n    " ++ drop 5 text
whole text front = sym (take-append-drop 5 text) ∙ ap (λ x. x ++ drop 5 text) front

pub code_cut : (text : List ℕ) → IsUtf8 text → take 5 text ≡ codes "\n    " → IsCharBoundary text 5
unfolding lib.Utf8.encode
code_cut text utf8 front =
    IsCharBoundary-from_take text 5 utf8 (omega (arith, length-take 5 text, ap (λ x. length x) front)) (rw front (codes "\n    ", (refl, refl)))

pub code_first : (text code line rest : List ℕ) (left : List Chunk) → take 5 text ≡ codes "\n    " → code ≡ drop 5 text → code ≡ line ++ rest → IsLine line → IsLineEnd rest → left ≡ chunks_of rest
    → chunks_in Plain text ≡ Raw line code_weight ∷ left
code_first text code line rest left front after cut l end s = grind (arith, code_line_first)
