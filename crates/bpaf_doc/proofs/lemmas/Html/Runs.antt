-- A run that is written at once is its chunks written one after another.
use Rattle.std.specs.Prelude.{◌≡◌}
use Rattle.bpaf_doc.proofs.lemmas.Html.Words.{arith, List, ℕ, map, sym, ap, ap₂, ◌∙◌, append_assoc, append-nil, flat_map-append, and-true, Style, Chunk, chunks_of, IsLine, Shown, Written, with_words, page_after_all}
use Rattle.bpaf_doc.proofs.lemmas.Splitter.Runs.{AreWords, no_words, a_word, words_of_line}

words_page : {chunks : List Chunk} {text : List ℕ} → AreWords chunks text → (p : Written) (style : Style) → page_after_all p (map (Shown style) chunks) ≡ with_words p text
words_page (no_words ec et) p style =
    ap (λ cs. page_after_all p (map (Shown style) cs)) ec ∙ sym (ap (with_words p) et ∙ (ap₂ (λ x y. record p { bytes = x; fresh = y }) (append-nil p.bytes) (and-true p.fresh)))
words_page (a_word bytes rest others ec et w) p style = grind (arith, words_page w, ap₂, append_assoc, flat_map-append)

-- the page after the chunks of a run
pub run_page : (p : Written) (style : Style) (run : List ℕ) → IsLine run → page_after_all p (map (Shown style) (chunks_of run)) ≡ with_words p run
run_page p style run line = words_page (words_of_line run line) p style
