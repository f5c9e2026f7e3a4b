-- Words that are written at once are the same as one after another.
use Rattle.std.specs.Prelude.{if◌then◌else◌, ◌&&◌, ◌++◌, ◌+◌, ◌==◌, ◌∷◌, ◌≡◌, ◌≤◌}
use Rattle.bpaf_doc.proofs.lemmas.Console.Words.{sym, subst, ap, ap₂, arith, ◌∙◌, append_assoc, append-nil, le-ltb, ℕ, Bool, true, false, not, List, refl, length, nat_lt, All-head, All-tail, list_all-append, and-false, Chunk, Raw, IsLine, chunks_of, columns, is_paragraph, IsText, hides, PageSoFar, NoBreak, saturated, sum_by-append, All, list_all, list_any, IsUtf8}
use Rattle.bpaf_doc.specs.Splitter.Steps.{IsLettered, is_lettered, letters, begins}
use Rattle.bpaf_doc.specs.Console.Exact.{has_no_room}
use Rattle.bpaf_doc.specs.Console.Steps.Page.{Sheet, IsWithinLine, wraps, room_made, columns_of, raw_put, chunks_put, text_put}
use Rattle.bpaf_doc.proofs.lemmas.Splitter.Facts.{text_chunks}
use Rattle.bpaf_doc.proofs.lemmas.Splitter.Letters.{lettered_columns}
use Rattle.bpaf_doc.proofs.lemmas.Splitter.Runs.{AreWords, no_words, a_word, words_of_line}
use Rattle.bpaf_doc.proofs.lemmas.Splitter.Spelling.{and_left, and_right}

-- ---- what words leave of a page

-- a page within a line
abbrev pub page_at : List ℕ → ℕ → PageSoFar
page_at text column = record { text = text; column = column; request = NoBreak; is_pending = false }

module _ (width margin : ℕ) (small : width ≤ 18446744073709551615) where
  pub fits : (text : List ℕ) (column n : ℕ) → column + n ≤ width → has_no_room width n (page_at text column) ≡ false
  fits text column n h = le-ltb width (saturated (column + n)) (omega (arith, h))

  pub no_break : (text : List ℕ) (column n : ℕ) → column + n ≤ width → wraps width n (page_at text column) ≡ false
  no_break text column n h = ap (λ b. not (length text == 0) && b) (fits text column n h) ∙ and-false (not (length text == 0))

  pub no_room : (text : List ℕ) (column n : ℕ) → column + n ≤ width → room_made width n (page_at text column) ≡ page_at text column
  no_room text column n h = grind (arith, fits)

  pub weighs : (raw : List ℕ) (weight : ℕ) → weight ≡ columns raw → columns_of raw weight ≡ weight
  weighs raw weight e = elim (nat_lt weight 1000000) as (λ (b : Bool). (if b then weight else columns raw) ≡ weight) [ true ↦ refl | false ↦ sym e ]

  word_put : (text raw : List ℕ) (column weight : ℕ) → weight ≡ columns raw → margin ≤ column → column + weight ≤ width
      → raw_put width margin raw weight (page_at text column) ≡ page_at (text ++ raw) (column + weight)
  unfolding raw_put
  word_put text raw column weight e level h = grind (arith, weighs, no_break, no_room, append-nil)

  words_put : {chunks : List Chunk} {run : List ℕ} → AreWords chunks run → All IsText chunks → IsLettered run → (text : List ℕ) (column : ℕ) → margin ≤ column → column + letters run ≤ width
      → (full : Bool) (rest : List Chunk) → chunks_put width margin full (chunks ++ rest) (page_at text column) ≡ chunks_put width margin full rest (page_at (text ++ run) (column + letters run))
  words_put {chunks} {run} (no_words ec et) us p text column level h full rest = grind (arith, append-nil)
  words_put {chunks} {run} (a_word bytes more others ec et w) us p text column level h full rest =
      let both : (list_all is_lettered bytes && list_all is_lettered more) ≡ true
      = sym (list_all-append is_lettered bytes more) ∙ ap (list_all is_lettered) (sym et) ∙ p in
      let front : IsLettered bytes = and_left (list_all is_lettered bytes) (list_all is_lettered more) both in
      let back : IsLettered more = and_right (list_all is_lettered bytes) (list_all is_lettered more) both in
      let texts : All IsText (Raw bytes (columns bytes) ∷ others) = subst (λ cs. All IsText cs) ec us in
      let wide : letters bytes ≡ columns bytes = lettered_columns bytes (All-head IsText (Raw bytes (columns bytes)) others texts) front in
      let sizes : letters run ≡ letters bytes + letters more = ap letters et ∙ (sum_by-append (λ b. if begins b then 1 else 0) bytes more) in
      let whole : column + columns bytes + letters more ≡ column + letters run = omega (arith, wide, sizes) in
      ap (λ cs. chunks_put width margin full (cs ++ rest) (page_at text column)) ec
      ∙ ap (λ s. chunks_put width margin full (others ++ rest) s) (word_put text bytes column (columns bytes) refl level (omega (arith, wide, sizes, h)))
      ∙ words_put w (All-tail IsText (Raw bytes (columns bytes)) others texts) back (text ++ bytes) (column + columns bytes) (omega (arith, level)) (omega (arith, whole, h)) full rest
      ∙ ap₂ (λ o n. chunks_put width margin full rest (page_at o n)) (append_assoc text bytes more ∙ ap (λ t. text ++ t) (sym et)) whole

-- a page within a line is such a page
within : (s : Sheet) → IsWithinLine s → s.page ≡ page_at s.page.text s.page.column
within s is = ap₂ (λ a b. record { text = s.page.text; column = s.page.column; request = a; is_pending = b }) is.nothing_asked is.no_body

-- the words of a run
pub run_put : (s : Sheet) (run : List ℕ) (full : Bool) (chunks rest : List Chunk) → IsWithinLine s → s.width ≤ 18446744073709551615 → chunks ≡ chunks_of run ++ rest → IsLine run → IsUtf8 run → IsLettered run
    → s.page.column + letters run ≤ s.width → text_put full rest (record s { page = record s.page { text = s.page.text ++ run; column = s.page.column + letters run } }) ≡ text_put full chunks s
run_put s run full chunks rest is small e line u lettered h = grind (arith, within, words_put, words_of_line, text_chunks)

-- ---- what they hide

words_hide : {chunks : List Chunk} {text : List ℕ} → AreWords chunks text → (rest : List Chunk) → list_any is_paragraph (chunks ++ rest) ≡ list_any is_paragraph rest
words_hide (no_words ec et) rest = ap (λ cs. list_any is_paragraph (cs ++ rest)) ec
words_hide (a_word bytes more others ec et w) rest = ap (λ cs. list_any is_paragraph (cs ++ rest)) ec ∙ words_hide w rest

pub run_hides : (run : List ℕ) (full : Bool) (chunks rest : List Chunk) → chunks ≡ chunks_of run ++ rest → IsLine run → hides full rest ≡ hides full chunks
run_hides run full chunks rest e line = ap (λ b. not full && b) (sym (words_hide (words_of_line run line) rest)) ∙ ap (hides full) (sym e)
