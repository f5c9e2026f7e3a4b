-- A run that is written at once is its chunks written one after another.
use Rattle.std.specs.Prelude.{if◌then◌else◌, ◌++◌, ◌<◌, ◌∷◌, ◌≡◌, ◌≤◌}
use Rattle.bpaf_doc.proofs.lemmas.Markdown.Words.{true, false, List, ℕ, [], length, map, refl, sym, ap, ◌∙◌, append_assoc, append-nil, arith, length-append, nat_lt, ne_eqb, flat_map, codes, Style, Chunk, Raw, chunks_of, code_weight, columns, Fragment, Shown, escaped_character, Marked, put, with_item, close_code, with_line, with_words, marked_after, marked_after_all}
use Rattle.std.proofs.lemmas.List.Concat.{flat_map-append}
use Rattle.bpaf_doc.specs.Splitter.Steps.{IsRun}
use Rattle.bpaf_doc.proofs.lemmas.Splitter.Runs.{AreWords, no_words, a_word, words_of_line}
use Rattle.bpaf_doc.proofs.lemmas.Splitter.Widths.{columns_few}

pub marked-append : (p : Marked) (front back : List Fragment) → marked_after_all p (front ++ back) ≡ marked_after_all (marked_after_all p front) back
marked-append p [] back = refl
marked-append p (f ∷ fs) back = marked-append (marked_after p f) fs back

-- ---- words

-- how words are spelled where there are so many Mono ends and starts
abbrev spelled : ℕ → ℕ → List ℕ → List ℕ
spelled ends starts text = if nat_lt ends starts then flat_map escaped_character text else text

spelled_on : (ends starts : ℕ) (a b : List ℕ) → spelled ends starts a ++ spelled ends starts b ≡ spelled ends starts (a ++ b)
spelled_on ends starts a b = grind (arith, flat_map-append)

put_on : (p : Marked) (a b : List ℕ) → put (put p a) b ≡ put p (a ++ b)
put_on p a b = ap (λ x. record p { bytes = x }) (append_assoc p.bytes a b)

-- nothing waits that words have to write first
abbrev IsSettled : Marked → Type 0
IsSettled p = (p.pending ≡ false) × (p.in_code ≡ false)

-- what follows words
words_more : {chunks : List Chunk} {text : List ℕ} → AreWords chunks text → length text ≤ 300_000 → (p : Marked) (style : Style) → IsSettled p
    → marked_after_all p (map (Shown style) chunks) ≡ put p (spelled p.ends p.starts text)
words_more (no_words ec et) le p style s = grind (arith, append-nil)
words_more {chunks} {text} (a_word bytes rest others ec et w) le p style s =
    grind (arith, words_more w (omega (arith, (ap length et ∙ length-append bytes rest), le)) (put p (spelled p.ends p.starts bytes)) style, length-append, columns_few, ne_eqb, put_on, spelled_on)

-- ---- words where something may wait

closed_settled : (p : Marked) → p.pending ≡ false → IsSettled (close_code p (codes "\n  ```\n")) × (nat_lt (close_code p (codes "\n  ```\n")).ends (close_code p (codes "\n  ```\n")).starts ≡ nat_lt p.ends p.starts)
closed_settled p e = grind arith

-- the text after the chunks of a run
pub run_marked : (p : Marked) (style : Style) (run : List ℕ) → IsRun run → marked_after_all p (map (Shown style) (chunks_of run)) ≡ with_words (with_item p false) run
run_marked p style run is = at (words_of_line run is.line) where
  at : {chunks : List Chunk} → AreWords chunks run → marked_after_all p (map (Shown style) chunks) ≡ with_words (with_item p false) run
  at (no_words ec et) = absurd (is.some et)
  at {chunks} (a_word bytes rest others ec et w) =
      let q = with_item p false in
      let t = close_code q (codes "\n  ```\n") in
      let few : columns bytes < 1_000_000 = columns_few bytes (omega (arith, (ap length et ∙ length-append bytes rest), is.short)) in
      let same = closed_settled q (grind arith) in
      let first : marked_after p (Shown style (Raw bytes (columns bytes))) ≡ put t (spelled t.ends t.starts bytes)
      = grind (arith, ne_eqb) ∙ ap (λ b. put t (if b then flat_map escaped_character bytes else bytes)) (sym same.1) in
      ap (λ cs. marked_after_all p (map (Shown style) cs)) ec
      ∙ ap (λ m. marked_after_all m (map (Shown style) others)) first
      ∙ words_more w (omega (arith, (ap length et ∙ length-append bytes rest), is.short)) (put t (spelled t.ends t.starts bytes)) style same.0
      ∙ put_on t (spelled t.ends t.starts bytes) (spelled t.ends t.starts rest)
      ∙ ap (put t) (spelled_on t.ends t.starts bytes rest ∙ ap (spelled t.ends t.starts) (sym et))
      ∙ ap (λ b. put t (if b then flat_map escaped_character run else run)) same.1

pub code_line_more : (p : Marked) (style : Style) (line : List ℕ) → p.in_code ≡ true → p.pending ≡ false → marked_after p (Shown style (Raw line code_weight)) ≡ with_line p line
code_line_more p style line opened settled = grind (arith, codes, false)
