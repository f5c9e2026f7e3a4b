-- The chunks of a run, and of a text that begins with one.
use Rattle.std.specs.Prelude.{◌++◌, ◌<◌, ◌∷◌, ◌≡◌, ◌≤◌, ◌⊎◌}
use Rattle.bpaf_doc.proofs.lemmas.Splitter.Words.{list_all, sym, ◌∙◌, ap, subst, inl, inr, arith, append_assoc, get_or, take-append-drop, take_all, drop-cons, length-take, ℕ, Bool, true, IsTrue, List, [], codes, refl, length, take, drop, Option, Some, None, unwrap_or, take-take, drop_all, get_or-take, Nowhere, NoneBefore, NoneAfter, Passes, IsLastByte, is_byte, list_all-append, nat_tests, Chunk, Raw, Form, Plain, Spells, nothing, code_line, fence, before_code, paragraph, line_break, newline, blank, word, chunks_of, columns, is_line_byte, IsLine, IsLineEnd, IsWordEnd, IsRunEnd}
use Rattle.bpaf_doc.proofs.lemmas.Splitter.Cuts.{is_newline, line_from_no_newline, line_before_newline}
use Rattle.bpaf_doc.proofs.lemmas.Splitter.Printable.{line_columns_are}
use Rattle.bpaf_doc.proofs.lemmas.Splitter.Spelling.{and_left, and_right, spells_its_chunks, only_its_chunks}

no_newline_first : (text rest : List ℕ) → text ≡ 10 ∷ rest → IsLine text → ⊥
no_newline_first text rest e l = let h : IsTrue (list_all is_line_byte (10 ∷ rest)) = subst (λ t. IsTrue (list_all is_line_byte t)) e l in cc

-- ---- the chunks of a line

-- the chunks are slices of the text, one after another, and each weighs its columns
pub data AreWords : List Chunk → List ℕ → Type 0 where
  no_words : {chunks : List Chunk} {text : List ℕ} → chunks ≡ [] → text ≡ [] → AreWords chunks text
  a_word : {chunks : List Chunk} {text : List ℕ} (bytes rest : List ℕ) (others : List Chunk) → chunks ≡ Raw bytes (columns bytes) ∷ others
      → text ≡ bytes ++ rest → AreWords others rest → AreWords chunks text

blank_columns : 1 ≡ columns (codes " ")
blank_columns = line_columns_are (codes " ") refl

-- a text after them adds its own
abbrev Joins : List Chunk → List ℕ → Type 0
Joins chunks text = (after : List Chunk) (back : List ℕ) → IsWordEnd back → Spells Plain after back → Spells Plain (chunks ++ after) (text ++ back)

pub words_in : {form : Form} {chunks : List Chunk} {text : List ℕ} → Spells form chunks text → form ≡ Plain → IsLine text → AreWords chunks text × Joins chunks text
words_in (nothing ec et) p l = (no_words ec et, λ after back w s. rw (ec, et) s)
words_in {text = text} (code_line line rest others ec et il ir s) p l = absurd (no_newline_first text (codes "    " ++ (line ++ rest)) et l)
words_in {text = text} (fence rest others ec et t s) p l = absurd (no_newline_first text (codes "\n" ++ rest) et l)
words_in {text = text} (before_code rest others ec et t s) p l = absurd (no_newline_first text rest et l)
words_in {text = text} (paragraph rest others ec et f g s) p l = absurd (no_newline_first text (codes "\n" ++ rest) et l)
words_in {text = text} (line_break rest others ec et f s) p l = absurd (no_newline_first text (codes " " ++ rest) et l)
words_in {text = text} (newline rest others ec et f g s) p l = absurd (no_newline_first text rest et l)
words_in {text = text} (blank rest others ec et s) p l =
    let more : AreWords others rest × Joins others rest = words_in s refl (grind (arith, and_right, list_all-append)) in (
      a_word (codes " ") rest others (ec ∙ ap (λ n. Raw (codes " ") n ∷ others) blank_columns) et more.0,
      λ after back w t. blank (rest ++ back) (others ++ after) (ap (λ cs. cs ++ after) ec) (ap (λ x. x ++ back) et) (more.1 after back w t),
    )
words_in {text = text} (word bytes rest others ec et some r s) p l =
    let more : AreWords others rest × Joins others rest = words_in s refl (grind (arith, and_right, list_all-append)) in (
      a_word bytes rest others ec et more.0,
      λ after back w t. word bytes (rest ++ back) (others ++ after) (ap (λ cs. cs ++ after) ec) (ap (λ x. x ++ back) et ∙ append_assoc bytes rest back) some (grind arith) (more.1 after back w t),
    )
words_in _ p l = absurd cc

-- the chunks of a line are its words and blanks
pub words_of_line : (line : List ℕ) → IsLine line → AreWords (chunks_of line) line
words_of_line line l = (words_in (spells_its_chunks line) refl l).0

-- the chunks of a run come first
pub run_first : (text run back : List ℕ) → text ≡ run ++ back → IsLine run → IsWordEnd back → chunks_of text ≡ chunks_of run ++ chunks_of back
run_first text run back e l w =
    ap chunks_of e ∙ sym (only_its_chunks (chunks_of run ++ chunks_of back) (run ++ back) ((words_in (spells_its_chunks run) refl l).1 (chunks_of back) back w (spells_its_chunks back)))

-- ---- where a run ends

-- a front of bytes that pass a test
pub tested_front : (test : ℕ → Bool) (text : List ℕ) (i j : ℕ) → i ≤ j → list_all test (take j text) ≡ true → list_all test (take i text) ≡ true
tested_front test text i j le h = grind (arith, take-append-drop i (take j text), take-take i j text le, and_left (list_all test (take i text)) (list_all test (drop i (take j text))), list_all-append test (take i text) (drop i (take j text)))

-- a blank ends a word
pub blank_ends : (text : List ℕ) (i : ℕ) → i < length text → get_or text i 0 ≡ 32 → IsWordEnd (drop i text)
blank_ends text i lt e = subst (λ t. IsWordEnd t) (sym (drop-cons text i 0 lt)) (inr e)

-- and so does the end of a line
pub line_ends : (rest : List ℕ) → IsLineEnd rest → IsWordEnd rest
line_ends rest h = grind arith

-- up to a newline, the end, or a blank in a line
module _ (text window : List ℕ) (n : ℕ) (le : n ≤ length text) (is : window ≡ take n text) where
  inside : (k : ℕ) → k < length window → k < n
  inside k lt = omega (arith, lt, ap length is, length-take n text)

  -- a place where a byte ends a word
  ended_at : (k b : ℕ) → k < length window → get_or window k 0 ≡ b → (b ≡ 10) ⊎ (b ≡ 32) → IsLine (take k window) → IsRunEnd text k
  ended_at k b lt e ends line = grind (arith, inside k lt, take, take-take, drop-cons text k 0, get_or-take)

  line_front : (k : ℕ) → IsLine window → IsLine (take k window)
  line_front k line = grind (arith, and_left (list_all is_line_byte (take k window)) (list_all is_line_byte (drop k window)), list_all-append is_line_byte (take k window) (drop k window), take-append-drop k window)

  pub newline_run : (k : ℕ) → NoneBefore (Passes (is_byte 10) window) 0 (length window) k → Passes (is_byte 10) window k → IsRunEnd text k
  newline_run k first passes = ended_at k 10 first.high (is_newline (get_or window k 0) passes) (inl refl) (line_before_newline window k first)

  pub blank_run : (k : ℕ) → Nowhere (Passes (is_byte 10) window) 0 (length window) → NoneAfter (Passes (is_byte 32) window) 0 (length window) k → Passes (is_byte 32) window k → IsRunEnd text k
  blank_run k none last passes = ended_at k 32 last.high (grind (arith, nat_tests)) (inr refl) (line_front k (line_from_no_newline window none))

  pub whole_run : length text ≤ n → Nowhere (Passes (is_byte 10) window) 0 (length window) → IsRunEnd text (length text)
  whole_run all none = grind (arith, take_all, line_from_no_newline, drop_all)

-- what a search for the last blank finds, or the start
pub last_blank_run : (text window : List ℕ) (n : ℕ) (r : Option ℕ) → n ≤ length text → window ≡ take n text → Nowhere (Passes (is_byte 10) window) 0 (length window) → IsLastByte (is_byte 32) window r
    → 0 < unwrap_or r 0 → IsRunEnd text (unwrap_or r 0)
last_blank_run text window n None le is none last some = absurd (omega (arith, some))
last_blank_run text window n (Some k) le is none last some = blank_run text window n le is k none last.0 last.1
