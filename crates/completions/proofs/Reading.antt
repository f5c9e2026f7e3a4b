-- What is written reads back, word by word.
use Rattle.std.proofs.Common.{◌≡◌, ℕ, ◌==◌, List, [], ◌∷◌, ◌++◌, cond, flat_map, Some, refl, sym, ap, ◌∙◌, subst, append_assoc, append-nil, inl, inr}
use Rattle.std.specs.Prelude.{codes}
use Rattle.std.proofs.lemmas.Bool.Decides.{eqb_tells}
use Rattle.completions.specs.Content.{EntrySaid, entry_words}
use Rattle.completions.specs.Reader.{Reading, between, quoted as inside, ended, slashed, read, step, steps, words_read}
use Rattle.completions.specs.Written.{data_text, entry_text, letter, line_end, quoted}
use Rattle.completions.specs.declared.shells.Shell.{Shell}
use Rattle.completions.specs.declared.shells.Shell.TheVariants as shell

steps_append : (sh : Shell) (r : Reading) (xs ys : List ℕ) → steps sh r (xs ++ ys) ≡ steps sh (steps sh r xs) ys
steps_append sh r [] ys = refl
steps_append sh r (b ∷ xs) ys = steps_append sh (step sh r b) xs ys

-- ---- a word

array_letter_read : (words : List (List ℕ)) (word : List ℕ) (b : ℕ) → steps shell.Bash (inside words word) (letter shell.Bash b) ≡ inside words (word ++ b ∷ [])
array_letter_read words word b = elim (eqb_tells b 39) [
  | inl p ↦ subst (λ c. steps shell.Bash (inside words word) (letter shell.Bash c) ≡ inside words (word ++ c ∷ [])) (sym p.1) refl
  | inr p ↦ ap (λ t. steps shell.Bash (inside words word) (cond t (codes "'\\''") (b ∷ []))) p.0 ∙ ap (λ t. cond t (ended words word) (inside words (word ++ b ∷ []))) p.0
]

command_letter_read : (words : List (List ℕ)) (word : List ℕ) (b : ℕ) → steps shell.Fish (inside words word) (letter shell.Fish b) ≡ inside words (word ++ b ∷ [])
command_letter_read words word b = elim (eqb_tells b 39) [
  | inl p ↦ subst (λ c. steps shell.Fish (inside words word) (letter shell.Fish c) ≡ inside words (word ++ c ∷ [])) (sym p.1) refl
  | inr p ↦ elim (eqb_tells b 92) [
    | inl q ↦ subst (λ c. steps shell.Fish (inside words word) (letter shell.Fish c) ≡ inside words (word ++ c ∷ [])) (sym q.1) refl
    | inr q ↦
        ap (λ t. steps shell.Fish (inside words word) (cond t (codes "\\'") (cond (b == 92) (codes "\\\\") (b ∷ [])))) p.0
        ∙ ap (λ t. steps shell.Fish (inside words word) (cond t (codes "\\\\") (b ∷ []))) q.0
        ∙ ap (λ t. cond t (ended words word) (cond (b == 92) (slashed words word) (inside words (word ++ b ∷ [])))) p.0
        ∙ ap (λ t. cond t (slashed words word) (inside words (word ++ b ∷ []))) q.0
  ]
]

letter_read : (sh : Shell) (words : List (List ℕ)) (word : List ℕ) (b : ℕ) → steps sh (inside words word) (letter sh b) ≡ inside words (word ++ b ∷ [])
letter_read shell.Bash words word b = array_letter_read words word b
letter_read shell.Zsh words word b = array_letter_read words word b
letter_read shell.Fish words word b = command_letter_read words word b

letters_read : (sh : Shell) (words : List (List ℕ)) (before word : List ℕ) → steps sh (inside words before) (flat_map (letter sh) word) ≡ inside words (before ++ word)
letters_read sh words before [] = sym (ap (inside words) (append-nil before))
letters_read sh words before (b ∷ word) =
    steps_append sh (inside words before) (letter sh b) (flat_map (letter sh) word)
    ∙ ap (λ r. steps sh r (flat_map (letter sh) word)) (letter_read sh words before b)
    ∙ letters_read sh words (before ++ b ∷ []) word ∙ ap (inside words) (append_assoc before (b ∷ []) word)

opened : (sh : Shell) (words : List (List ℕ)) → step sh (between words) 39 ≡ inside words []
opened shell.Bash words = refl
opened shell.Zsh words = refl
opened shell.Fish words = refl

closed : (sh : Shell) (words : List (List ℕ)) (word : List ℕ) → step sh (inside words word) 39 ≡ ended words word
closed shell.Bash words word = refl
closed shell.Zsh words word = refl
closed shell.Fish words word = refl

parted : (sh : Shell) (words : List (List ℕ)) (word : List ℕ) → step sh (ended words word) 32 ≡ between (words ++ word ∷ [])
parted shell.Bash words word = refl
parted shell.Zsh words word = refl
parted shell.Fish words word = refl

indented : (sh : Shell) (words : List (List ℕ)) → steps sh (between words) (codes "    ") ≡ between words
indented shell.Bash words = refl
indented shell.Zsh words = refl
indented shell.Fish words = refl

line_read : (sh : Shell) (words : List (List ℕ)) (word : List ℕ) → steps sh (ended words word) (line_end sh) ≡ between (words ++ word ∷ [])
line_read shell.Bash words word = refl
line_read shell.Zsh words word = refl
line_read shell.Fish words word = refl

word_read : (sh : Shell) (words : List (List ℕ)) (word rest : List ℕ) → steps sh (between words) (quoted sh word ++ rest) ≡ steps sh (ended words word) rest
word_read sh words word rest =
    steps_append sh (between words) (quoted sh word) rest
    ∙ ap (λ r. steps sh r rest)
    (ap (λ r. steps sh r (flat_map (letter sh) word ++ codes "'")) (opened sh words)
    ∙ steps_append sh (inside words []) (flat_map (letter sh) word) (codes "'")
    ∙ ap (λ r. steps sh r (codes "'")) (letters_read sh words [] word)
    ∙ closed sh words word)

-- a word and the blank after it
next_read : (sh : Shell) (words : List (List ℕ)) (word rest : List ℕ) → steps sh (between words) (quoted sh word ++ (codes " " ++ rest)) ≡ steps sh (between (words ++ word ∷ [])) rest
next_read sh words word rest = word_read sh words word (codes " " ++ rest) ∙ ap (λ r. steps sh r rest) (parted sh words word)

-- ---- entries

four : (ws : List (List ℕ)) (a b c d : List ℕ) → (((ws ++ a ∷ []) ++ b ∷ []) ++ c ∷ []) ++ d ∷ [] ≡ ws ++ (a ∷ b ∷ c ∷ d ∷ [])
four ws a b c d =
    append_assoc ((ws ++ a ∷ []) ++ b ∷ []) (c ∷ []) (d ∷ []) ∙ append_assoc (ws ++ a ∷ []) (b ∷ []) (c ∷ d ∷ []) ∙ append_assoc ws (a ∷ []) (b ∷ c ∷ d ∷ [])

entry_read : (sh : Shell) (words : List (List ℕ)) (e : EntrySaid) → steps sh (between words) (entry_text sh e) ≡ between (words ++ entry_words e)
entry_read sh words e =
    let w1 : List (List ℕ) = words ++ e.what ∷ [] in
    let w2 : List (List ℕ) = w1 ++ e.text ∷ [] in
    let w3 : List (List ℕ) = w2 ++ e.hint ∷ [] in
    let t3 : List ℕ = quoted sh e.help ++ line_end sh in
    let t2 : List ℕ = quoted sh e.hint ++ (codes " " ++ t3) in
    let t1 : List ℕ = quoted sh e.text ++ (codes " " ++ t2) in
    let t0 : List ℕ = quoted sh e.what ++ (codes " " ++ t1) in
    steps_append sh (between words) (codes "    ") t0
    ∙ ap (λ r. steps sh r t0) (indented sh words)
    ∙ next_read sh words e.what t1 ∙ next_read sh w1 e.text t2 ∙ next_read sh w2 e.hint t3
    ∙ word_read sh w3 e.help (line_end sh) ∙ line_read sh w3 e.help
    ∙ ap between (four words e.what e.text e.hint e.help)

data_read : (sh : Shell) (words : List (List ℕ)) (es : List EntrySaid) → steps sh (between words) (data_text sh es) ≡ between (words ++ flat_map entry_words es)
data_read sh words [] = sym (ap between (append-nil words))
data_read sh words (e ∷ es) =
    steps_append sh (between words) (entry_text sh e) (data_text sh es)
    ∙ ap (λ r. steps sh r (data_text sh es)) (entry_read sh words e)
    ∙ data_read sh (words ++ entry_words e) es ∙ ap between (append_assoc words (entry_words e) (flat_map entry_words es))

pub read_back : (sh : Shell) (es : List EntrySaid) → read sh (data_text sh es) ≡ Some (flat_map entry_words es)
read_back sh es = ap words_read (data_read sh [] es)
