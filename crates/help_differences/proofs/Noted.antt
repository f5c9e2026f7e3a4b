-- The texts of notes, one after another.
use Rattle.std.proofs.Common.{◌≡◌, ◌≢◌, ℕ, zero, suc, ◌+◌, ◌-◌, ◌<◌, ◌≤◌, ◌==◌, Bool, true, false, not, List, [], ◌∷◌, ◌++◌, length, drop, take, cond, Option, Some, None, Bor, MatchOption, refl, sym, ap, ◌∙◌, arith}
use Rattle.std.specs.List.{after_first, before_first, onto_first, position_or_len, slice_split}
use Rattle.std.specs.Str.Pattern.{LacksTextAt}
use Rattle.std.proofs.lemmas.Bool.{false≢true}
use Rattle.std.proofs.lemmas.List.{take-append-drop}
use Rattle.std.proofs.lemmas.List.Splits.{length-slice_split, slice_split_first}
use Rattle.std.proofs.lemmas.Slice.Eq.{bytes_eq-Decides}
use Rattle.std.proofs.lemmas.Str.Pattern.{IsSplitOnceResult, split_once_first}
use Rattle.help_differences.specs.Notes.{begins_note, after_opening, closed_texts, opening, without_last}

abbrev is_empty : List ℕ → Bool
is_empty [] = true
is_empty (b ∷ bs) = false

-- ---- what stands after the first opening

begun : (bs : List ℕ) → begins_note bs ≡ true → bs ≡ opening ++ drop (length opening) bs
begun bs h = sym (take-append-drop (length opening) bs) ∙ ap (λ f. f ++ drop (length opening) bs) ((bytes_eq-Decides (take (length opening) bs) opening).0 h)

not_here : (bs : List ℕ) → ((rest : List ℕ) → bs ≢ opening ++ rest) → begins_note bs ≡ false
not_here bs lacks = by (begins_note bs) refl where
  by : (t : Bool) → begins_note bs ≡ t → t ≡ false
  by true h = absurd (lacks (drop (length opening) bs) (begun bs h))
  by false h = refl

none_on : (b : ℕ) (bs : List ℕ) → ((rest : List ℕ) → b ∷ bs ≢ opening ++ rest) → after_opening (b ∷ bs) ≡ after_opening bs
unfolding after_opening
none_on b bs lacks = ap (λ t. cond t (drop (length opening) (b ∷ bs)) (after_opening bs)) (not_here (b ∷ bs) lacks)

pub none : (bs : List ℕ) → ((i : ℕ) → i ≤ length bs → LacksTextAt opening bs i) → after_opening bs ≡ []
unfolding after_opening
none [] lacks = refl
none (b ∷ bs) lacks = none_on b bs (lacks 0 (omega arith)) ∙ none bs (λ i h. lacks (suc i) (omega arith))

opened : (rest : List ℕ) → after_opening (opening ++ rest) ≡ rest
unfolding after_opening
opened rest = refl

pub at : (bs : List ℕ) (i : ℕ) (rest : List ℕ) → ((k : ℕ) → k < i → LacksTextAt opening bs k) → drop i bs ≡ opening ++ rest → after_opening bs ≡ rest
at bs zero rest lacks e = ap after_opening e ∙ opened rest
at [] (suc i) rest lacks e = absurd (false≢true (sym (ap is_empty e)))
at (b ∷ bs) (suc i) rest lacks e = none_on b bs (lacks 0 (omega arith)) ∙ at bs i rest (λ k h. lacks (suc k) (omega arith)) e

-- ---- what stands before each `]`

abbrev closes : ℕ → Bool
closes b = b == 93

more : (text : List ℕ) (texts : List (List ℕ)) (n : ℕ) → length texts ≡ n + 1 → without_last (text ∷ texts) ≡ text ∷ without_last texts
more text [] n h = absurd (omega arith)
more text (t ∷ ts) n h =
    let e : length (text ∷ t ∷ ts) - 1 ≡ suc (length (t ∷ ts) - 1) = omega arith in
    ap (λ k. take k (text ∷ t ∷ ts)) e

alone : (p : ℕ → Bool) (xs : List ℕ) → position_or_len p xs ≡ length xs → slice_split p xs ≡ xs ∷ []
alone p [] e = refl
alone p (x ∷ xs) e = by (p x) (alone p xs) e where
  by : (t : Bool) → (position_or_len p xs ≡ length xs → slice_split p xs ≡ xs ∷ []) → cond (not t) (1 + position_or_len p xs) 0 ≡ suc (length xs) → cond t ([] ∷ slice_split p xs) (onto_first x (slice_split p xs)) ≡ (x ∷ xs) ∷ []
  by true below h = absurd (omega arith)
  by false below h = ap (onto_first x) (below (omega arith))

closed_first : (line : List ℕ) → position_or_len closes line < length line → closed_texts line ≡ before_first closes line ∷ closed_texts (after_first closes line)
closed_first line h = ap without_last (slice_split_first closes line 0 h) ∙ more (before_first closes line) (slice_split closes (after_first closes line)) _ (length-slice_split closes (after_first closes line))

by_parts : (line : List ℕ) (r : Option (Bor (List ℕ) × Bor (List ℕ)))
    → MatchOption r (position_or_len closes line ≡ length line) (λ x. (position_or_len closes line < length line) × (x.0.now ≡ before_first closes line) × (x.1.now ≡ after_first closes line))
    → MatchOption r (closed_texts line ≡ []) (λ p. closed_texts line ≡ p.0.now ∷ closed_texts p.1.now)
by_parts line None h = ap without_last (alone closes line h)
by_parts line (Some x) h = closed_first line h.0 ∙ ap (λ t. t ∷ closed_texts (after_first closes line)) (sym h.1) ∙ ap (λ t. x.0.now ∷ closed_texts t) (sym h.2)

pub closed_found : (line : List ℕ) (r : Option (Bor (List ℕ) × Bor (List ℕ))) → IsSplitOnceResult 93 line r
    → MatchOption r (closed_texts line ≡ []) (λ p. closed_texts line ≡ p.0.now ∷ closed_texts p.1.now)
closed_found line r h = by_parts line r (split_once_first 93 line r h (omega arith))
