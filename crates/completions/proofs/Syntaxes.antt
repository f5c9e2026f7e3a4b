-- The words of a syntax, one after another.
use Rattle.std.proofs.Common.{◌≡◌, ℕ, suc, ◌+◌, ◌-◌, ◌<◌, ◌≤◌, ◌==◌, Bool, true, false, cond, ◌&&◌, ◌||◌, ◌⊎◌, List, [], ◌∷◌, ◌++◌, length, drop, take, get_or, refl, sym, ap, ◌∙◌, arith, inl, inr, subst}
use Rattle.std.specs.List.{onto_first, prefix_len}
use Rattle.std.specs.Str.{IsCharBoundary, IsUtf8}
use Rattle.std.proofs.lemmas.Bool.Decides.{eqb_tells, nat_tests}
use Rattle.std.proofs.lemmas.Bool.{and_parts, cases_lt, false≢true}
use Rattle.std.proofs.lemmas.List.Sums.{prefix_len-le-length, prefix_len_stops}
use Rattle.std.proofs.lemmas.Str.{IsCharBoundary-before_ascii, IsCharBoundary-end}
use Rattle.std.proofs.lemmas.List.{drop_all, drop_more, take_all, take_more}
use Rattle.completions.specs.Syntax.{depth_after, is_closing, is_gap, is_of_name, is_opening, onto_words, syntax_words, words_in}

pub are_same : (a b : ℕ) → (a == b) ≡ true → a ≡ b
are_same a b h = elim (eqb_tells a b) [ inl p ↦ p.1 | inr p ↦ absurd (false≢true (sym p.0 ∙ h)) ]

-- ---- some bytes before those of the first word

abbrev pub onto_front : List ℕ → List (List ℕ) → List (List ℕ)
onto_front [] ws = ws
onto_front (b ∷ bs) ws = onto_first b (onto_front bs ws)

pub onto_push : (xs : List ℕ) (b : ℕ) (ws : List (List ℕ)) → onto_front (xs ++ b ∷ []) ws ≡ onto_front xs (onto_first b ws)
onto_push [] b ws = refl
onto_push (x ∷ xs) b ws = ap (onto_first x) (onto_push xs b ws)

pub onto_new : (xs : List ℕ) (ws : List (List ℕ)) → onto_front xs ([] ∷ ws) ≡ xs ∷ ws
onto_new [] ws = refl
onto_new (x ∷ xs) ws = ap (onto_first x) (onto_new xs ws)

-- ---- a gap

either : (a b : Bool) → (a || b) ≡ true → (a ≡ true) ⊎ (b ≡ true)
either true b h = inl refl
either false b h = inr h

by_gap : (P : ℕ → Type 0) → P 32 → P 44 → P 124 → (b : ℕ) → is_gap b ≡ true → P b
by_gap P blank comma bar b h = elim (either (b == 32) (b == 44 || b == 124) h) [
  | inl e ↦ subst P (sym (are_same b 32 e)) blank
  | inr r ↦ elim (either (b == 44) (b == 124) r) [ inl e ↦ subst P (sym (are_same b 44 e)) comma | inr e ↦ subst P (sym (are_same b 124 e)) bar ]
]

pub gap_small : (b : ℕ) → is_gap b ≡ true → b < 128
gap_small b h = by_gap (λ c. c < 128) (omega arith) (omega arith) (omega arith) b h

gap_is_flat : (b : ℕ) → is_gap b ≡ true → depth_after 0 b ≡ 0
gap_is_flat b h = by_gap (λ c. depth_after 0 c ≡ 0) refl refl refl b h

-- ---- what was passed, and what is left

abbrev pub CutSoFar : (bytes : List ℕ) → (index depth : ℕ) → Type 0
CutSoFar bytes i depth = onto_front (take i bytes) (words_in depth (drop i bytes)) ≡ syntax_words bytes

module _ (bs : List ℕ) (i depth b : ℕ) (within : i < length bs) (at : b ≡ get_or bs i 0) (so_far : CutSoFar bs i depth) where
  next : drop i bs ≡ b ∷ drop (i + 1) bs
  next = drop_more bs i 0 within ∙ ap (λ x. x ∷ drop (i + 1) bs) (sym at)

  taken : take (i + 1) bs ≡ take i bs ++ b ∷ []
  taken = take_more bs i 0 within ∙ ap (λ x. take i bs ++ x ∷ []) (sym at)

  here : onto_front (take i bs) (onto_words (is_gap b && depth == 0) b (words_in (depth_after depth b) (drop (i + 1) bs))) ≡ syntax_words bs
  here = sym (ap (λ us. onto_front (take i bs) (words_in depth us)) next) ∙ so_far

  pub cut_here : (is_gap b && depth == 0) ≡ true → syntax_words bs ≡ take i bs ∷ syntax_words (drop (i + 1) bs)
  cut_here h =
      let both = and_parts (is_gap b) (depth == 0) h in
      let rest : List ℕ = drop (i + 1) bs in
      sym here
      ∙ ap (λ t. onto_front (take i bs) (onto_words t b (words_in (depth_after depth b) rest))) h
      ∙ onto_new (take i bs) (words_in (depth_after depth b) rest)
      ∙ ap (λ n. take i bs ∷ words_in (depth_after n b) rest) (are_same depth 0 both.1)
      ∙ ap (λ n. take i bs ∷ words_in n rest) (gap_is_flat b both.0)

  pub cut_later : (is_gap b && depth == 0) ≡ false → CutSoFar bs (i + 1) (depth_after depth b)
  cut_later h =
      let rest : List ℕ = drop (i + 1) bs in
      ap (λ f. onto_front f (words_in (depth_after depth b) rest)) taken
      ∙ onto_push (take i bs) b (words_in (depth_after depth b) rest)
      ∙ sym (ap (λ t. onto_front (take i bs) (onto_words t b (words_in (depth_after depth b) rest))) h)
      ∙ here

pub never_cut : (bs : List ℕ) (i depth : ℕ) → length bs ≤ i → CutSoFar bs i depth → syntax_words bs ≡ bs ∷ []
never_cut bs i depth h s =
    sym s ∙ ap (λ us. onto_front (take i bs) (words_in depth us)) (drop_all i bs h) ∙ onto_new (take i bs) [] ∙ ap (λ t. t ∷ []) (take_all i bs h)

-- ---- how deep it may get

pub depth_small : (depth b i : ℕ) → depth ≤ i → depth_after depth b ≤ i + 1
depth_small depth b i h = by (is_opening b) (is_closing b) where
  by : (t u : Bool) → cond t (suc depth) (cond u (depth - 1) depth) ≤ i + 1
  by true u = omega arith
  by false true = omega arith
  by false false = omega arith

-- ---- where a name ends

ends_small : (c : ℕ) → is_of_name c ≡ false → c < 128
ends_small c h2 = grind (arith, nat_tests)

pub front_ends : (bs : List ℕ) → IsUtf8 bs → IsCharBoundary bs (prefix_len is_of_name bs)
front_ends bs utf8 = grind (arith, cases_lt, IsCharBoundary-before_ascii, prefix_len_stops, prefix_len-le-length, IsCharBoundary-end, ends_small)
