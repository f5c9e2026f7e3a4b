-- Of two blanks that come to a line without room after its margin nothing is left.
use Rattle.std.specs.Prelude.{◌++◌, ◌+◌, ◌<◌, ◌==◌, ◌∷◌, ◌≡◌, ◌≤◌}
use Rattle.bpaf_doc.proofs.lemmas.Console.Words.{trim_end, nat_tests, IsUtf8-from_ascii, ink, saturated, placed, ap₂, arith, rules, ◌∙◌, append_assoc, lt-ltb, ℕ, zero, suc, true, false, List, [], codes, length, replicate, nat_lt, IsUtf8}
use Rattle.bpaf_doc.specs.Console.Steps.Page.{Sheet, DropsBlanks, margin_of, raw_put}
use Rattle.bpaf_doc.proofs.lemmas.Console.Ink.{ink-blank}
use Rattle.bpaf_doc.proofs.lemmas.Console.Layout.Stretches.{trim_white}
use Rattle.bpaf_doc.proofs.lemmas.Console.Runs.{page_at, no_break, no_room}
use Rattle.bpaf_doc.proofs.lemmas.Splitter.Ink.{ink-append}

-- ---- blanks

blanks_ink : (n : ℕ) → ink (replicate n 32 ++ 32 ∷ []) ≡ []
blanks_ink zero = ink-blank
blanks_ink (suc n) =
    ink-append (32 ∷ []) (replicate n 32 ++ 32 ∷ []) (IsUtf8-from_ascii (32 ∷ []) (search rules)) ∙ ap₂ (λ i j. i ++ j) ink-blank (blanks_ink n)

some_blank : (xs : List ℕ) → (length (xs ++ 32 ∷ []) == 0) ≡ false
some_blank [] = grind (arith, nat_tests)
some_blank (x ∷ xs) = grind (arith, nat_tests)

-- ---- what they leave of a page

module _ (width margin : ℕ) where
  -- the first stands after the margin
  abbrev filled : List ℕ → List ℕ
  filled text = (text ++ replicate margin 32) ++ 32 ∷ []

  abbrev filled_column : ℕ
  filled_column = saturated (saturated (0 + margin) + 1)

  at_margin : (text : List ℕ) → placed margin (32 ∷ []) 1 (page_at text 0) ≡ page_at (filled text) filled_column
  at_margin text = grind arith

  first_blank : (text : List ℕ) → width ≤ 18446744073709551615 → 0 < width → raw_put width margin (32 ∷ []) 1 (page_at text 0) ≡ page_at (filled text) filled_column
  unfolding raw_put
  first_blank text small some = grind (arith, no_break, no_room, at_margin)

  -- and the second takes both away
  second_blank : (text : List ℕ) (column : ℕ) → (length text == 0) ≡ false → nat_lt width (saturated (column + 1)) ≡ true
      → raw_put width margin (32 ∷ []) 1 (page_at text column) ≡ page_at (trim_end text ++ 10 ∷ []) 0
  unfolding raw_put
  second_blank text column some wide = grind arith

pub blanks_pass : (s : Sheet) → DropsBlanks s → IsUtf8 s.page.text → raw_put s.width (margin_of s) (codes " ") 1 (raw_put s.width (margin_of s) (codes " ") 1 s.page) ≡ s.page
blanks_pass s is u = grind (arith, append_assoc, trim_white, blanks_ink, first_blank s.width (margin_of s), second_blank s.width (margin_of s), some_blank, lt-ltb)
