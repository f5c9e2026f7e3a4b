-- The ink of a text in parts.
use Rattle.std.specs.Prelude.{◌++◌, ◌∷◌, ◌≡◌}
use Rattle.bpaf_doc.proofs.lemmas.Splitter.Words.{is_not_whitespace, sym, ◌∙◌, ap, arith, append-nil, ℕ, List, [], refl, filter, nat_tests, filter-append, chars-append, chars-nil, ink, IsGap}
use Rattle.std.specs.Str.{IsUtf8, chars}
use Rattle.bpaf_doc.proofs.lemmas.Splitter.Spelling.{and_left, and_right}

newline_chars : (rest : List ℕ) → chars (10 ∷ rest) ≡ 10 ∷ chars rest
unfolding chars
newline_chars rest = grind arith

blank_chars : (rest : List ℕ) → chars (32 ∷ rest) ≡ 32 ∷ chars rest
unfolding chars
blank_chars rest = grind arith

pub ink-nil : ink [] ≡ []
ink-nil = ap (λ cs. filter is_not_whitespace cs) chars-nil

-- a gap has no ink
pub ink_after_gap : (gap rest : List ℕ) → IsGap gap → ink (gap ++ rest) ≡ ink rest
ink_after_gap [] rest g = refl
ink_after_gap (b ∷ gap) rest g = grind (arith, ink_after_gap gap rest, nat_tests, and_left, and_right, newline_chars, blank_chars)

pub gap_ink : (gap : List ℕ) → IsGap gap → ink gap ≡ []
gap_ink gap g = ap ink (sym (append-nil gap)) ∙ ink_after_gap gap [] g ∙ ink-nil

-- the ink of a UTF-8 text and what follows it
pub ink-append : (front rest : List ℕ) → IsUtf8 front → ink (front ++ rest) ≡ ink front ++ ink rest
ink-append front rest u = ap (λ cs. filter is_not_whitespace cs) (chars-append front rest u) ∙ filter-append is_not_whitespace (chars front) (chars rest)
