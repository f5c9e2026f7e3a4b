-- The ink of what the console puts, and a text without its blank end.
use Rattle.std.specs.Str.{chars, IsUtf8, IsCharBoundary, IsTrimEnd}
use Rattle.std.specs.Prelude.{◌∷◌, ◌≡◌}
use Rattle.bpaf_doc.proofs.lemmas.Console.Words.{sym, ◌∙◌, ap, arith, ℕ, List, [], refl, length, take, IsCharBoundary-from_take, ink}

-- ---- the ink of what is put after a text

pub ink-blank : ink (32 ∷ []) ≡ []
unfolding chars
ink-blank = refl

pub ink-backquote : ink (96 ∷ []) ≡ 96 ∷ []
unfolding chars
ink-backquote = refl

-- what stays of a text without its blank end is a front of it, cut between characters
pub trim-cut : (text kept : List ℕ) → IsTrimEnd text kept → kept ≡ take (length kept) text
trim-cut text kept (n, same, blank, ends, len, within) = same ∙ ap (λ k. take k text) (sym len)

pub trim-boundary : (text kept : List ℕ) → IsUtf8 text → IsUtf8 kept → IsTrimEnd text kept → IsCharBoundary text (length kept)
trim-boundary text kept u v (n, same, blank, ends, len, within) = grind (arith, IsCharBoundary-from_take)
