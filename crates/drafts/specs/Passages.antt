-- A help text, cut into passages: the lines of a block, without blank lines at their end.
use Rattle.std.specs.Prelude.{ℕ, ◌-◌, ◌==◌, Bool, List, [], ◌∷◌, drop, length, take}
use Rattle.std.specs.List.{slice_split, suffix_len}
use Rattle.std.specs.Str.{trim}
use Rattle.help_blocks.specs.declared.place.Kind.{Kind}
use Rattle.help_blocks.specs.Blocks.{Start, lines_of, starts}

pub record PassageSaid : Type 0 where
  pub kind : Kind
  pub lines : List (List ℕ)

abbrev pub is_blank : (line : List ℕ) → Bool
is_blank line = length (trim line) == 0

abbrev pub inked : (lines : List (List ℕ)) → List (List ℕ)
inked lines = take (length lines - suffix_len is_blank lines) lines

-- where the next block begins, or the text ends
abbrev pub next_start : List Start → (end : ℕ) → ℕ
next_start [] n = n
next_start (s ∷ ss) n = s.line

abbrev pub lines_between : (first end : ℕ) → (lines : List (List ℕ)) → List (List ℕ)
lines_between first end lines = take (end - first) (drop first lines)

abbrev pub passage : Kind → (lines : List (List ℕ)) → PassageSaid
passage k lines = record { kind = k; lines = inked lines }

abbrev pub passages_from : List Start → (lines : List (List ℕ)) → List PassageSaid
passages_from [] lines = []
passages_from (s ∷ ss) lines =
    passage s.kind (lines_between s.line (next_start ss (length lines)) lines) ∷ passages_from ss lines

abbrev pub passages : (lines : List (List ℕ)) → List PassageSaid
passages lines = passages_from (starts (lines_of lines)) lines

abbrev pub lines_in : (text : List ℕ) → List (List ℕ)
lines_in text = slice_split (λ b. b == 10) text

abbrev pub first_line : (lines : List (List ℕ)) → List ℕ
first_line [] = []
first_line (l ∷ ls) = l
