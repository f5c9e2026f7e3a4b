-- What functions keep that may fail halfway.
use Rattle.std.specs.Prelude.{◌≡◌, ◌⊎◌, ℕ, ◌+◌, ◌-◌, ◌<◌, Bool, true, false, not, ◌&&◌, ◌||◌, ◌==◌, List, [], ◌∷◌, length, map, take, slice_index, if◌then◌else◌}
use Rattle.bpaf_roff.specs.Escaping.{Byte, apostrophe, backslash, dash, dot, newline, text_after}
use Rattle.bpaf_roff.specs.Roff.{Script}
use Rattle.bpaf_roff.specs.declared.escape.Apostrophes.{Apostrophes}
use Rattle.bpaf_roff.specs.declared.escape.Escape.{Escape}
use Rattle.bpaf_roff.specs.declared.escape.Escape.TheVariants.{Special, SpecialNoNewline}

-- what was there is still in front
abbrev pub KeepsFront : {X : Type 0} → List X → List X → Type 0
KeepsFront old new = take (length old) new ≡ old

-- the pieces that were there are still in front, under the same setting
abbrev pub OnlyAdds : Script → Script → Type 0
OnlyAdds old new = record new { pieces = take (length old.pieces) new.pieces } ≡ old

-- some bytes that were written before, after which the output is at a line start or not: nothing, or a byte that is not
-- a newline
abbrev pub written : Bool → List ℕ
written true = []
written false = 0 ∷ []

-- a byte that Special text has as it is, wherever it stands
abbrev pub is_plain : ℕ → Bool
is_plain b = not (b == backslash) && not (b == dash) && not (b == dot) && not (b == apostrophe)

-- plain text has this label
abbrev pub IsText : Escape → Type 0
IsText label = label ≡ Special ⊎ label ≡ SpecialNoNewline

-- these bytes are written as they are under the label, wherever they stand
abbrev pub StayUnder : Escape → List ℕ → Type 0
StayUnder label bytes = (q : Apostrophes) (before : List ℕ) → text_after q before (map (Byte label) bytes) ≡ bytes

-- How a byte of a plain text is written after another one: 1 as it is, 2 after a backslash, 3 in a way of its own, as
-- an apostrophe is, and a dot at a line start.
abbrev pub mark : ℕ → ℕ → ℕ
mark before b =
    1 + (if b == apostrophe || (b == dot && before == newline) then 2 else 0)
    + (if b == backslash || b == dash then 1 else 0)

-- the mark of one of these bytes, or 3
abbrev pub IsMark : List ℕ → ℕ → ℕ → Type 0
IsMark bytes i m = (m ≡ 3) ⊎ ((0 < i) × (m ≡ mark (slice_index bytes (i - 1)) (slice_index bytes i)))

-- the first of these bytes have such marks
abbrev pub AreMarks : List ℕ → ℕ → List ℕ → Type 0
AreMarks bytes end marks = (i : ℕ) → i < end → IsMark bytes i (slice_index marks i)
