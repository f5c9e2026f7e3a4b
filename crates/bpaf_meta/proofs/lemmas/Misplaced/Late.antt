-- The late items of a line, by a mark that says whether a positional item came before the line.
use Rattle.std.proofs.Common.{◌≡◌, suc, ◌+◌, Bool, true, false, List, [], ◌∷◌, ◌++◌, refl, arith, not, ◌||◌, filter}
use Rattle.std.proofs.lemmas.List.Elements.{filter-append}
use Rattle.std.specs.List.{after_first, list_any, position_or_len}
use Rattle.bpaf_meta.specs.Meta.Misplaced.{Numbered, Line, is_positional, late_items}

abbrev pub is_named : Numbered → Bool
is_named x = not (is_positional x.1)

abbrev pub at_positional : Numbered → Bool
at_positional x = is_positional x.1

-- the items of a line that are late after a mark
abbrev pub late_after : Bool → Line → List Numbered
late_after true line = filter is_named line
late_after false line = late_items line

pub after_first-later : (p : Numbered → Bool) (x : Numbered) (xs : Line) → p x ≡ false → after_first p (x ∷ xs) ≡ after_first p xs
after_first-later p x xs e = let step : (1 + position_or_len p xs) + 1 ≡ suc (position_or_len p xs + 1) = omega arith in rw (e, step) refl

late_step : (x : Numbered) (front back : Line) (b : Bool) → is_positional x.1 ≡ b → late_items (front ++ back) ≡ late_items front ++ late_after (list_any at_positional front) back → late_items (x ∷ front ++ back) ≡ late_items (x ∷ front) ++ late_after (b || list_any at_positional front) back
late_step x front back true e h = grind (arith, filter-append)
late_step x front back false e h = grind (arith, after_first-later at_positional x (front ++ back) e, after_first-later at_positional x front e)

late_first : (front back : Line) → late_items (front ++ back) ≡ late_items front ++ late_after (list_any at_positional front) back
late_first [] back = refl
late_first (x ∷ front) back = late_step x front back (is_positional x.1) refl (late_first front back)

-- what is late in two lines joined: what is late in the first, and in the second after the mark that the first leaves
pub late-append : (mark : Bool) (front back : Line) → late_after mark (front ++ back) ≡ late_after mark front ++ late_after (mark || list_any at_positional front) back
late-append mark front back = grind (arith, filter-append, late_first)
