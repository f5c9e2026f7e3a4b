-- One step along two lists of names in order.
use Rattle.std.specs.Prelude.{Bool, List, [], ◌∷◌, ◌++◌, Option, None, Some, if◌then◌else◌}
use Rattle.std.specs.declared.cmp.Ordering.{Ordering}
use Rattle.std.specs.declared.cmp.Ordering.TheVariants.{Less, Equal, Greater}
use Rattle.help_differences.specs.declared.compared.Side.{Side}
use Rattle.help_differences.specs.declared.compared.Side.TheVariants as side
use Rattle.help_differences.specs.Names.{Named}
use Rattle.help_differences.specs.Differences.{Alone, alone, name_cmp}

-- which list has the first of all names
abbrev pub order_of : (described help : List Named) → Option Ordering
order_of [] [] = None
order_of (x ∷ xs) [] = Some Less
order_of [] (y ∷ ys) = Some Greater
order_of (x ∷ xs) (y ∷ ys) = Some (name_cmp x y)

abbrev pub first_alone : Side → List Named → Option Alone
first_alone s [] = None
first_alone s (x ∷ xs) = Some (alone s x)

-- that name, if one list alone has it
abbrev pub found_by : Ordering → (described help : List Named) → Option Alone
found_by Less xs ys = first_alone side.Description xs
found_by Equal xs ys = None
found_by Greater xs ys = first_alone side.Help ys

-- what is left of a list, once its first name is taken out or not
abbrev pub others : {X : Type 0} → List X → List X
others [] = []
others (x ∷ xs) = xs

abbrev pub left : {X : Type 0} → (is_taken : Bool) → List X → List X
left taken xs = if taken then others xs else xs

abbrev pub with_found : List Alone → Option Alone → List Alone
with_found found None = found
with_found found (Some a) = found ++ a ∷ []
