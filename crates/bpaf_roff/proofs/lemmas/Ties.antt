-- Tests that hold exactly where an order finds two values equal.
use Rattle.std.specs.Prelude.{◌≡◌, Bool, Option, Some, None, refl}
use Rattle.std.specs.Ordering.{then_cmp, eq_by_cmp, eq_of_both}
use Rattle.std.specs.Option.{option_eq, option_cmp}
use Rattle.std.specs.Cmp.{both_tied}
use Rattle.std.specs.declared.cmp.Ordering.{Ordering}

pub options_tied : {X : Type 0} (same : X → X → Bool) (order : X → X → Ordering) → ((x y : X) → same x y ≡ eq_by_cmp order x y)
    → (o p : Option X) → option_eq same o p ≡ eq_by_cmp (option_cmp order) o p
options_tied same order tied None None = refl
options_tied same order tied None (Some y) = refl
options_tied same order tied (Some x) None = refl
options_tied same order tied (Some x) (Some y) = tied x y

-- two tests, each tied to an order, are together tied to the first order followed by the second
pub both_orders_tied : {X : Type 0} (same also : X → X → Bool) (order next : X → X → Ordering) → ((x y : X) → same x y ≡ eq_by_cmp order x y)
    → ((x y : X) → also x y ≡ eq_by_cmp next x y) → (x y : X) → eq_of_both same also x y ≡ eq_by_cmp (then_cmp order next) x y
both_orders_tied same also order next t u x y = both_tied (same x y) (also x y) (order x y) (next x y) (t x y) (u x y)
