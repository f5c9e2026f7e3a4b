-- Texts one after another.
use Rattle.std.proofs.Common.{◌≡◌, ℕ, cond, List, ◌++◌, Result, Ok, Err, OnOk, ap, ◌∙◌, append_assoc}
use Rattle.std.specs.Prelude.{is_ok}

-- a text after others
pub after_this : (r s t y x : List ℕ) → s ≡ r ++ y → t ≡ s ++ x → t ≡ r ++ (y ++ x)
after_this r s t y x h1 h2 = h2 ∙ ap (λ u. u ++ x) h1 ∙ append_assoc r y x

-- what writing a text leaves
pub pushed : {T E : Type 0} (r : Result T E) (new more same : List ℕ) → new ≡ cond (is_ok r) more same → OnOk r (new ≡ more)
pushed (Ok x) new more same h = h
pushed (Err e) new more same h = tt
