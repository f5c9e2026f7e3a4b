-- A page without a fault.
use Rattle.std.proofs.Common.{◌≡◌, Bool, true, false, None, refl}
use Rattle.page_model.specs.Faults.{fault_unless}

pub permitted_of : (permitted : Bool) → fault_unless permitted ≡ None → permitted ≡ true
permitted_of true h = refl
permitted_of false h = absurd cc
