-- Why a page is not written, in any medium.
use Rattle.std.specs.Prelude.{◌≡◌, Bool, Option, Some, None, Result, Err, IfErr, alloc_error, if◌then◌else◌}
use Rattle.page_model.specs.declared.fault.PageFault.{PageFault}
use Rattle.page_model.specs.declared.fault.PageFault.TheVariants.{Character, Refused}

-- a text that is not permitted
abbrev pub fault_unless : (permitted : Bool) → Option PageFault
fault_unless permitted = if permitted then None else Some Character

-- a call fails with its fault where it has one, and else only where memory is refused
abbrev pub FailsOnlyBy : {T : Type 0} → Option PageFault → Result T PageFault → Type 0
FailsOnlyBy (Some fault) result = result ≡ Err fault
FailsOnlyBy None result = IfErr result (λ error. error ≡ Refused alloc_error)
