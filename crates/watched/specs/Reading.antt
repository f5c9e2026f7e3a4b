-- Why not all was read.
use Rattle.std.specs.Prelude.{◌≢◌, Bool, true, false, Result, Ok, Err, ⊤}
use Rattle.std_io.specs.IoError.{error_kind}
use Rattle.std_io.specs.declared.io.kind.ErrorKind.TheVariants.{Interrupted}
use Rattle.watched.specs.declared.ReadError.{ReadError}
use Rattle.watched.specs.declared.ReadError.TheVariants.{Failed, NotUtf8, Refused}

-- a growth was refused
abbrev pub IsRefused : ReadError → Type 0
IsRefused (Failed error) = ⊥
IsRefused NotUtf8 = ⊥
IsRefused (Refused error) = ⊤

-- a read failed
abbrev pub is_failed_read : {T : Type 0} → Result T ReadError → Bool
is_failed_read (Ok bytes) = false
is_failed_read (Err (Failed error)) = true
is_failed_read (Err NotUtf8) = false
is_failed_read (Err (Refused error)) = false

-- the error is not that of an interrupted read
abbrev pub IsNoInterruption : ReadError → Type 0
IsNoInterruption (Failed error) = error_kind error ≢ Interrupted
IsNoInterruption NotUtf8 = ⊤
IsNoInterruption (Refused error) = ⊤
