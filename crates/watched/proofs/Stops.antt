-- Reads that a refused growth ended.
use Rattle.std.specs.Prelude.{ℕ, List, Result, Ok, Err, IfErr}
use Rattle.std.specs.Result.{IsErrAnd}
use Rattle.std_io.specs.declared.io.error.Error.{Error}
use Rattle.watched.specs.Calls.{Moves, ReadStops}
use Rattle.watched.specs.declared.ReadError.{ReadError}
use Rattle.watched.specs.Reading.{IsRefused}
use Rattle.watched.specs.declared.ReadError.TheVariants.{Failed, NotUtf8, Refused}

pub refused_stops : {S T : Type 0} (reads : S → Result ℕ Error → List ℕ → S → Type 0) (before : S) (input : List ℕ) (after : S) (result : Result T ReadError)
    → IsErrAnd result IsRefused → Moves reads before input after → IfErr result (λ error. ReadStops reads before error after)
refused_stops reads before input after (Ok x) refused moves = tt
refused_stops reads before input after (Err (Failed error)) refused moves = absurd refused
refused_stops reads before input after (Err NotUtf8) refused moves = absurd refused
refused_stops reads before input after (Err (Refused error)) refused moves = (input, moves)
