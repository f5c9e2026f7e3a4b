-- What calls on a stream did, one after another. What one call did is a relation of the stream's type: `reads` of a
-- `Source`, `writes` of a `Sink`. Code that takes any stream can show that it holds only by a call that was made.
use Rattle.std.specs.Prelude.{◌≡◌, ◌≢◌, ◌<◌, ◌⊎◌, ℕ, List, [], ◌++◌, take, Result, Ok, Err, IsUtf8}
use Rattle.std_io.specs.IoError.{error_kind}
use Rattle.std_io.specs.declared.io.error.Error.{Error}
use Rattle.std_io.specs.declared.io.kind.ErrorKind.TheVariants.{WriteZero}
use Rattle.watched.specs.declared.ReadError.{ReadError}
use Rattle.watched.specs.declared.ReadError.TheVariants.{Failed, NotUtf8, Refused}

-- what describes a call: the stream before, the answer, the bytes that were lent (a read's buffer as it leaves it), and
-- the stream after
abbrev pub Tells : Type 0 → Type 1
Tells S = S → Result ℕ Error → List ℕ → S → Type 0

-- calls one after another, each of which moved at least one byte, and all that they moved
pub data Moves {S : Type 0} (call : Tells S) (before : S) : List ℕ → S → Type 0 where
  none : {moved : List ℕ} {after : S} → moved ≡ [] → after ≡ before → Moves call before moved after
  more : {moved : List ℕ} {after : S} (front : List ℕ) (between : S) (count : ℕ) (lent : List ℕ)
      → Moves call before front between
      → call between (Ok count) lent after → 0 < count → moved ≡ front ++ take count lent
      → Moves call before moved after

-- the reads gave this input, and then one that had room gave none
pub record ReadsToEnd {S : Type 0} (reads : Tells S) (before : S) (input : List ℕ) (after : S) : Type 0 where
  pub between : S
  pub given : Moves reads before input between
  pub room : List ℕ
  pub has_room : room ≢ []
  pub ended : reads between (Ok 0) room after

-- the last of the reads failed with this error
pub record ReadFails {S : Type 0} (reads : Tells S) (before : S) (error : Error) (after : S) : Type 0 where
  pub input : List ℕ
  pub between : S
  pub given : Moves reads before input between
  pub room : List ℕ
  pub failed : reads between (Err error) room after

-- the reads gave an input to its end, which is a text for which the fact holds
abbrev pub GivesText : {S : Type 0} → Tells S → S → S → (List ℕ → Type 0) → Type 0
GivesText reads before after Fact = (input : List ℕ) × ReadsToEnd reads before input after × IsUtf8 input × Fact input

-- the reads gave an input to its end, which is not a text
abbrev pub GivesNoText : {S : Type 0} → Tells S → S → S → Type 0
GivesNoText reads before after = (input : List ℕ) × ReadsToEnd reads before input after × ¬ IsUtf8 input

-- what the reads were where not all was read, or not as a text; a growth may be refused after any read
abbrev pub ReadStops : {S : Type 0} → Tells S → S → ReadError → S → Type 0
ReadStops reads before (Failed error) after = ReadFails reads before error after
ReadStops reads before NotUtf8 after = GivesNoText reads before after
ReadStops reads before (Refused error) after = (input : List ℕ) × Moves reads before input after

-- a write failed: with this error, or it took none, which the error says
abbrev pub FailsWrite : {S : Type 0} → Tells S → S → Error → List ℕ → S → Type 0
FailsWrite writes before error bytes after =
    writes before (Err error) bytes after ⊎ (writes before (Ok 0) bytes after × (error_kind error ≡ WriteZero))

-- a beginning of the bytes was written, and then the write of all the others, of which there were some, failed
pub record WriteFails {S : Type 0} (writes : Tells S) (before : S) (bytes : List ℕ)
    (error : Error) (after : S) : Type 0 where
  pub front : List ℕ
  pub rest : List ℕ
  pub split : bytes ≡ front ++ rest
  pub missing : rest ≢ []
  pub between : S
  pub taken : Moves writes before front between
  pub failed : FailsWrite writes between error rest after
