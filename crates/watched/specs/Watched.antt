-- A reader or a writer that remembers whether a call on it has failed.
use Rattle.std.specs.Prelude.{◌≡◌, ◌≢◌, ℕ, Bool, true, false, not, ◌&&◌, ◌==◌, Option, List, [], ◌++◌, length, Result, Ok, Err, IsTrue, IsUtf8, refl}
use Rattle.std.specs.Coded.{Coded, code_by, coded×, coded_bool}
use Rattle.std.specs.Io.KnownBytes.{Appends, Consumes, IsAtEnd}

-- the reader or the writer, and the mark that a call on it has failed
pub record Watch (E : Type 0) : Type 0 where
  pub end : E
  pub marked : Bool

-- it is stored as the pair of its fields
abbrev pub watch_code : {E : Type 0} → Coded E → Coded (Watch E)
watch_code {E} code =
    code_by (E × Bool) (coded× code coded_bool) (λ w. (w.end, w.marked)) (λ p. record { end = p.0; marked = p.1 })
    (λ _. refl)

abbrev pub IsMarked : {E : Type 0} → Watch E → Type 0
IsMarked w = IsTrue w.marked

abbrev pub IsUnmarked : {E : Type 0} → Watch E → Type 0
IsUnmarked w = w.marked ≡ false

-- a write of these bytes failed: it returned an error, or took none where there were some
abbrev pub is_failed_write : {F : Type 0} → Result ℕ F → List ℕ → Bool
is_failed_write (Ok taken) bytes = taken == 0 && not (length bytes == 0)
is_failed_write (Err error) bytes = true

-- A beginning of the bytes was written, and not all of them. The bytes that a writer holds, here before and after, may
-- be known; where they are not, nothing is said.
pub record AppendsPart (before after : Option (List ℕ)) (bytes : List ℕ) : Type 0 where
  pub front : List ℕ
  pub rest : List ℕ
  pub split : bytes ≡ front ++ rest
  pub missing : rest ≢ []
  pub written : Appends before after front

-- The input is all that the reader had left. The bytes that a reader has left, here before and after, may be known;
-- where they are not, nothing is said.
pub record ReadsAll (before after : Option (List ℕ)) (input : List ℕ) : Type 0 where
  pub given : Consumes before after input
  pub ended : IsAtEnd after

-- all that the reader had left is a text, for which the fact holds
abbrev pub ReadsText : Option (List ℕ) → Option (List ℕ) → (List ℕ → Type 0) → Type 0
ReadsText before after Fact = (input : List ℕ) × ReadsAll before after input × IsUtf8 input × Fact input

-- all that the reader had left is not a text
abbrev pub ReadsNoText : Option (List ℕ) → Option (List ℕ) → Type 0
ReadsNoText before after = (input : List ℕ) × ReadsAll before after input × ¬ IsUtf8 input
