-- Carriage returns before newlines.
use Rattle.std.specs.Prelude.{ℕ, ◌==◌, ◌&&◌, List, [], ◌∷◌, Bool, false, if◌then◌else◌}

abbrev pub begins_with_newline : List ℕ → Bool
begins_with_newline [] = false
begins_with_newline (byte ∷ bytes) = byte == 10

-- the text without each carriage return that stands directly before a newline
abbrev pub without_returns : List ℕ → List ℕ
without_returns [] = []
without_returns (byte ∷ bytes) = if byte == 13 && begins_with_newline bytes then without_returns bytes else byte ∷ without_returns bytes
