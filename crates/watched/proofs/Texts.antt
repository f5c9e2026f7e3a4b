-- Bytes that were made a text.
use Rattle.std.proofs.Common.{◌≡◌, ℕ, List, Result, Ok, Err, IfOk, IsOk, IsUtf8, String, string_bytes, subst}
use Rattle.std.proofs.lemmas.Str.{IsUtf8-string_bytes}

-- bytes that became a text are UTF-8
pub IsUtf8-of_text : {A F : Type 0} (r : Result (String A) F) (bytes : List ℕ) → IfOk r (λ text. string_bytes text ≡ bytes) → IsOk r → IsUtf8 bytes
IsUtf8-of_text (Ok text) bytes same made = subst IsUtf8 same (IsUtf8-string_bytes text)
IsUtf8-of_text (Err error) bytes same made = cc
