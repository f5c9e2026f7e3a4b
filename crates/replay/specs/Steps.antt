-- What is written in blocks of many bytes.
use Rattle.std.specs.Prelude.{◌≡◌, ℕ, ◌<◌, Bool, ◌||◌, ◌==◌, List, [], ◌∷◌, if◌then◌else◌, slice_index}
use Rattle.std.specs.Int.{is_in_range}
use Rattle.replay.specs.Encoding.{letter_n, letter_s}
use Rattle.bpaf_roff.specs.Bytes as byte

-- printable ASCII, or a newline
abbrev pub is_usual : ℕ → Bool
is_usual b = is_in_range 0x20 0x7E b || b == byte.newline

-- what stands for a usual byte, after a backslash or alone
abbrev pub letter_of : ℕ → ℕ
letter_of b = if b == byte.blank then letter_s else if b == byte.newline then letter_n else b

-- how many bytes a usual byte becomes
abbrev pub size_of : ℕ → ℕ
size_of b = if b == byte.blank || b == byte.newline || b == byte.backslash then 2 else 1

-- the spelling of a usual byte
abbrev pub usual_spelling : ℕ → List ℕ
usual_spelling b = if size_of b == 2 then byte.backslash ∷ letter_of b ∷ [] else letter_of b ∷ []

-- the first of these are what f makes of the bytes
abbrev pub AreOf : (ℕ → ℕ) → List ℕ → ℕ → List ℕ → Type 0
AreOf f bytes end xs = (i : ℕ) → i < end → slice_index xs i ≡ f (slice_index bytes i)
