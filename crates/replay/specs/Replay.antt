-- What a run writes of what it reads: each line with its answers.
use Rattle.std.specs.Prelude.{◌≡◌, ◌≢◌, ℕ, ◌==◌, Bool, true, false, Option, Some, IfSome, List, [], ◌∷◌, ◌++◌, codes, MatchBool}
use Rattle.std.specs.List.{list_any}
use Rattle.std.specs.Io.KnownBytes.{Appends}
use Rattle.bpaf_roff.specs.Bytes as byte

abbrev pub is_newline : ℕ → Bool
is_newline b = b == byte.newline

-- the bytes have no newline
abbrev pub IsOneLine : List ℕ → Type 0
IsOneLine bytes = list_any is_newline bytes ≡ false

-- lines that each begin with `= `
pub data AreAnswers : List ℕ → Type 0 where
  none : {answers : List ℕ} → answers ≡ [] → AreAnswers answers
  line : {answers : List ℕ} (before text : List ℕ) → answers ≡ before ++ (codes "= " ++ text ++ byte.newline ∷ [])
      → AreAnswers before → IsOneLine text → AreAnswers answers

abbrev pub hash_sign : ℕ
hash_sign = 35

-- an empty line, or one that begins with `#`
abbrev pub is_passed_over : List ℕ → Bool
is_passed_over [] = true
is_passed_over (b ∷ bs) = b == hash_sign

-- what stands below a line: nothing if it is passed over, otherwise at least one answer
pub record IsAnswered (line answers : List ℕ) : Type 0 where
  pub lines : AreAnswers answers
  pub some : MatchBool (is_passed_over line) (answers ≡ []) (answers ≢ [])

-- the output has, for the lines of the input in order, each line, a newline and what stands below it
pub data Replies : List ℕ → List ℕ → Type 0 where
  none : {input output : List ℕ} → input ≡ [] → output ≡ [] → Replies input output
  line : {input output : List ℕ} (first rest answers others : List ℕ) → input ≡ first ++ byte.newline ∷ rest
      → IsOneLine first
      → output ≡ (first ++ byte.newline ∷ answers) ++ others
      → IsAnswered first answers → Replies rest others → Replies input output
  -- the last line may lack its newline
  last : {input output : List ℕ} (answers : List ℕ) → input ≢ [] → IsOneLine input
      → output ≡ input ++ byte.newline ∷ answers
      → IsAnswered input answers → Replies input output

-- A reader with known bytes has none left now, and to a writer with known bytes the replies to them were written.
abbrev pub Replays : Option (List ℕ) → Option (List ℕ) → Option (List ℕ) → Option (List ℕ) → Type 0
Replays left after held now =
    IfSome left (λ input. (after ≡ Some []) × (output : List ℕ) × Replies input output × Appends held now output)
