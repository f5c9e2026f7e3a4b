-- A run: words of a line and blanks between them, at the start of a text. Cut into chunks as a text of its own, it
-- gives the same chunks.
use Rattle.std.specs.Prelude.{◌||◌, ◌≡◌, ◌≢◌, ◌≤◌}
use Rattle.bpaf_doc.specs.Words.{ℕ, Bool, true, not, List, [], length, take, drop, count_by, list_all, is_in_range, IsLine, IsWordEnd}

-- a run of the text ends at this place
pub record IsRunEnd (text : List ℕ) (end : ℕ) : Type 0 where
  pub within : end ≤ length text
  pub line : IsLine (take end text)
  pub word_end : IsWordEnd (drop end text)

-- a run that is taken at once: so short that each of its words has fewer columns than the weight of a code line
pub record IsRun (run : List ℕ) : Type 0 where
  pub some : run ≢ []
  pub line : IsLine run
  pub short : length run ≤ 300_000

-- printable ASCII, or one of the bytes of a Latin letter of two bytes, from U+00C0 up to U+023F
abbrev pub is_lettered : ℕ → Bool
is_lettered b = (is_in_range 0x20 0x7E b || is_in_range 0x80 0xBF b) || is_in_range 0xC3 0xC8 b

-- each byte is one of these
abbrev pub IsLettered : List ℕ → Type 0
IsLettered bytes = list_all is_lettered bytes ≡ true

-- a character begins with this byte
abbrev pub begins : ℕ → Bool
begins b = not (is_in_range 0x80 0xBF b)

-- how many characters a text has
abbrev pub letters : List ℕ → ℕ
letters bytes = count_by begins bytes
