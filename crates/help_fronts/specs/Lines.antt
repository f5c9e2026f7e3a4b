-- The names of options at the front of a line: those of its front, and of each further
-- one that follows directly, as in `-mount -noleaf -xdev`.
use Rattle.std.specs.Prelude.{ℕ, ◌||◌, Bool, List, [], ◌∷◌, if◌then◌else◌}
use Rattle.help_fronts.specs.declared.front.Kind.TheVariants as kind
use Rattle.help_fronts.specs.Pieces.{first_word, pieces, word}
use Rattle.help_fronts.specs.Words.{is_name}
use Rattle.help_fronts.specs.Fronts.{belongs, names, without_indent}

-- whether a word begins another front, or belongs to the one before it
abbrev pub goes_on : (before w next : List ℕ) → Bool
goes_on before w next = is_name w || belongs kind.Option before w next

-- the words that go on, up to the first that does not
abbrev pub further_words : (before : List ℕ) → (pieces : List (List ℕ)) → List (List ℕ)
further_words before [] = []
further_words before (p ∷ ps) = if goes_on before (word p) (first_word ps) then word p ∷ further_words (word p) ps else []

-- those of a text that begins with a name
abbrev pub option_words : (pieces : List (List ℕ)) → List (List ℕ)
option_words [] = []
option_words (p ∷ ps) = if is_name (word p) then word p ∷ further_words (word p) ps else []

abbrev pub option_names : (line : List ℕ) → List (List ℕ)
option_names line = names (option_words (pieces (without_indent line)))
