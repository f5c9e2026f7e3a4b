-- What a shell reads of quoted words, by its manual. Nothing but quoted words is read.
use Rattle.std.specs.Prelude.{ℕ, Bool, List, [], ◌∷◌, ◌++◌, ◌==◌, ◌||◌, Option, Some, None, if◌then◌else◌}
use Rattle.completions.specs.declared.shells.Shell.{Shell}
use Rattle.completions.specs.declared.shells.Shell.TheVariants as shell

-- where a reader is, with the words that it has read, and what it has of a further one
pub data Reading : Type 0 where
  between : (words : List (List ℕ)) → Reading
  quoted : (words : List (List ℕ)) → (word : List ℕ) → Reading
  -- after a quote that ended
  ended : (words : List (List ℕ)) → (word : List ℕ) → Reading
  -- after a backslash: within a word, and between two
  slashed : (words : List (List ℕ)) → (word : List ℕ) → Reading
  continued : (words : List (List ℕ)) → Reading
  failed : Reading

abbrev pub is_quote : ℕ → Bool
is_quote b = b == 39

abbrev pub is_backslash : ℕ → Bool
is_backslash b = b == 92

abbrev pub is_blank : ℕ → Bool
is_blank b = b == 32

abbrev pub is_newline : ℕ → Bool
is_newline b = b == 10

-- bash and zsh, within the brackets of an array: between quotes each character is itself; a word goes on after `\'`,
-- which is a quote, and blanks and newlines end it
abbrev pub array_step : Reading → ℕ → Reading
array_step (between words) b =
    if is_quote b then quoted words []
    else if is_backslash b then slashed words []
    else if is_blank b || is_newline b then between words
    else failed
array_step (quoted words word) b = if is_quote b then ended words word else quoted words (word ++ b ∷ [])
array_step (ended words word) b =
    if is_quote b then quoted words word
    else if is_backslash b then slashed words word
    else if is_blank b || is_newline b then between (words ++ word ∷ [])
    else failed
array_step (slashed words word) b = if is_quote b then ended words (word ++ b ∷ []) else failed
array_step (continued words) b = failed
array_step failed b = failed

-- fish, within a command: between quotes a backslash before a quote or a backslash is left out; blanks end a word, and
-- a backslash before a newline lets the command go on
abbrev pub command_step : Reading → ℕ → Reading
command_step (between words) b =
    if is_quote b then quoted words []
    else if is_backslash b then continued words
    else if is_blank b then between words
    else failed
command_step (quoted words word) b =
    if is_quote b then ended words word
    else if is_backslash b then slashed words word
    else quoted words (word ++ b ∷ [])
command_step (slashed words word) b =
    if is_quote b || is_backslash b then quoted words (word ++ b ∷ []) else quoted words (word ++ 92 ∷ b ∷ [])
command_step (ended words word) b =
    if is_quote b then quoted words word else if is_blank b then between (words ++ word ∷ []) else failed
command_step (continued words) b = if is_newline b then between words else failed
command_step failed b = failed

abbrev pub step : Shell → Reading → ℕ → Reading
step shell.Bash = array_step
step shell.Zsh = array_step
step shell.Fish = command_step

abbrev pub steps : Shell → Reading → List ℕ → Reading
steps sh reading [] = reading
steps sh reading (b ∷ bs) = steps sh (step sh reading b) bs

-- the words of a text that ends where a word has ended
abbrev pub words_read : Reading → Option (List (List ℕ))
words_read (between words) = Some words
words_read (ended words word) = Some (words ++ word ∷ [])
words_read (quoted words word) = None
words_read (slashed words word) = None
words_read (continued words) = None
words_read failed = None

abbrev pub read : Shell → List ℕ → Option (List (List ℕ))
read sh text = words_read (steps sh (between []) text)
