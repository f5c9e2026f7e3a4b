-- The entries of the table of a description's completions, with no memory in it: each has four words.
use Rattle.std.specs.Prelude.{ℕ, List, [], ◌∷◌}

-- what it is, a text, which kind of value may stand there, and a help
pub record EntrySaid : Type 0 where
  pub what : List ℕ
  pub text : List ℕ
  pub hint : List ℕ
  pub help : List ℕ

abbrev pub entry_words : EntrySaid → List (List ℕ)
entry_words e = e.what ∷ e.text ∷ e.hint ∷ e.help ∷ []
