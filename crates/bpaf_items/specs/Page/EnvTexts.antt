-- A map from the names of environment variables to the texts that a page shows for them.
use Rattle.std.specs.Prelude.{if◌then◌else◌, ◌≡◌, ◌≢◌}
use Rattle.bpaf_items.specs.Words.{ℕ, List, Option, Some, None, same_text}
use Rattle.std.specs.Map.{lookup}

-- the text for a name, if the map has one
abbrev pub Texts : Type 0
Texts = List ℕ → Option (List ℕ)

-- the text that a list of names and texts has for a name: that of the first pair with the name
abbrev pub texts_in : List (List ℕ × List ℕ) → Texts
texts_in pairs name = lookup (same_text name) pairs

-- `new`: no name has a text
abbrev pub no_texts : Texts
no_texts name = None

-- `insert`: the name has this text from now on, in place of an earlier one
abbrev pub texts_with : Texts → (name text : List ℕ) → Texts
texts_with texts name text = λ other. if same_text name other then Some text else texts other

-- two maps have the same text for each name
abbrev pub AreSameTexts : Texts → Texts → Type 0
AreSameTexts texts others = (name : List ℕ) → texts name ≡ others name

-- what an insertion leaves at the name itself, and at any other
pub record InsertsText (texts : Texts) (name text : List ℕ) (after : Texts) : Type 0 where
  pub at_name : after name ≡ Some text
  pub elsewhere : (other : List ℕ) → other ≢ name → after other ≡ texts other

abbrev pub TextsAreInserted : Type 0
TextsAreInserted = (texts : Texts) (name text : List ℕ) → InsertsText texts name text (texts_with texts name text)
