-- What a text gives, by what a reader reads of it.
use Rattle.std.proofs.Common.{◌≡◌, ℕ, List, [], ◌∷◌, Some, None}
use Rattle.json.specs.Json as json
use Rattle.json.specs.Lex.{tokens}
use Rattle.json.specs.Token.{Token}
use Rattle.toml_parser.specs.Strings.{recursion_limit}
use Rattle.description_json.specs.Tables.{json_table, json_value, top_members}

-- no value is read
pub no_value : (text : List ℕ) (ts : List Token) → ts ≡ tokens text → None ≡ json.value recursion_limit ts → None ≡ json_table text
unfolding json_table json_value
no_value text ts same none = rw (← same, ← none)

-- something follows the value
pub more_after : (text : List ℕ) (ts : List Token) (j : json.Json) (left : List Token) (t : Token) (rest : List Token) → ts ≡ tokens text
    → Some (j, left) ≡ json.value recursion_limit ts → left ≡ t ∷ rest → None ≡ json_table text
unfolding json_table json_value
more_after text ts j left t rest same is more = rw (← same, ← is, more)

-- the value is all there is
pub whole : (text : List ℕ) (ts : List Token) (j : json.Json) (left : List Token) → ts ≡ tokens text
    → Some (j, left) ≡ json.value recursion_limit ts → left ≡ [] → top_members j ≡ json_table text
unfolding json_table json_value
whole text ts j left same is none = rw (← same, ← is, none)
