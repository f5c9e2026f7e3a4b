-- What was written so far, in tokens.
use Rattle.std.specs.Prelude.{◌≡◌, List, [], ◌∷◌, ◌++◌}
use Rattle.json.specs.Json.{Json}
use Rattle.json.specs.Token.{Token, key}
use Rattle.json.specs.Tree.{json_tokens}
use Rattle.json_of_descriptions.specs.Fields.{Field}

-- members without the bracket after them
unfoldable pub fields_tokens : List Field → List Token
fields_tokens [] = []
fields_tokens (f ∷ fs) = key f.0 ∷ (json_tokens f.1 ++ fields_tokens fs)

unfoldable pub values_tokens : List Json → List Token
values_tokens [] = []
values_tokens (j ∷ js) = json_tokens j ++ values_tokens js

-- the members come after what was there
pub record PutsFields (old new : List Token) (fs : List Field) : Type 0 where
  pub tokens : new ≡ old ++ fields_tokens fs

pub record PutsValues (old new : List Token) (js : List Json) : Type 0 where
  pub tokens : new ≡ old ++ values_tokens js
