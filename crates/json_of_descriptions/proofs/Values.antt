-- The values of an array of texts, one after another.
use Rattle.std.proofs.Common.{◌≡◌, ℕ, true, List, [], ◌∷◌, ◌++◌, map, sym, ap, ◌∙◌, subst, append_assoc}
use Rattle.std.specs.Prelude.{bytes_eq, cond}
use Rattle.json.specs.Json.{string}
use Rattle.json.specs.Token.{Token, key, begin_array, end_array}
use Rattle.json.specs.Token as token
use Rattle.json_of_descriptions.specs.Fields.{list_at, text_at, text_unless}
use Rattle.description.specs.Values.{listed_values}
use Rattle.json_of_descriptions.specs.Listed.{written_values}
use Rattle.json_of_descriptions.specs.Steps.{values_tokens, PutsFields, PutsValues}
use Rattle.json_of_descriptions.proofs.Written.{written_some}
use Rattle.json_of_descriptions.proofs.Putting.{array_put, fields_none}

abbrev pub listed_tokens : List ℕ → List Token
listed_tokens text = values_tokens (map string (listed_values text))

pub value_next : (out new whole : List Token) (bs w v : List ℕ) → listed_values bs ≡ w ∷ listed_values v → new ≡ out ++ token.string w ∷ [] → out ++ listed_tokens bs ≡ whole → new ++ listed_tokens v ≡ whole
unfolding values_tokens
value_next out new whole bs w v is h so_far =
    ap (λ ts. ts ++ listed_tokens v) h ∙ append_assoc out (token.string w ∷ []) (listed_tokens v) ∙ sym (ap (λ ws. out ++ values_tokens (map string ws)) is) ∙ so_far

pub value_last : (out new old : List Token) (bs text : List ℕ) → listed_values bs ≡ bs ∷ [] → new ≡ out ++ token.string bs ∷ [] → out ++ listed_tokens bs ≡ old ++ listed_tokens text → PutsValues old new (map string (listed_values text))
unfolding values_tokens
value_last out new old bs text is h so_far = record { tokens = h ∙ sym (ap (λ ws. out ++ values_tokens (map string ws)) is) ∙ so_far }

pub written_put : (a b c d : List Token) (k text : List ℕ) → b ≡ a ++ key k ∷ begin_array ∷ [] → PutsValues b c (map string (written_values text)) → d ≡ c ++ end_array ∷ [] → PutsFields a d (list_at k (map string (written_values text)))
written_put a b c d k text w v u =
    let some = written_some text in
    subst (λ ws. PutsFields a d (list_at k (map string ws))) (sym some.2)
    (array_put a b c d k (string some.0) (map string some.1) w (subst (λ ws. PutsValues b c (map string ws)) some.2 v) u)

pub unless_same : (a : List Token) (usual k text : List ℕ) → bytes_eq text usual ≡ true → PutsFields a a (text_unless usual k text)
unless_same a usual k text h = subst (λ t. PutsFields a a (cond t [] (text_at k text))) (sym h) (fields_none a)
