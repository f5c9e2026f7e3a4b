-- What the whole text is, and what is read of it.
use Rattle.std.proofs.Common.{◌≡◌, ℕ, List, [], ◌++◌, Result, Ok, Err, IfOk, string_bytes, sym, ap, ◌∙◌, append-nil}
use Rattle.std.specs.Prelude.{codes, String}
use Rattle.json.specs.Json.{Json, value}
use Rattle.json.specs.Layout.{pretty}
use Rattle.json.specs.Lex.{tokens}
use Rattle.json.specs.Token.{Token}
use Rattle.json.specs.Tree.{json_tokens}
use Rattle.json.proofs.Printed.Trees.{value-json_tokens}
use Rattle.json_of_descriptions.specs.Descriptions.{IsReadBack}

pub text_is : {A E : Type 0} (r : Result (String A) E) (bytes : List ℕ) (out : List Token) (j : Json) → bytes ≡ pretty out → out ≡ json_tokens j → IfOk r (λ text. string_bytes text ≡ bytes ++ codes "\n") → IfOk r (λ text. string_bytes text ≡ pretty (json_tokens j) ++ codes "\n")
text_is (Ok text) bytes out j laid is h = h ∙ ap (λ bs. bs ++ codes "\n") (laid ∙ ap pretty is)
text_is (Err e) bytes out j laid is h = tt

pub read_back : {A E : Type 0} (r : Result (String A) E) (bytes : List ℕ) (out : List Token) (j : Json) → tokens bytes ≡ out → out ≡ json_tokens j → IfOk r (λ text. string_bytes text ≡ bytes ++ codes "\n") → IfOk r (λ text. IsReadBack (string_bytes text) j)
read_back (Ok text) bytes out j found is h =
    (bytes, h, λ limit shallow. ap (value limit) (found ∙ is ∙ sym (append-nil (json_tokens j))) ∙ value-json_tokens j limit [] shallow)
read_back (Err e) bytes out j found is h = tt
