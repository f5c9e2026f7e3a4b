-- Flags that say their default, and others.
use Rattle.std.proofs.Common.{◌≡◌, ◌++◌, ◌∷◌, [], ℕ, Bool, true, false, not, List, Option, Some, None, Bor, is_some, refl, sym, subst}
use Rattle.std.specs.Prelude.{codes}
use Rattle.std.specs.Bool.{beq}
use Rattle.std.proofs.lemmas.Bool.{false≢true}
use Rattle.description.specs.Content.{PositionalSaid}
use Rattle.description.specs.View.{text_of}
use Rattle.json.specs.Token.{Token, key}
use Rattle.json.specs.Token as token
use Rattle.json_of_descriptions.specs.Descriptions.{flags_of_positional}
use Rattle.json_of_descriptions.specs.Fields.{flag_unless}
use Rattle.json_of_descriptions.specs.Steps.{PutsFields}
use Rattle.json_of_descriptions.proofs.Putting.{boolean_put, fields_none}

pub flag_usual : (a : List Token) (k : List ℕ) (usual flag : Bool) → beq flag usual ≡ true → PutsFields a a (flag_unless usual k flag)
flag_usual a k true true h = fields_none a
flag_usual a k true false h = absurd (false≢true h)
flag_usual a k false true h = absurd (false≢true h)
flag_usual a k false false h = fields_none a

pub flag_put : (a b c : List Token) (k : List ℕ) (usual flag : Bool) → beq flag usual ≡ false → b ≡ a ++ key k ∷ [] → c ≡ b ++ token.boolean flag ∷ [] → PutsFields a c (flag_unless usual k flag)
flag_put a b c k true true h w v = absurd (false≢true (sym h))
flag_put a b c k true false h w v = boolean_put a b c k false w v
flag_put a b c k false true h w v = boolean_put a b c k true w v
flag_put a b c k false false h w v = absurd (false≢true (sym h))

pub no_default : (x : Option (Bor (List ℕ))) (r : Bool) → is_some x ≡ not r → not (is_some (text_of x)) ≡ r
no_default None true h = refl
no_default None false h = absurd (false≢true h)
no_default (Some x) true h = absurd (false≢true (sym h))
no_default (Some x) false h = refl

pub flags_put : (a b : List Token) (p : PositionalSaid) (usual : Bool) → not (is_some p.default) ≡ usual
    → PutsFields a b (flag_unless usual (codes "required") p.required ++ (flag_unless false (codes "repeated") p.repeated ++ flag_unless false (codes "strict") p.strict))
    → PutsFields a b (flags_of_positional p)
flags_put a b p usual is w =
    subst (λ t. PutsFields a b (flag_unless t (codes "required") p.required ++ (flag_unless false (codes "repeated") p.repeated ++ flag_unless false (codes "strict") p.strict))) (sym is) w
