use Rattle.std.proofs.Common.{[], ◌∷◌, ◌++◌, ap, ◌∙◌}
use Rattle.json.specs.Token.{begin_object}
use Rattle.json_of_descriptions.proofs.Putting.{whole_put}
use Rattle.json_of_descriptions.proofs.whole.put_object.Goals as goal

pub returns : goal.returns
returns g c =
    whole_put (c.in_ok-token.ensures.ok ∙ ap (λ ts. ts ++ begin_object ∷ []) c.new-out.ensures) c.in_ok-put_description.ensures c.in_ok-token-2.ensures.ok
