use Rattle.std.proofs.lemmas.Result.{on_ok_weaker}
use Rattle.json_of_descriptions.proofs.Putting.{fields_then, object_put}
use Rattle.json_of_descriptions.proofs.lists.put_topic.Goals as goal

pub returns : goal.returns
returns g c =
    on_ok_weaker c.token-2.result (λ h. let w = fields_then c.in_ok-put_text.ensures c.in_ok-put_text-2.ensures in object_put c.in_ok-token.ensures.ok w h) c.token-2.ensures.ok
