use Rattle.std.proofs.lemmas.Result.{on_ok_weaker}
use Rattle.json_of_descriptions.proofs.Putting.{text_put}
use Rattle.json_of_descriptions.proofs.fields.put_text.Goals as goal

pub returns : goal.returns
returns g c =
    on_ok_weaker c.token-2.result (λ h. text_put c.args.out.now c.token.new.self c.token-2.new.self c.args.key.now c.args.text.now c.in_ok-token.ensures.ok h) c.token-2.ensures.ok
