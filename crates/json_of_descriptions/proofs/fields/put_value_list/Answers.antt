use Rattle.std.proofs.lemmas.Result.{on_ok_weaker}
use Rattle.json_of_descriptions.proofs.Values.{written_put}
use Rattle.json_of_descriptions.proofs.fields.put_value_list.Goals as goal

pub returns : goal.returns
returns g c =
    on_ok_weaker c.token.result (λ h. written_put c.args.out.now c.begin_list.new.out c.put_listed.new.out c.token.new.self c.args.key.now c.args.text.now c.in_ok-begin_list.ensures c.in_ok-put_listed.ensures h) c.token.ensures.ok
