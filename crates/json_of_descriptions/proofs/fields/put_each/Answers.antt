use Rattle.std.proofs.Common.{◌++◌, rules}
use Rattle.std.proofs.lemmas.Result.{on_ok_weaker}
use Rattle.json_of_descriptions.proofs.Values.{value_last, value_next, listed_tokens}
use Rattle.json_of_descriptions.proofs.fields.put_each.Goals as goal

pub loop-value-preserved : goal.loop-value-preserved
loop-value-preserved g c =
    record {
      utf8 = search rules;
      put =
          value_next c.loop-value.out c.token.new.self (c.args.out.now ++ listed_tokens c.args.text.now) c.loop-value.rest.now c.in-Some.value.now c.in-Some.after.now c.in-Some.ensures.values c.in_ok-token.ensures.ok c.loop-value.invariant.put;
    }

pub returns : goal.returns
returns g c =
    on_ok_weaker c.token-2.result (λ h. value_last c.loop-value.out c.token-2.new.self c.args.out.now c.loop-value.rest.now c.args.text.now c.in_default.ensures.values h c.loop-value.invariant.put) c.token-2.ensures.ok
