use Rattle.std.proofs.Common.{map, subst, sym, ◌∙◌}
use Rattle.json.specs.Json.{string}
use Rattle.std.proofs.lemmas.Result.{on_ok_weaker}
use Rattle.json_of_descriptions.specs.Steps.{PutsValues}
use Rattle.json_of_descriptions.proofs.Written.{written_listed, written_whole}
use Rattle.json_of_descriptions.proofs.Putting.{string_put}
use Rattle.json_of_descriptions.proofs.fields.put_listed.Goals as goal

pub returns-then-has_empty_value : goal.returns-then-has_empty_value
returns-then-has_empty_value g c =
    on_ok_weaker c.token.result
    (λ h. subst (λ ws. PutsValues c.args.out.now c.token.new.self (map string ws)) (sym (written_whole c.args.text.now (sym c.has_empty_value.ensures ∙ c.if-has_empty_value.true)))
    (string_put c.args.out.now c.token.new.self c.args.text.now h))
    c.token.ensures.ok

pub returns-else-has_empty_value : goal.returns-else-has_empty_value
returns-else-has_empty_value g c =
    on_ok_weaker c.put_each.result
    (λ h. subst (λ ws. PutsValues c.args.out.now c.put_each.new.out (map string ws)) (sym (written_listed c.args.text.now (sym c.has_empty_value.ensures ∙ c.if-has_empty_value.false))) h)
    c.put_each.ensures
