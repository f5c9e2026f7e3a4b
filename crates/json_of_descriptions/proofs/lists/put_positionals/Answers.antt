use Rattle.std.proofs.Common.{sym, ◌∙◌}
use Rattle.std.proofs.lemmas.Result.{on_ok_weaker}
use Rattle.json_of_descriptions.specs.Descriptions.{positional_json}
use Rattle.description.specs.View.{positional_said}
use Rattle.json_of_descriptions.proofs.Putting.{list_none, list_put}
use Rattle.json_of_descriptions.proofs.lists.put_positionals.Goals as goal

pub returns-then-is_empty : goal.returns-then-is_empty
returns-then-is_empty g c = list_none positional_json positional_said c.args.out.now c.args.key.now c.args.positionals.now.items c.as_slice-positionals.result.now c.as_slice-positionals.ensures.value (sym c.is_empty.ensures ∙ c.if-is_empty.true)

pub returns : goal.returns
returns g c =
    on_ok_weaker c.token.result
    (λ h. list_put positional_json positional_said c.args.key.now c.args.positionals.now.items c.as_slice-positionals.result.now c.as_slice-positionals.ensures.value (sym c.is_empty.ensures ∙ c.if-is_empty.false) c.in_ok-begin_list.ensures c.in_ok-put_each_positional.ensures h)
    c.token.ensures.ok
