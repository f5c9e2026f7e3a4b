use Rattle.std.proofs.Common.{sym, ◌∙◌}
use Rattle.std.proofs.lemmas.Result.{on_ok_weaker}
use Rattle.json_of_descriptions.specs.Descriptions.{choice_json}
use Rattle.description.specs.View.{choice_said}
use Rattle.json_of_descriptions.proofs.Putting.{list_none, list_put}
use Rattle.json_of_descriptions.proofs.lists.put_choices.Goals as goal

pub returns-then-is_empty : goal.returns-then-is_empty
returns-then-is_empty g c = list_none choice_json choice_said c.args.out.now c.args.key.now c.args.choices.now.items c.as_slice-choices.result.now c.as_slice-choices.ensures.value (sym c.is_empty.ensures ∙ c.if-is_empty.true)

pub returns : goal.returns
returns g c =
    on_ok_weaker c.token.result
    (λ h. list_put choice_json choice_said c.args.key.now c.args.choices.now.items c.as_slice-choices.result.now c.as_slice-choices.ensures.value (sym c.is_empty.ensures ∙ c.if-is_empty.false) c.in_ok-begin_list.ensures c.in_ok-put_each_choice.ensures h)
    c.token.ensures.ok
