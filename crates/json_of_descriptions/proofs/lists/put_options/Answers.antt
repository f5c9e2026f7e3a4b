use Rattle.std.proofs.Common.{sym, ◌∙◌}
use Rattle.std.proofs.lemmas.Result.{on_ok_weaker}
use Rattle.json_of_descriptions.specs.Descriptions.{option_json}
use Rattle.description.specs.View.{opt_said}
use Rattle.json_of_descriptions.proofs.Putting.{list_none, list_put}
use Rattle.json_of_descriptions.proofs.lists.put_options.Goals as goal

pub returns-then-is_empty : goal.returns-then-is_empty
returns-then-is_empty g c = list_none option_json opt_said c.args.out.now c.args.key.now c.args.options.now.items c.as_slice-options.result.now c.as_slice-options.ensures.value (sym c.is_empty.ensures ∙ c.if-is_empty.true)

pub returns : goal.returns
returns g c =
    on_ok_weaker c.token.result
    (λ h. list_put option_json opt_said c.args.key.now c.args.options.now.items c.as_slice-options.result.now c.as_slice-options.ensures.value (sym c.is_empty.ensures ∙ c.if-is_empty.false) c.in_ok-begin_list.ensures c.in_ok-put_each_option.ensures h)
    c.token.ensures.ok
