use Rattle.std.proofs.Common.{refl}
use Rattle.json_of_descriptions.specs.Descriptions.{option_json}
use Rattle.description.specs.View.{opt_said}
use Rattle.json_of_descriptions.proofs.Putting.{object_put, values_all, values_next}
use Rattle.json_of_descriptions.proofs.lists.put_each_option.Goals as goal

pub loop-option-preserved : goal.loop-option-preserved
loop-option-preserved g c =
    values_next option_json opt_said c.args.options.now c.loop-option.option-index _ _ c.loop-option-test.true refl c.loop-option.invariant (object_put c.in_ok-token.ensures.ok c.in_ok-put_option_fields.ensures c.in_ok-token-2.ensures.ok)

pub returns : goal.returns
returns g c = values_all option_json opt_said c.args.options.now c.loop-option.option-index c.loop-option-test.false c.loop-option.invariant
