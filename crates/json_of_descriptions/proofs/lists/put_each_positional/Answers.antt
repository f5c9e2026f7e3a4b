use Rattle.std.proofs.Common.{refl}
use Rattle.json_of_descriptions.specs.Descriptions.{positional_json}
use Rattle.description.specs.View.{positional_said}
use Rattle.json_of_descriptions.proofs.Putting.{object_put, values_all, values_next}
use Rattle.json_of_descriptions.proofs.lists.put_each_positional.Goals as goal

pub loop-positional-preserved : goal.loop-positional-preserved
loop-positional-preserved g c =
    values_next positional_json positional_said c.args.positionals.now c.loop-positional.positional-index _ _ c.loop-positional-test.true refl c.loop-positional.invariant (object_put c.in_ok-token.ensures.ok c.in_ok-put_positional_fields.ensures c.in_ok-token-2.ensures.ok)

pub returns : goal.returns
returns g c = values_all positional_json positional_said c.args.positionals.now c.loop-positional.positional-index c.loop-positional-test.false c.loop-positional.invariant
