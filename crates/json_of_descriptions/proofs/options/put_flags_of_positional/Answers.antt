use Rattle.std.proofs.lemmas.Result.{on_ok_weaker}
use Rattle.description.specs.View.{positional_said}
use Rattle.json_of_descriptions.proofs.Flags.{flags_put, no_default}
use Rattle.json_of_descriptions.proofs.Putting.{fields_then}
use Rattle.json_of_descriptions.proofs.options.put_flags_of_positional.Goals as goal

pub returns : goal.returns
returns g c =
    on_ok_weaker c.put_flag_unless-3.result
    (λ h.
    let w2 = fields_then c.in_ok-put_flag_unless-2.ensures h in
    let w1 = fields_then c.in_ok-put_flag_unless.ensures w2 in
    flags_put c.args.out.now c.put_flag_unless-3.new.out (positional_said c.args.positional.now) c.is_none.result (no_default c.args.positional.now.default c.is_none.result c.is_none.ensures) w1)
    c.put_flag_unless-3.ensures
