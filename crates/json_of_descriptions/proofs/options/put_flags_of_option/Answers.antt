use Rattle.std.proofs.lemmas.Result.{on_ok_weaker}
use Rattle.json_of_descriptions.proofs.Putting.{fields_then}
use Rattle.json_of_descriptions.proofs.options.put_flags_of_option.Goals as goal

pub returns : goal.returns
returns g c =
    on_ok_weaker c.put_flag_unless-2.result
    (λ h.
    let w1 = fields_then c.in_ok-put_flag_unless.ensures h in
    w1)
    c.put_flag_unless-2.ensures
