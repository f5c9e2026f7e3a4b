use Rattle.std.proofs.lemmas.Result.{on_ok_weaker}
use Rattle.json_of_descriptions.proofs.Putting.{fields_then}
use Rattle.json_of_descriptions.proofs.options.put_said.Goals as goal

pub returns : goal.returns
returns g c =
    on_ok_weaker c.put_flag_unless.result
    (λ h.
    let w4 = fields_then c.in_ok-put_optional-2.ensures h in
    let w3 = fields_then c.in_ok-put_hint.ensures w4 in
    let w2 = fields_then c.in_ok-put_values.ensures w3 in
    let w1 = fields_then c.in_ok-put_optional.ensures w2 in
    w1)
    c.put_flag_unless.ensures
