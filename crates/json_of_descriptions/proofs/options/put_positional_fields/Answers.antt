use Rattle.std.proofs.lemmas.Result.{on_ok_weaker}
use Rattle.json_of_descriptions.proofs.Putting.{fields_then}
use Rattle.json_of_descriptions.proofs.options.put_positional_fields.Goals as goal

pub returns : goal.returns
returns g c =
    on_ok_weaker c.put_flags_of_positional.result
    (λ h.
    let w2 = fields_then c.in_ok-put_said.ensures h in
    let w1 = fields_then c.in_ok-put_text.ensures w2 in
    w1)
    c.put_flags_of_positional.ensures
