use Rattle.std.proofs.lemmas.Result.{on_ok_weaker}
use Rattle.json_of_descriptions.proofs.Putting.{fields_then}
use Rattle.json_of_descriptions.proofs.whole.put_title.Goals as goal

pub returns : goal.returns
returns g c =
    on_ok_weaker c.put_optional-3.result
    (λ h.
    let w4 = fields_then c.in_ok-put_optional-2.ensures h in
    let w3 = fields_then c.in_ok-put_optional.ensures w4 in
    let w2 = fields_then c.in_ok-put_text_unless.ensures w3 in
    let w1 = fields_then c.in_ok-put_text.ensures w2 in
    w1)
    c.put_optional-3.ensures
