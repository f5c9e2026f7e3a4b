use Rattle.std.proofs.lemmas.Result.{on_ok_weaker}
use Rattle.json_of_descriptions.proofs.Putting.{fields_then}
use Rattle.json_of_descriptions.proofs.whole.put_description.Goals as goal

pub returns : goal.returns
returns g c =
    on_ok_weaker c.put_level.result
    (λ h.
    let w4 = fields_then c.in_ok-put_options.ensures h in
    let w3 = fields_then c.in_ok-put_fixed_words.ensures w4 in
    let w2 = fields_then c.in_ok-put_text_unless.ensures w3 in
    let w1 = fields_then c.in_ok-put_title.ensures w2 in
    w1)
    c.put_level.ensures
