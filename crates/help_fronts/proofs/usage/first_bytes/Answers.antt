use Rattle.std.proofs.Common.{◌≡◌, ◌∙◌, ap, arith, length, min, rules, take}
use Rattle.std.proofs.lemmas.List.{take_min}
use Rattle.help_fronts.proofs.usage.first_bytes.Goals as goal

pub returns : goal.returns
returns c =
    let text = c.args.text.now in
    let len : c.min.result ≡ min 201 (length text) = omega (arith, c.min.ensures, c.as_bytes-bytes.ensures.len) in
    let front : c.split_at.result.0.now ≡ take c.min.result text = search rules in
    front ∙ ap (λ n. take n text) len ∙ take_min 201 text
